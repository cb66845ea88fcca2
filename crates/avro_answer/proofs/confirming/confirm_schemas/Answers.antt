use Rattle.std.proofs.Common.{◌∙◌, Bool, ap}
use Rattle.avro_schema.specs.SeenSchema.{schema_nodes}
use Rattle.avro_certificate.specs.Closed.{is_closed}
use Rattle.avro_certificate.specs.SeenCertificate.{dead_of, pairs_in}
use Rattle.avro_answer.specs.JsonAnswer.{json_line, confirmed_tree}
use Rattle.avro_answer.proofs.JsonMembers.{confirmed_is}
use Rattle.avro_answer.proofs.confirming.confirm_schemas.Goals as goal

pub returns-clause-json : goal.returns-clause-json
returns-clause-json c = λ is_json.
    let closed = is_closed (schema_nodes c.args.writer.now) (schema_nodes c.args.reader.now) (dead_of c.args.certificate.now) (pairs_in c.args.certificate.now) in
    c.in_ok-answer_confirmed.ensures.json is_json
    ∙ ap (λ (b : Bool). json_line (confirmed_tree b))
    (c.is_some-is_confirmed.ensures ∙ confirmed_is c.in_ok-confirm.field-0 closed c.in_ok-confirm.ensures.confirmed c.in_ok-confirm.ensures.refused)
