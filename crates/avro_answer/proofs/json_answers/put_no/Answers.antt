use Rattle.std.proofs.Common.{◌∙◌, codes}
use Rattle.std.proofs.lemmas.Result.{on_ok_weaker}
use Rattle.serde_json.specs.Data.{string, Members, member}
use Rattle.serde_json.specs.Written.{compact_text}
use Rattle.avro_answer.specs.JsonAnswer.{fault_tree}
use Rattle.avro_answer.specs.inside.JsonText.{named_path}
use Rattle.avro_answer.proofs.JsonMembers.{as_members, of_value, one_more}
use Rattle.avro_answer.proofs.json_answers.put_no.Goals as goal

pub returns : goal.returns
returns c =
    let old = c.args.answer.now in
    let one = c.put_text.new.self in
    let new = c.put_json.new.self in
    let no = string (codes "no") in
    let fault = fault_tree c.args.fault.now (named_path c.args.place.now) in
    on_ok_weaker c.put_json.result (λ put. one_more old one new (λ (rest : Members). member (codes "verdict") no rest) (codes "fault") fault
    (as_members old one (codes "verdict") no c.in_ok-put_text.ensures)
    (of_value one new (codes "fault") c.deref.result.now (compact_text fault) (c.deref.ensures ∙ c.in_ok-fault.ensures) put))
    c.put_json.ensures
