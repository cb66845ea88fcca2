use Rattle.std.proofs.Common.{arith}
use Rattle.avro_schema_json.proofs.KindsSeen.{kind-put, kind-added}
use Rattle.avro_schema_json.proofs.defaults.kinds.put_kind.Goals as goal

pub returns-clause-kept : goal.returns-clause-kept
returns-clause-kept c =
    kind-put c.args.rows.now c.insert.new.self c.args.kind c.put.new.row (λ p has. c.put.ensures.kept p (c.row_of_kind-row.ensures p has))
    (λ q. c.in_ok-insert.ensures.updates.0 q)

pub returns-clause-added : goal.returns-clause-added
returns-clause-added c = grind (arith, kind-added)
