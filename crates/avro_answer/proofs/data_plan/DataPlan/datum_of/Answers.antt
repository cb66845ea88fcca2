use Rattle.std.proofs.Common.{◌≡◌, ℕ, List, Option, Ok, subst}
use Rattle.avro_schema.specs.Node.{Node, node_at}
use Rattle.avro_schema.specs.Seen.{value_of}
use Rattle.avro_schema.specs.SeenSchema.{schema_nodes}
use Rattle.avro_schema.specs.Value.{Value}
use Rattle.std.specs.Prelude.{option_map}
use Rattle.avro_binary.specs.Reading.{ReadsExactly}
use Rattle.avro_answer.specs.ReadAnswer.{datum, IsAllFound, read_as}
use Rattle.avro_answer.proofs.DataFound.{datum_read}
use Rattle.avro_answer.proofs.DataPlans.{in_seen}
use Rattle.avro_answer.proofs.data_plan.DataPlan.datum_of.Goals as goal

pub returns-in-Ok : goal.returns-in-Ok
returns-in-Ok c =
    let p = c.self.inside in
    let W = schema_nodes p.writer.now in
    let L = c.args.limits.now in
    let B = c.args.bytes.now in
    let read = subst (λ n. ReadsExactly W (node_at W n) L B (Ok c.in-Ok.read)) c.root.ensures.root c.in-Ok.ensures in
    in_seen (λ (W : List Node) (R : Option (List Node)). (u : Value) (len : ℕ) → IsAllFound W R L 0 B (datum u len) → read_as W R (value_of c.in-Ok.read.0) ≡ Ok u)
    p.writer.now c.args.self.now p.plan c.self.view_is
    (datum_read W (option_map schema_nodes (option_map (λ q. q.1) p.plan)) L B c.in-Ok.read read)
