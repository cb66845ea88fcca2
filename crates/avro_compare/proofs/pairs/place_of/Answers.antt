use Rattle.std.proofs.Common.{◌≡◌, ◌∙◌, Bool, ℕ, Option, Some, None, true, false, cond, ap, sym, rules}
use Rattle.std.specs.BTreeMap.{get}
use Rattle.std.specs.Ordering.{nat_cmp}
use Rattle.avro_schema.specs.Node.{node_at}
use Rattle.avro_schema.specs.SeenSchema.{schema_nodes}
use Rattle.avro_compare.specs.Match.{is_match}
use Rattle.avro_compare.proofs.FirstOfType.{no_place}
use Rattle.avro_compare.proofs.pairs.place_of.Goals as goal

pub returns-in-None : goal.returns-in-None
returns-in-None c =
    let ws = schema_nodes c.args.writer.now in
    let rs = schema_nodes c.args.reader.now in
    let none : get nat_cmp c.args.places.now c.args.id ≡ None = search rules in
    no_place (is_match ws rs (node_at ws c.args.w.0) (node_at rs c.args.id)) (get nat_cmp c.args.places.now c.args.id) none
