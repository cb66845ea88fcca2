use Rattle.std.proofs.Common.{◌≡◌, ◌<◌, ◌∙◌, length, rules}
use Rattle.avro_schema.specs.Node.{node_at}
use Rattle.avro_schema.specs.SeenSchema.{schema_nodes}
use Rattle.avro_compare.proofs.FirstOfType.{listed_next}
use Rattle.avro_compare.proofs.pairs.first_listed.Goals as goal

pub loop-index-preserved : goal.loop-index-preserved
loop-index-preserved c =
    let ws = schema_nodes c.args.writer.now in
    let rs = schema_nodes c.args.reader.now in
    let l = c.loop-index in
    let ks = c.args.types.now.keys in
    let low : l.index < length ks = search rules in
    l.invariant ∙ listed_next ws rs (node_at ws c.args.w.0) c.args.places.now ks l.index l.best c.place_at.result c.least-best.result low c.place_at.ensures c.least-best.ensures
