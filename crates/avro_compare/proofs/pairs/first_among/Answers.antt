use Rattle.std.proofs.Common.{slice_index_or, sym, ◌∙◌}
use Rattle.std.proofs.lemmas.Option.{slice_get-get_or}
use Rattle.avro_schema.specs.Node.{node_at}
use Rattle.avro_schema.specs.SeenSchema.{schema_nodes}
use Rattle.avro_compare.proofs.Pairing.{found_here}
use Rattle.avro_compare.proofs.pairs.first_among.Goals as goal

pub returns-then-matches_by : goal.returns-then-matches_by
returns-then-matches_by c =
    let ws = schema_nodes c.args.writer.now in
    let rs = schema_nodes c.args.reader.now in
    let ids = c.args.branches.now in
    let i = c.loop-index.index in
    let got = slice_get-get_or ids i (record { 0 = 0 }) c.loop-index-test.true in
    let yes = sym c.matches_by.ensures ∙ c.if-matches_by.true in
    sym (c.loop-index.invariant ∙ found_here ws rs (node_at ws c.args.w.0) i i ids (slice_index_or ids i (record { 0 = 0 })) got yes)
