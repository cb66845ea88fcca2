use Rattle.std.proofs.Common.{sym, ◌∙◌}
use Rattle.avro_schema.specs.Seen.{node_of}
use Rattle.avro_schema.specs.SeenSchema.{schema_nodes}
use Rattle.avro_binary.proofs.NodeKinds.{none_have_parts}
use Rattle.avro_binary.proofs.PieceSteps.{passed_of}
use Rattle.avro_binary.proofs.reading.pieces.pass_leaf.Goals as goal

pub returns-in_default : goal.returns-in_default
returns-in_default c = λ ok.
    let nodes = schema_nodes c.args.schema.now in
    let leaf = none_have_parts c.get.result.now c.in_default.not-Array c.in_default.not-Map c.in_default.not-Union c.in_default.not-Record in
    rw (sym c.get.ensures.node)
    (passed_of nodes (node_of c.get.result.now) c.args.cursor.now c.next_leaf.new.cursor c.next_leaf.result (c.next_leaf.ensures nodes leaf) (sym c.is_ok.ensures.value ∙ ok))
