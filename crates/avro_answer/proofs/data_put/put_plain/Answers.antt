use Rattle.std.proofs.Common.{refl}
use Rattle.avro_schema.specs.Node.{root_of}
use Rattle.avro_schema.specs.Seen.{value_of}
use Rattle.avro_schema.specs.SeenSchema.{schema_nodes}
use Rattle.avro_display.specs.DisplayTree.{display_tree}
use Rattle.avro_answer.proofs.data_put.put_plain.Goals as goal

pub returns-clause-put : goal.returns-clause-put
returns-clause-put g c =
    let nodes = schema_nodes c.args.table.now in
    c.put_displayed.ensures.put (display_tree nodes (root_of nodes) (value_of c.args.datum.now)) (rw (c.new.ensures, c.root-root.ensures.root) refl)

pub returns-clause-front : goal.returns-clause-front
returns-clause-front g c =
    let nodes = schema_nodes c.args.table.now in
    c.put_displayed.ensures.front (display_tree nodes (root_of nodes) (value_of c.args.datum.now)) (rw (c.new.ensures, c.root-root.ensures.root) refl)
