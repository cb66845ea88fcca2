use Rattle.std.proofs.Common.{refl}
use Rattle.avro_schema.specs.Node.{root_of}
use Rattle.avro_schema.specs.SeenSchema.{schema_nodes}
use Rattle.avro_display.specs.DisplayTree.{display_tree}
use Rattle.avro_show.proofs.show.put_resolved.Goals as goal

pub returns-clause-put : goal.returns-clause-put
returns-clause-put g c = λ u resolved.
    let nodes = schema_nodes c.args.resolved.now.table.now in
    let d = display_tree nodes (root_of nodes) u in
    c.put_displayed.ensures.put d (u, rw (c.roots.ensures.of_writer, c.roots.ensures.of_reader) resolved, rw c.root.ensures.root refl)

pub returns-clause-front : goal.returns-clause-front
returns-clause-front g c = λ u resolved.
    let nodes = schema_nodes c.args.resolved.now.table.now in
    let d = display_tree nodes (root_of nodes) u in
    c.put_displayed.ensures.front d (u, rw (c.roots.ensures.of_writer, c.roots.ensures.of_reader) resolved, rw c.root.ensures.root refl)
