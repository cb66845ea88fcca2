use Rattle.std.proofs.Common.{sym, subst}
use Rattle.avro_schema.specs.Node.{Node, node_at}
use Rattle.avro_schema.specs.SeenSchema.{schema_nodes}
use Rattle.avro_cursor.specs.CursorValue.{CursorValue}
use Rattle.avro_binary.specs.inside.PassesAtOnce.{PassesAtOnce}
use Rattle.avro_binary.proofs.PieceSteps.{passes_kept}
use Rattle.avro_binary.proofs.reading.records.pass_at_once.Goals as goal

pub returns-in-None-clause-passes : goal.returns-in-None-clause-passes
returns-in-None-clause-passes g c = λ name aliases is.
    let nodes = schema_nodes c.args.schema.now in
    let n = node_at nodes c.args.id.0 in
    let maker = c.args.maker.now in
    let mid = c.pass_empty.new.maker in
    let made = c.take_pieces.new.maker in
    let before = c.args.cursor.now in
    let after = c.take_pieces.new.cursor in
    let result = c.take_pieces.result in
    let none = c.in_ok-out.ensures.passes.none c.in-None.is in
    let at_node = subst (λ (m : Node). PassesAtOnce g.M.Make.keeps (λ s. g.M.Make.stands_for s nodes m c.args.at) nodes m mid made c.pass_empty.new.cursor after result) (sym is) (c.take_pieces.ensures.passes name aliases) in
    passes_kept g.M.Make.keeps (λ s. g.M.Make.stands_for s nodes n c.args.at) nodes n maker mid made before after (g.met.M.Make.keeps_on maker mid made none.1) result
    (subst (λ (at : CursorValue). PassesAtOnce g.M.Make.keeps (λ s. g.M.Make.stands_for s nodes n c.args.at) nodes n mid made at after result) none.0 at_node)
