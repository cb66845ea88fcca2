use Rattle.std.proofs.Common.{◌∙◌, sym, arith}
use Rattle.avro_explain.proofs.MarkedNodes.{among_marked, mark_at, none_past}
use Rattle.avro_explain.proofs.dying.is_marked.Goals as goal

pub returns-in-None : goal.returns-in-None
returns-in-None c = sym (among_marked c.args.marks.now c.args.id.0 ∙ none_past c.args.marks.now c.args.id.0 (omega (arith, c.in-None.ensures.lookup)))

pub returns-in-Some : goal.returns-in-Some
returns-in-Some c =
    let found = c.in-Some.ensures.lookup in
    found.1 ∙ mark_at c.args.marks.now c.args.id.0 c.in-Some.mark.now found.3.0 ∙ sym (among_marked c.args.marks.now c.args.id.0)
