use Rattle.std.proofs.Common.{refl, subst, sym}
use Rattle.avro_schema.specs.Node.{root_of}
use Rattle.avro_schema.specs.SeenSchema.{schema_nodes}
use Rattle.avro_binary.specs.Places.{alone}
use Rattle.avro_display.specs.DisplayTree.{display_text}
use Rattle.avro_show.specs.Spans.{StandsIn}
use Rattle.avro_show.specs.declared.scratch.Scratch.{Scratch}
use Rattle.avro_show.proofs.Read.{whole_stands}
use Rattle.avro_show.proofs.line.display_resolved.Goals as goal

pub returns-clause-found : goal.returns-clause-found
returns-clause-found c = λ same.
    let (u, stands, reads) = c.in_ok-shown.ensures.reads.found in
    let kept = c.in_ok-shown.ensures.kept in
    let last = c.put.new.maker in
    let here = whole_stands c.args.table.now last.table.now last.scratch.now.text (schema_nodes c.args.plan.now.1) 0 (alone 0) c.in_ok-shown.shown u kept.0.0 (sym same) refl stands in
    (u, reads, subst (λ (r : Scratch). StandsIn r.text c.in_ok-shown.shown (display_text (schema_nodes c.args.table.now) (root_of (schema_nodes c.args.table.now)) u)) (sym (c.scratch-1.given.1 (sym kept.1))) here)
