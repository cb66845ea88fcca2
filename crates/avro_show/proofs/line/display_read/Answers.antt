use Rattle.std.proofs.Common.{Ok, ap, refl, subst, sym, ◌∙◌}
use Rattle.avro_schema.specs.Node.{root_of}
use Rattle.avro_schema.specs.SeenSchema.{schema_nodes}
use Rattle.avro_binary.specs.Places.{alone}
use Rattle.avro_display.specs.DisplayTree.{display_text}
use Rattle.avro_show.specs.Spans.{StandsIn}
use Rattle.avro_show.specs.declared.scratch.Scratch.{Scratch}
use Rattle.avro_show.proofs.Read.{whole_stands}
use Rattle.avro_show.proofs.line.display_read.Goals as goal

pub returns-clause-found : goal.returns-clause-found
returns-clause-found c =
    let reads = rw (c.schema-schema.ensures, c.root-root.ensures.root) at c.in_ok-shown.ensures.reads in
    let (v, (kept, stands), low, encoded, within) = reads.found in
    let placed = c.of-place.ensures ∙ ap alone c.root-root.ensures.root in
    let last = c.read_made.new.maker in
    let here = whole_stands c.args.table.now last.table.now last.scratch.now.text (schema_nodes c.args.table.now) 0 c.of-place.result c.in_ok-shown.shown v kept.0.0 refl placed stands in
    (v, low, encoded, within, subst (λ (r : Scratch). StandsIn r.text c.in_ok-shown.shown (display_text (schema_nodes c.args.table.now) (root_of (schema_nodes c.args.table.now)) v)) (sym (c.scratch-1.given.1 (sym kept.1))) here)

pub returns-clause-begins : goal.returns-clause-begins
returns-clause-begins c = λ v front rest encoded within split.
    let reads = rw (c.schema-schema.ensures, c.root-root.ensures.root) at c.in_ok-shown.ensures.reads in
    ap Ok (reads.begins v front rest encoded within split).1
