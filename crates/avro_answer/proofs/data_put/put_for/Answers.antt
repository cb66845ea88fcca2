use Rattle.std.proofs.Common.{◌≡◌, ◌∙◌, ◌++◌, Ok, subst, sym}
use Rattle.std.specs.Prelude.{OnErr, OnOk}
use Rattle.avro_schema.specs.Node.{root_of}
use Rattle.avro_schema.specs.Seen.{value_of}
use Rattle.avro_schema.specs.SeenSchema.{schema_nodes}
use Rattle.avro_schema.specs.declared.schema.Schema.{Schema}
use Rattle.avro_compare.specs.Resolve.{resolve_root}
use Rattle.avro_device.specs.PutFront.{PutsFrontOf}
use Rattle.avro_display.specs.DisplayTree.{display_text}
use Rattle.avro_display.specs.Pieces.{PutsText}
use Rattle.avro_answer.proofs.data_put.put_for.Goals as goal

pub returns-clause-put : goal.returns-clause-put
returns-clause-put g c = λ u resolved.
    let one = c.put_resolved in
    subst (λ (t : Schema). OnOk one.result (PutsText g.O.Output.keeps c.args.out.now c.args.text.now (display_text (schema_nodes t) (root_of (schema_nodes t)) u) one.new.out one.new.text))
    c.new.ensures.table
    (one.ensures.put u (subst (λ (p : Schema × Schema). resolve_root (schema_nodes p.0) (schema_nodes p.1) (value_of c.args.datum.now) ≡ Ok u)
    (sym (c.new.ensures.plan ∙ c.by_ref-plan.ensures)) resolved))

pub returns-clause-front : goal.returns-clause-front
returns-clause-front g c = λ u resolved.
    let one = c.put_resolved in
    subst (λ (t : Schema). OnErr one.result (PutsFrontOf g.O.Output.keeps c.args.out.now one.new.out (c.args.text.now ++ display_text (schema_nodes t) (root_of (schema_nodes t)) u)))
    c.new.ensures.table
    (one.ensures.front u (subst (λ (p : Schema × Schema). resolve_root (schema_nodes p.0) (schema_nodes p.1) (value_of c.args.datum.now) ≡ Ok u)
    (sym (c.new.ensures.plan ∙ c.by_ref-plan.ensures)) resolved))
