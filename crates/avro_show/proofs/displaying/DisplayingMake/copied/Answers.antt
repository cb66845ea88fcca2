use Rattle.std.proofs.Common.{◌≡◌, ◌∙◌, ◌++◌, true, List, ℕ, ap, subst, sym}
use Rattle.avro_schema.specs.Fits.{fits}
use Rattle.avro_schema.specs.Node.{Node, node_at}
use Rattle.avro_schema.specs.Seen.{node_of}
use Rattle.avro_schema.specs.SeenSchema.{schema_nodes}
use Rattle.avro_schema.specs.declared.schema.Schema.{Schema}
use Rattle.avro_schema.proofs.public.Choices.{HasFewChoices, HasFewChoices-from_is_schema}
use Rattle.avro_cursor.specs.Encoding.{Spells}
use Rattle.avro_display.specs.DisplayTree.{display_text}
use Rattle.avro_show.specs.Spans.{text_of}
use Rattle.avro_show.proofs.Opened.{made_text, null_alone}
use Rattle.avro_show.proofs.Spelled.{plain_spelled}
use Rattle.avro_show.proofs.displaying.DisplayingMake.copied.Goals as goal

pub returns-clause-stands : goal.returns-clause-stands
returns-clause-stands c = λ nodes n v alone fit plain of.
    let t = c.args.self.now.table.now in
    let text = c.args.self.now.scratch.now.text in
    let at = c.args.at in
    let begun = c.begin.new.self.text in
    let is : node_of c.get-node.result.now ≡ n = c.get-node.ensures.node ∙ ap (λ (s : Schema). node_at (schema_nodes s) at.node.0) c.schema.ensures ∙ sym of.1 in
    let few = subst HasFewChoices (sym c.get-node.ensures.node ∙ is) (HasFewChoices-from_is_schema (schema_nodes c.schema.result.now) c.get-node.ensures.formed at.node.0) in
    let spelled = subst (λ (b : List ℕ). Spells v b) plain (plain_spelled nodes n v few alone fit) in
    let shown = c.in_ok-append_encoded.ensures.shown nodes v (subst (λ (x : Node). fits nodes x v ≡ true) (sym is) fit) spelled in
    let made = made_text t at nodes n v text begun c.append_encoded.new.text c.opening-opening.result c.opening-opening.ensures of (null_alone nodes n v fit) c.in_ok-start.ensures.begun
    (shown ∙ ap (λ (x : Node). begun ++ display_text nodes x v) is) in
    c.in_ok-end.ensures.stands text (text_of t at v) made c.in_ok-start.ensures.start
