use Rattle.std.proofs.Common.{◌≡◌, ◌∙◌, ◌++◌, true, ap, refl, subst, sym}
use Rattle.avro_schema.specs.Fits.{fits}
use Rattle.avro_schema.specs.Node.{Node, node_at}
use Rattle.avro_schema.specs.Seen.{node_of}
use Rattle.avro_schema.specs.SeenSchema.{schema_nodes}
use Rattle.avro_schema.specs.declared.schema.Schema.{Schema}
use Rattle.avro_binary.specs.Growing.{grows_on}
use Rattle.avro_binary.specs.LeafValue.{leaf_value}
use Rattle.avro_display.specs.DisplayTree.{display_text}
use Rattle.avro_display.proofs.public.Putting.{on_ok}
use Rattle.avro_show.specs.Spans.{text_of}
use Rattle.avro_show.proofs.Opened.{made_text, null_alone}
use Rattle.avro_show.proofs.Wholes.{given}
use Rattle.avro_show.proofs.displaying.DisplayingMake.leaf.Goals as goal

pub returns-clause-stands : goal.returns-clause-stands
returns-clause-stands c = λ nodes n fit. given _ c.end.result (λ of.
    let t = c.args.self.now.table.now in
    let text = c.args.self.now.scratch.now.text in
    let at = c.args.at in
    let v = leaf_value c.args.leaf in
    let is : node_of c.get-node.result.now ≡ n = c.get-node.ensures.node ∙ ap (λ (s : Schema). node_at (schema_nodes s) at.node.0) c.schema.ensures ∙ sym of.1 in
    let shown = c.in_ok-append_leaf.ensures.shown nodes (subst (λ (x : Node). fits nodes x v ≡ true) (sym is) fit) in
    let made = made_text t at nodes n v text c.begin.new.self.text c.append_leaf.new.text c.opening-opening.result c.opening-opening.ensures of (null_alone nodes n v fit) c.in_ok-start.ensures.begun
    (shown ∙ ap (λ (x : Node). c.begin.new.self.text ++ display_text nodes x v) is) in
    c.end.ensures.stands text (text_of t at v) made c.in_ok-start.ensures.start)

pub returns-clause-kept : goal.returns-clause-kept
returns-clause-kept c =
    let text = c.args.self.now.scratch.now.text in
    let begun = c.begin.new.self.text in
    let made = c.append_leaf.new.text in
    on_ok (λ ended. ((refl, grows_on text made c.end.new.self.text (grows_on text begun made c.in_ok-start.ensures.kept c.in_ok-append_leaf.ensures.kept) ended), refl)) c.end.result c.end.ensures.kept
