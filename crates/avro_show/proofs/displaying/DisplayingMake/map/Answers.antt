use Rattle.std.proofs.Common.{◌∙◌, ◌++◌, List, ℕ, ap, subst}
use Rattle.std.specs.Prelude.{IfOk}
use Rattle.avro_schema.specs.Node.{Node, node_at}
use Rattle.avro_schema.specs.Seen.{entries_from}
use Rattle.avro_schema.specs.SeenSchema.{schema_nodes}
use Rattle.avro_schema.specs.Value.{Value}
use Rattle.serde_json.specs.Data.{no_members}
use Rattle.avro_display.specs.DisplayTree.{display_entries, display_text}
use Rattle.avro_show.specs.Spans.{StandsIn}
use Rattle.avro_show.proofs.Opened.{whole_text}
use Rattle.avro_show.proofs.Wholes.{given}
use Rattle.avro_show.proofs.displaying.DisplayingMake.map.Goals as goal

pub returns-clause-stands : goal.returns-clause-stands
returns-clause-stands c = λ nodes id at es entries. given _ c.composed.result (λ of.
    let t = c.args.self.now.table.now in
    let v = Value.map_of (entries_from es) in
    let (own, are) = entries of in
    let shown = c.in_ok-append_entries.ensures (display_entries (schema_nodes t) (node_at (schema_nodes t) id) (entries_from es) no_members) (rw c.as_slice.ensures are) in
    let whole = whole_text t at c.args.entries.owner (Node.map_of id) v c.opening-opening.result c.append_entries.new.whole c.opening-opening.ensures own of.1 (λ e. absurd (cc (e)))
    (shown ∙ ap (λ (b : List ℕ). b ++ display_text (schema_nodes t) (Node.map_of id) v) c.clear.ensures) in
    subst (λ (b : List ℕ). IfOk c.composed.result (λ span. StandsIn c.composed.new.self.text span b)) whole c.composed.ensures.stands)
