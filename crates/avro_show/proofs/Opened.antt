-- A display behind the text that opens it as the value of a union's branch.
use denote.Ref.{Bor}
use Rattle.std.proofs.Common.{◌≡◌, ◌∙◌, ℕ, List, [], ◌∷◌, ◌++◌, Option, Some, None, true, false, refl, sym, ap, subst, append-nil, append_assoc}
use Rattle.std.proofs.lemmas.Bool.{false≢true}
use Rattle.std.specs.Prelude.{option_map, slice_get}
use Rattle.avro_schema.specs.Fits.{fits}
use Rattle.avro_schema.specs.Node.{Node, fixed_length, node_at, symbols_of}
use Rattle.avro_schema.specs.SeenSchema.{schema_nodes}
use Rattle.avro_schema.specs.Value.{Value}
use Rattle.avro_schema.specs.declared.schema.Schema.{Schema}
use Rattle.avro_schema.proofs.public.FitsKind.{FitsKind, FitsKind-from_fits}
use Rattle.serde_json.specs.Written.{compact_text}
use Rattle.avro_binary.specs.Places.{branch_place, is_union}
use Rattle.avro_binary.specs.declared.place.Place.{Place}
use Rattle.avro_display.specs.DisplayTree.{branch_tree, display_text, display_tree, part_at}
use Rattle.avro_display.specs.Table.{opening_of}
use Rattle.avro_display.proofs.public.Opened.{branch_opened}
use Rattle.avro_show.specs.Spans.{IsOf, IsOpening, StandsFor, StandsIn, closed, opened, text_of, tree_in}
use Rattle.avro_show.specs.declared.spans.Span.{Span}

-- no text stands before what is no value of a branch
pub none_opens : (n : Node) → IsOpening None n None
none_opens n d null = refl

-- the text of a table for a node stands before the value of its branch
pub opens : (n : Node) (k : ℕ) (o : Option (Bor (List ℕ))) → option_map (λ text. text.now) o ≡ opening_of n → IsOpening o n (Some k)
opens Node.null k None is d null = ap compact_text (null refl)
opens n k (Some o) is d null = sym (branch_opened n d o.now is)
opens n k None is d null = absurd (cc (is))

-- a display is begun, made and ended
pub made_whole : (before begun made : List ℕ) (o : Option (Bor (List ℕ))) (bytes : List ℕ) → ((b : List ℕ) → begun ++ closed o b ≡ before ++ opened o b) → made ≡ begun ++ bytes
    → made ++ closed o [] ≡ before ++ opened o bytes
made_whole before begun made None bytes begins is = append-nil made ∙ is ∙ begins bytes
made_whole before begun made (Some o) bytes begins is =
    ap (λ (b : List ℕ). b ++ 125 ∷ []) is ∙ append_assoc begun bytes (125 ∷ []) ∙ begins bytes

-- a datum of the node of null is null
null_kind : (nodes : List Node) (n : Node) (v : Value) → FitsKind nodes n v → n ≡ Node.null → v ≡ Value.null
null_kind nodes n Value.null kind is = refl
null_kind nodes n (Value.boolean b) kind is = absurd (cc (kind, is))
null_kind nodes n (Value.int i) kind is = absurd (cc (kind.0, is))
null_kind nodes n (Value.long i) kind is = absurd (cc (kind.0, is))
null_kind nodes n (Value.bytes b) kind is = absurd (cc (kind.0, is))
null_kind nodes n (Value.string t) kind is = absurd (cc (kind.0, is))
null_kind nodes n (Value.array vs) kind is = absurd (cc (kind.is_array, is))
null_kind nodes n (Value.map_of es) kind is = absurd (cc (kind.is_map, is))
null_kind nodes n (Value.union k v) kind is = absurd (cc (kind.is_union, is))
null_kind nodes n (Value.record_of vs) kind is = absurd (cc (kind.is_record, is))
null_kind nodes n (Value.enum k) kind is = absurd (cc (kind.1, ap symbols_of is))
null_kind nodes n (Value.fixed b) kind is = absurd (cc (kind.2, ap fixed_length is))

pub null_alone : (nodes : List Node) (n : Node) (v : Value) → fits nodes n v ≡ true → n ≡ Node.null → v ≡ Value.null
null_alone nodes n v fit = null_kind nodes n v (FitsKind-from_fits nodes n v fit)

-- the display of a value behind the text that opens it is that of the value at the place
pub opened_text : (t : Schema) (at : Place) (n : Node) (v : Value) (o : Option (Bor (List ℕ))) → IsOpening o (node_at (schema_nodes t) at.node.0) at.branch → n ≡ node_at (schema_nodes t) at.node.0
    → (n ≡ Node.null → v ≡ Value.null) → opened o (display_text (schema_nodes t) n v) ≡ text_of t at v
opened_text t at n v o opens is null =
    let nodes = schema_nodes t in
    ap (λ (x : Node). opened o (display_text nodes x v)) is ∙ opens (display_tree nodes (node_at nodes at.node.0) v) (λ e. ap (display_tree nodes (node_at nodes at.node.0)) (null (is ∙ e)))

-- the same of what was put together, by the place that its parts know
pub whole_text : (t : Schema) (at owner : Place) (n : Node) (v : Value) (o : Option (Bor (List ℕ))) (whole : List ℕ) → IsOpening o (node_at (schema_nodes t) owner.node.0) owner.branch → owner ≡ at
    → n ≡ node_at (schema_nodes t) at.node.0 → (n ≡ Node.null → v ≡ Value.null) → whole ≡ display_text (schema_nodes t) n v → opened o whole ≡ text_of t at v
whole_text t at owner n v o whole opens own is null shown =
    ap (opened o) shown ∙ opened_text t at n v o (subst (λ (p : Place). IsOpening o (node_at (schema_nodes t) p.node.0) p.branch) own opens) is null

-- the same of what was begun, made and ended
pub made_text : (t : Schema) (at : Place) (nodes : List Node) (n : Node) (v : Value) (before begun made : List ℕ) (o : Option (Bor (List ℕ))) → IsOpening o (node_at (schema_nodes t) at.node.0) at.branch
    → IsOf t nodes n at → (n ≡ Node.null → v ≡ Value.null) → ((b : List ℕ) → begun ++ closed o b ≡ before ++ opened o b) → made ≡ begun ++ display_text nodes n v
    → made ++ closed o [] ≡ before ++ text_of t at v
made_text t at nodes n v before begun made o opens (same, is, may) null begins shown =
    made_whole before begun made o (display_text nodes n v) begins shown
    ∙ ap (λ (b : List ℕ). before ++ b) (ap (λ (ns : List Node). opened o (display_text ns n v)) same ∙ opened_text t at n v o opens is null)

-- the display of the value of a branch is that of the union
pub branch_text : (t : Schema) (at : Place) (nodes : List Node) (ids : List ℕ) (k id : ℕ) (v : Value) → IsOf t nodes (Node.union ids) at → slice_get ids k ≡ Some id
    → text_of t (branch_place k id) v ≡ text_of t at (Value.union k v)
branch_text t at nodes ids k id v (same, is, alone) got =
    let ns = schema_nodes t in
    let n = node_at ns at.node.0 in
    sym (ap (λ (b : Option ℕ). compact_text (tree_in b n (display_tree ns n (Value.union k v)))) (alone refl) ∙ ap (λ (x : Node). display_text ns x (Value.union k v)) (sym is)
    ∙ ap (λ (o : Option ℕ). compact_text (branch_tree (part_at ns o) (display_tree ns (part_at ns o) v))) got)

-- what stands for the value of a branch stands for the union
pub branch_stands : (t : Schema) (text : List ℕ) (at : Place) (nodes : List Node) (ids : List ℕ) (k id : ℕ) (v : Value) (span : Span) → slice_get ids k ≡ Some id → is_union (node_at nodes id) ≡ false
    → StandsFor t text nodes (node_at nodes id) (branch_place k id) span v → StandsFor t text nodes (Node.union ids) at span (Value.union k v)
branch_stands t text at nodes ids k id v span got apart stands of =
    subst (λ (b : List ℕ). StandsIn text span b) (branch_text t at nodes ids k id v of got)
    (stands (of.0, ap (λ (ns : List Node). node_at ns id) of.0, λ e. absurd (false≢true (sym apart ∙ e))))
