-- The display of a whole, part by part.
use Rattle.std.proofs.Common.{◌≡◌, ◌<◌, ◌≤◌, ◌+◌, ℕ, List, [], ◌∷◌, ◌++◌, length, drop, get_or, Bool, true, sym, ap, subst, ◌∙◌, append_assoc, arith}
use Rattle.std.specs.Prelude.{String, string_bytes}
use Rattle.std.specs.List.{AllByRecursion}
use Rattle.std.specs.declared.alloc.Global.{Global}
use Rattle.std.proofs.lemmas.List.{drop_more, drop_all}
use Rattle.std.proofs.lemmas.Option.{get_or_from_slice_get}
use Rattle.serde_json.specs.Data.{Data, Items, Members}
use Rattle.serde_json.specs.Written.{comma_if, compact_text, items_text, members_text}
use Rattle.avro_display.specs.Displayed.{members_left, object_text}
use Rattle.avro_display.specs.Table.{head_text}
use Rattle.avro_display.specs.declared.member.Member.{Member}
use Rattle.avro_show.specs.Spans.{AreItemsAt, AreMembersAt, IsSpanAt, StandsIn}
use Rattle.avro_show.specs.declared.spans.Span.{Span}

module _ (text all now : List ℕ) where
  -- of all, these items are still to be appended, and the end
  abbrev pub ItemsLeft : Bool → List Span → Type 0
  ItemsLeft later spans = (left : Items) × AreItemsAt text spans left × (all ≡ now ++ items_text later left)

  abbrev pub EntriesLeft : Bool → List (String Global × Span) → Type 0
  EntriesLeft later spans = (left : Members) × AreMembersAt text spans left × (all ≡ now ++ members_text later left)

module _ (text all now next then : List ℕ) where
  pub items_more : (later : Bool) (spans : List Span) (i : ℕ) (s : Span) → i < length spans → next ≡ now ++ comma_if later
      → ((bytes : List ℕ) → StandsIn text (get_or spans i s) bytes → then ≡ next ++ bytes) → ItemsLeft text all now later (drop i spans) → ItemsLeft text all then true (drop (i + 1) spans)
  items_more later spans i s within has step left =
      let (ds, are, is) = subst (λ (l : List Span). ItemsLeft text all now later l) (drop_more spans i s within) left in
      let (d, rest, e, stands, more) = are in
      (rest, more, is ∙ ap (λ (x : Items). now ++ items_text later x) e ∙ rw (step (compact_text d) stands, has) (simp append_assoc))

  pub entries_more : (later : Bool) (spans rest : List (String Global × Span)) (k : String Global) (s : Span) → spans ≡ (k, s) ∷ rest → next ≡ now ++ (comma_if later ++ head_text (string_bytes k))
      → ((bytes : List ℕ) → StandsIn text s bytes → then ≡ next ++ bytes) → EntriesLeft text all now later spans → EntriesLeft text all then true rest
  entries_more later spans rest k s at has step left =
      let (ms, are, is) = subst (λ (l : List (String Global × Span)). EntriesLeft text all now later l) at left in
      let (d, others, e, stands, more) = are in
      (others, more, is ∙ ap (λ (x : Members). now ++ members_text later x) e ∙ rw (step (compact_text d) stands, has) (simp append_assoc))

module _ (all now next then : List ℕ) where
  pub members_more : (P : Member → Type 0) (tree : ℕ → Data) (ms : List Member) (i : ℕ) (m : Member) → i < length ms → m ≡ get_or ms i m → next ≡ now ++ m.head.items
      → (P m → then ≡ next ++ compact_text (tree m.field)) → AllByRecursion P (drop i ms) × (all ≡ now ++ members_left tree (drop i ms))
      → AllByRecursion P (drop (i + 1) ms) × (all ≡ then ++ members_left tree (drop (i + 1) ms))
  members_more P tree ms i m within at has step (are, is) =
      let left : drop i ms ≡ m ∷ drop (i + 1) ms = drop_more ms i m within ∙ ap (λ (x : Member). x ∷ drop (i + 1) ms) (sym at) in
      let each = subst (λ (l : List Member). AllByRecursion P l) left are in
      (each.1, is ∙ rw (left, step each.0, has) (simp append_assoc))

-- the last member, where there are some
pub members_last : (front now then : List ℕ) (tree : ℕ → Data) (ms : List Member) (i : ℕ) → 0 < length ms → length ms ≤ i → then ≡ now ++ 125 ∷ []
    → front ++ members_left tree ms ≡ now ++ members_left tree (drop i ms) → then ≡ front ++ object_text tree ms
members_last front now then tree [] i some past has is = absurd (omega (arith, some))
members_last front now then tree (m ∷ ms) i some past has is = has ∙ ap (λ (l : List Member). now ++ members_left tree l) (sym (drop_all i (m ∷ ms) past)) ∙ sym is

-- what stands where the span at an index says
pub span_here : (text : List ℕ) (spans : List Span) (k : ℕ) (s : Span) (bytes : List ℕ) → s ≡ get_or spans k s → IsSpanAt text spans k bytes → StandsIn text s bytes
span_here text spans k s bytes is (span, got, stands) = subst (λ (x : Span). StandsIn text x bytes) (sym (is ∙ get_or_from_slice_get spans k span s got)) stands
