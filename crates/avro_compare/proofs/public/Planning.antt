-- What a plan keeps.
use Rattle.std.proofs.Common.{◌≡◌, ℕ, ◌+◌, ◌<◌, List, [], ◌∷◌, ◌++◌, drop, length, true, false, Option, Some, None, refl, sym, ap, ◌∙◌, subst, arith, ⊎_elim}
use Rattle.std.specs.Prelude.{slice_get, slice_index_or, cond}
use Rattle.std.proofs.lemmas.Option.{slice_get-get_or}
use Rattle.std.proofs.lemmas.Bool.{cases_lt, cases_eq, cond-true, cond-false}
use Rattle.avro_schema.specs.Node.{FieldNode}
use Rattle.avro_schema.specs.Seen.{seen_fields, field_of}
use Rattle.avro_schema.specs.declared.schema.Field.{Field}
use Rattle.avro_schema.specs.declared.schema.NodeId.{NodeId}
use Rattle.avro_compare.specs.Pairs.{part_to}
use Rattle.avro_compare.specs.Source.{is_index, reader_field, source_of}
use Rattle.avro_compare.specs.declared.comparison.At.TheVariants.{Pair}
use Rattle.avro_compare.proofs.public.Lists.{one_longer}
use Rattle.avro_compare.proofs.public.Lists.{get_before, get_last, get_past, seen_next}

-- what is kept at an index, which a call may reckon
pub kept_here : (kept : List (Option ℕ)) (index at : ℕ) → at ≡ index → index < length kept → slice_get kept index ≡ Some (slice_index_or kept at None)
kept_here kept index at same low = subst (λ (k : ℕ). slice_get kept index ≡ Some (slice_index_or kept k None)) (sym same) (slice_get-get_or kept index None low)

-- ---- What holds of each at its index

abbrev pub Holds : {A : Type 0} → (ℕ → A → Type 0) → List A → Type 0
Holds {A = A} P xs = (k : ℕ) (x : A) → slice_get xs k ≡ Some x → P k x

pub same_some : {A : Type 0} {o : Option A} {x y : A} → o ≡ Some x → o ≡ Some y → x ≡ y
same_some e f = cc

pub holds_none : {A : Type 0} (P : ℕ → A → Type 0) {xs : List A} → xs ≡ [] → Holds P xs × (length xs ≡ 0)
holds_none {A = A} P e = subst (λ (ys : List A). Holds P ys × (length ys ≡ 0)) (sym e) ((λ k x got. absurd (cc)), refl)

module _ {A : Type 0} (P : ℕ → A → Type 0) (xs : List A) (x : A) where
  at_end : (k : ℕ) (y : A) → length xs ≡ k → slice_get (xs ++ x ∷ []) k ≡ Some y → x ≡ y
  at_end k y e got = same_some (get_last xs x) (subst (λ (j : ℕ). slice_get (xs ++ x ∷ []) j ≡ Some y) (sym e) got)

  past_end : (k : ℕ) (y : A) → length xs < k → slice_get (xs ++ x ∷ []) k ≡ Some y → ⊥
  past_end k y high got = none_is (sym (get_past xs x k high) ∙ got)
    where
      none_is : {y : A} → None ≡ Some y → ⊥
      none_is e = cc

  holds_more : Holds P xs → P (length xs) x → Holds P (xs ++ x ∷ [])
  holds_more h last k y got =
      ⊎_elim
      (λ low. h k y (sym (get_before xs x k low) ∙ got))
      (λ high. ⊎_elim (λ e. subst (P k) (at_end k y e got) (subst (λ (j : ℕ). P j x) e last)) (λ ne. absurd (past_end k y (omega (arith, high, ne)) got)) (cases_eq (length xs) k))
      (cases_lt k (length xs))

pub holds_push : {A : Type 0} (P : ℕ → A → Type 0) (xs new : List A) (x : A) (m : ℕ) → new ≡ xs ++ x ∷ [] → Holds P xs × (length xs ≡ m) → P m x → Holds P new × (length new ≡ m + 1)
holds_push {A = A} P xs new x m pushed h last =
    subst (λ (ys : List A). Holds P ys × (length ys ≡ m + 1)) (sym pushed) (holds_more P xs x h.0 (subst (λ (j : ℕ). P j x) (sym h.1) last), counted)
  where
    counted : length (xs ++ x ∷ []) ≡ m + 1
    counted = omega (arith, one_longer xs x, h.1)

-- ---- The reader's fields in order

module _ (ws : List FieldNode) (reads : List Field) (i index : ℕ) (f : Field) (low : i < length reads) (is : f ≡ slice_index_or reads i f) where
  step : reader_field ws (seen_fields (drop i reads)) index ≡ cond (is_index (source_of ws (field_of f)) index) (Some (field_of f)) (reader_field ws (seen_fields (drop (i + 1) reads)) index)
  step = ap (λ (fs : List FieldNode). reader_field ws fs index) (seen_next reads i f low ∙ ap (λ (g : Field). field_of g ∷ seen_fields (drop (i + 1) reads)) (sym is))

  pub reader_past : is_index (source_of ws (field_of f)) index ≡ false → reader_field ws (seen_fields (drop i reads)) index ≡ reader_field ws (seen_fields (drop (i + 1) reads)) index
  reader_past e = step ∙ cond-false (is_index (source_of ws (field_of f)) index) (Some (field_of f)) (reader_field ws (seen_fields (drop (i + 1) reads)) index) e

  pub part_found : is_index (source_of ws (field_of f)) index ≡ true → (all : Option FieldNode) → all ≡ reader_field ws (seen_fields (drop i reads)) index → (node : NodeId) (j : ℕ) → node.0 ≡ j
      → Pair node f.node ≡ part_to j all
  part_found e all left node j at =
      let here = step ∙ cond-true (is_index (source_of ws (field_of f)) index) (Some (field_of f)) (reader_field ws (seen_fields (drop (i + 1) reads)) index) e in
      ap (λ (m : ℕ). part_to m (Some (field_of f))) at ∙ ap (part_to j) (sym (left ∙ here))
