-- What the writer's fields are for, as the reader's are gone through from the last.
use Rattle.std.proofs.Common.{◌≡◌, ℕ, zero, suc, ◌+◌, ◌<◌, ◌≤◌, false, List, [], ◌∷◌, length, drop, Option, Some, None, refl, sym, ap, ◌∙◌, subst, arith, ⊎_elim}
use Rattle.std.proofs.Math.Seq.{drop-length}
use Rattle.std.specs.Prelude.{slice_get, slice_index_or, unwrap_or, ◌==◌}
use Rattle.std.proofs.lemmas.Bool.{cases_eq, eq-eqb, eqb-true, false_from_ne_true}
use Rattle.avro_schema.specs.Node.{FieldNode, field_ids}
use Rattle.avro_schema.specs.Seen.{seen_fields, field_of}
use Rattle.avro_schema.specs.declared.schema.Field.{Field}
use Rattle.avro_schema.specs.declared.schema.NodeId.{NodeId}
use Rattle.avro_compare.specs.inside.Noting.{AreIgnored, noted}
use Rattle.avro_compare.specs.Pairs.{part_to}
use Rattle.avro_compare.specs.Source.{is_index, reader_field, source_of}
use Rattle.avro_compare.specs.declared.comparison.At.{At}
use Rattle.avro_compare.specs.declared.comparison.At.TheVariants.{Pair}
use Rattle.avro_compare.proofs.public.Planning.{part_found, reader_past}

-- ---- The part that is noted

pub noted_past : (parts : List At) (index : ℕ) (at : At) → length parts ≤ index → parts ≡ noted parts index at
noted_past [] index at h = refl
noted_past (part ∷ parts) zero at h = absurd (omega (arith, h))
noted_past (part ∷ parts) (suc index) at h = ap (λ (rest : List At). part ∷ rest) (noted_past parts index at (omega (arith, h)))

pub noted_count : (parts : List At) (index : ℕ) (at : At) → length (noted parts index at) ≡ length parts
noted_count [] index at = refl
noted_count (part ∷ parts) zero at = refl
noted_count (part ∷ parts) (suc index) at = ap suc (noted_count parts index at)

pub counted : (fs : List Field) → length (seen_fields fs) ≡ length fs
counted [] = refl
counted (f ∷ fs) = ap suc (counted fs)

noted_here : (parts : List At) (index k : ℕ) (at x : At) → slice_get (noted parts index at) k ≡ Some x → k ≡ index → x ≡ at
noted_here [] index k at x got e = absurd cc
noted_here (part ∷ parts) zero zero at x got e = cc
noted_here (part ∷ parts) zero (suc k) at x got e = absurd (omega (arith, e))
noted_here (part ∷ parts) (suc index) zero at x got e = absurd (omega (arith, e))
noted_here (part ∷ parts) (suc index) (suc k) at x got e = noted_here parts index k at x got (omega (arith, e))

noted_other : (parts : List At) (index k : ℕ) (at x : At) → slice_get (noted parts index at) k ≡ Some x → (k ≡ index → ⊥) → slice_get parts k ≡ Some x
noted_other [] index k at x got ne = absurd cc
noted_other (part ∷ parts) zero zero at x got ne = absurd (ne refl)
noted_other (part ∷ parts) zero (suc k) at x got ne = got
noted_other (part ∷ parts) (suc index) zero at x got ne = got
noted_other (part ∷ parts) (suc index) (suc k) at x got ne = noted_other parts index k at x got (λ e. ne (ap suc e))

-- ---- The reader's fields from an index on

-- each is what the writer's field at its index is for among them
abbrev pub AreForFrom : List FieldNode → List Field → ℕ → List At → Type 0
AreForFrom ws reads n parts = (k : ℕ) (at : At) → slice_get parts k ≡ Some at
    → at ≡ part_to (unwrap_or (slice_get (field_ids ws) k) 0) (reader_field ws (seen_fields (drop n reads)) k)

pub for_none : (ws : List FieldNode) (reads : List Field) (n : ℕ) (parts : List At) → n ≡ length reads → AreIgnored parts → AreForFrom ws reads n parts
for_none ws reads n parts e none = λ k at got.
    none k at got
    ∙ ap (λ (fs : List Field). part_to (unwrap_or (slice_get (field_ids ws) k) 0) (reader_field ws (seen_fields fs) k)) (sym (ap (λ (m : ℕ). drop m reads) e ∙ drop-length reads))

module _ (ws : List FieldNode) (reads : List Field) (i : ℕ) (f : Field) (low : i < length reads) (is : f ≡ slice_index_or reads i f) where
  past : (k : ℕ) (at : At) → is_index (source_of ws (field_of f)) k ≡ false → at ≡ part_to (unwrap_or (slice_get (field_ids ws) k) 0) (reader_field ws (seen_fields (drop (i + 1) reads)) k)
      → at ≡ part_to (unwrap_or (slice_get (field_ids ws) k) 0) (reader_field ws (seen_fields (drop i reads)) k)
  past k at other h = h ∙ ap (part_to (unwrap_or (slice_get (field_ids ws) k) 0)) (sym (reader_past ws reads i k f low is other))

  pub for_past : (parts : List At) → source_of ws (field_of f) ≡ None → AreForFrom ws reads (i + 1) parts → AreForFrom ws reads i parts
  for_past parts e h = λ k at got. past k at (ap (λ (o : Option ℕ). is_index o k) e) (h k at got)

  pub for_noted : (parts new : List At) (index : ℕ) (node : NodeId) → source_of ws (field_of f) ≡ Some index → node.0 ≡ unwrap_or (slice_get (field_ids ws) index) 0
      → new ≡ noted parts index (Pair node f.node) → AreForFrom ws reads (i + 1) parts → AreForFrom ws reads i new
  for_noted parts new index node e there put h = λ k at got.
      let known = subst (λ (xs : List At). slice_get xs k ≡ Some at) put got in
      ⊎_elim
      (λ same. noted_here parts index k (Pair node f.node) at known same
      ∙ part_found ws reads i k f low is (ap (λ (o : Option ℕ). is_index o k) e ∙ eq-eqb index k (sym same)) _ refl node _ (there ∙ ap (λ (j : ℕ). unwrap_or (slice_get (field_ids ws) j) 0) (sym same)))
      (λ ne. past k at (ap (λ (o : Option ℕ). is_index o k) e ∙ false_from_ne_true (index == k) (λ t. ne (sym (eqb-true index k t)))) (h k at (noted_other parts index k (Pair node f.node) at known ne)))
      (cases_eq k index)
