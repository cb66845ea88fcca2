-- Entries that are set, and tables at the start.
use Rattle.std.proofs.Common.{◌≡◌, ℕ, zero, suc, ◌<◌, true, false, List, [], ◌∷◌, Option, Some, None, inl, inr, length, refl, sym, ◌∙◌, ap, subst, arith, slice_get, unwrap_or, is_some, nat_lt, ◌==◌, ◌&&◌, set, replicate}
use Rattle.std.proofs.lemmas.Bool.{false≢true, true≢false, ltb-true, eqb-true, cases_lt}
use Rattle.std.proofs.lemmas.Option.{slice_get_past, slice_get-get_or}
use Rattle.std.proofs.lemmas.List.{get_or-set_same, length-set, length-replicate}
use Rattle.avro_schema.specs.Value.{Value}
use Rattle.avro_schema.specs.Node.{Node, node_at}
use Rattle.avro_least.specs.Tables.{Least, AtMost, AreDataShown, ShowsData, one}
use Rattle.avro_least.specs.SeenLeast.{seen, entry_of, table_of, improves, weight}
use Rattle.avro_least.specs.declared.kept.Least.{Least as KeptLeast}
use Rattle.avro_certificate.proofs.public.Tests.{and_left, and_right, or_cases}
use Rattle.avro_least.proofs.LeastOrder.{follows_under}

-- the entry that was set
pub set_here : {A : Type 0} (xs : List A) (i : ℕ) (x : A) → i < length xs → slice_get (set xs i x) i ≡ Some x
set_here xs i x h =
    slice_get-get_or (set xs i x) i x (rw (length-set xs i x) h) ∙ ap Some (get_or-set_same xs i x x h)

-- and another
pub set_other : {A : Type 0} (xs : List A) (i j : ℕ) (x : A) → (j ≡ i → ⊥) → slice_get (set xs i x) j ≡ slice_get xs j
set_other [] i j x apart = grind arith
set_other (y ∷ ys) zero zero x apart = absurd (apart refl)
set_other (y ∷ ys) zero (suc j) x apart = refl
set_other (y ∷ ys) (suc i) zero x apart = refl
set_other (y ∷ ys) (suc i) (suc j) x apart = set_other ys i j x (λ e. apart (ap suc e))

-- an entry that is improved weighs less
pub weight_falls : (a b : Option KeptLeast) → improves (seen a) (seen b) ≡ true → weight a < weight b
weight_falls None b h = absurd (false≢true h)
weight_falls (Some a) None h = omega (arith, a.few, a.flat)
weight_falls (Some a) (Some b) h = elim (or_cases (nat_lt a.nodes b.nodes) (a.nodes == b.nodes && nat_lt a.depth b.depth) h) [
  | inl first ↦ omega (arith, ltb-true a.nodes b.nodes first, a.few, a.flat)
  | inr later ↦ omega (
    arith,
    eqb-true a.nodes b.nodes (and_left (a.nodes == b.nodes) (nat_lt a.depth b.depth) later),
    ltb-true a.depth b.depth (and_right (a.nodes == b.nodes) (nat_lt a.depth b.depth) later),
  )
]

-- what does not improve is no less
pub improves_low : (a b : Option Least) (s d : ℕ) → improves a b ≡ false → AtMost a s d → AtMost b s d
improves_low None b s d h m = absurd m
improves_low (Some a) None s d h m = absurd (true≢false h)
improves_low (Some a) (Some b) s d h m = follows_under b a s d h m

-- an entry at the start
pub slice_get-replicate : (n p : ℕ) → p < n → slice_get (replicate {A = Option KeptLeast} n None) p ≡ Some None
slice_get-replicate zero p h = absurd (omega (arith, h))
slice_get-replicate (suc n) zero h = refl
slice_get-replicate (suc n) (suc p) h = slice_get-replicate n p (omega (arith, h))

-- at the start there is no entry but past the end
pub start_shown : (writer : List Node) (limit n : ℕ) → n ≡ length writer → AreDataShown writer limit (table_of (replicate {A = Option KeptLeast} n None))
start_shown writer limit n same p h = elim (cases_lt p n) [
  | inl within ↦ absurd (false≢true (subst (λ (o : Option (Option KeptLeast)). is_some (entry_of o) ≡ true) (slice_get-replicate n p within) h))
  | inr past ↦ subst (λ (o : Option (Option KeptLeast)). ShowsData writer limit (node_at writer p) (entry_of o)) (sym (slice_get_past (replicate {A = Option KeptLeast} n None) p (rw (length-replicate {A = Option KeptLeast} n None) past)))
      (subst (λ (o : Option Node). ShowsData writer limit (unwrap_or o Node.null) (Some one)) (sym (slice_get_past writer p (omega (arith, same, past))))
      (record { datum = Value.null; fitting = refl; exact = λ k. (refl, refl) }))
]
