-- The order of data by nodes, then by depth.
use Rattle.std.proofs.Common.{◌≡◌, refl, sym, subst, ℕ, zero, suc, ◌+◌, ◌≤◌, Bool, true, false, List, [], ◌∷◌, cond, Option, Some, None, inl, inr, arith, max, slice_get, nat_lt, nat_le, ◌==◌, ◌&&◌, true≢false, ltb-true, ltb-false, leb-false, eqb-true, eq-eqb}
use Rattle.avro_certificate.proofs.public.Tests.{and_left, and_right, or_left, or_right, or_cases}
use Rattle.avro_least.specs.Tables.{Least, IsUnder, AtMost, LeastTable, capped, around, together, lesser, precedes, best_of}
use Rattle.avro_least.proofs.public.Keys.{some_same}

-- above the limit less is known
pub under_capped : (limit : ℕ) (e : Least) (s d : ℕ) → IsUnder e s d → IsUnder (capped limit e) s d
under_capped limit e s d h = chosen (nat_le e.nodes limit) refl
  where
    chosen : (t : Bool) → nat_le e.nodes limit ≡ t → IsUnder (cond t e (record { nodes = suc limit; depth = 0 })) s d
    chosen true m = h
    chosen false m = record { fewer = omega (arith, leb-false e.nodes limit m, h.fewer); shallower = λ k. omega arith }

-- a node around
pub under_around : (limit : ℕ) (e : Option Least) (s d : ℕ) → AtMost e s d → AtMost (around limit e) (suc s) (suc d)
under_around limit None s d h = h
under_around limit (Some e) s d h = under_capped limit _ (suc s) (suc d)
    (record { fewer = omega (arith, h.fewer); shallower = λ k. omega (arith, h.shallower (omega (arith, k))) })

-- one beside the other
pub under_together : (limit : ℕ) (a b : Option Least) (s d t e : ℕ) → AtMost a s d → AtMost b t e → AtMost (together limit a b) (s + t) (max d e)
under_together limit None b s d t e h k = h
under_together limit (Some a) None s d t e h k = k
under_together limit (Some a) (Some b) s d t e h k = under_capped limit _ (s + t) (max d e) (record {
  fewer = omega (arith, h.fewer, k.fewer);
  shallower = λ m. omega (arith, h.shallower (omega (arith, m, k.fewer)), k.shallower (omega (arith, m, h.fewer)));
})

-- of two tests of which one fails and the first passes, the second fails
and_not : (a b : Bool) → (a && b) ≡ false → a ≡ true → b ≡ false
and_not true b h e = h
and_not false b h e = absurd (true≢false (sym e))

-- what precedes is no more
pub precedes_under : (a b : Least) (s d : ℕ) → precedes b a ≡ true → IsUnder a s d → IsUnder b s d
precedes_under a b s d p h = elim (or_cases (nat_lt b.nodes a.nodes) (b.nodes == a.nodes && nat_lt b.depth a.depth) p) [
  | inl first ↦ (let m = ltb-true b.nodes a.nodes first in record { fewer = omega (arith, m, h.fewer); shallower = λ k. absurd (omega (arith, m, k, h.fewer)) })
  | inr later ↦
      let m = eqb-true b.nodes a.nodes (and_left (b.nodes == a.nodes) (nat_lt b.depth a.depth) later) in
      let n = ltb-true b.depth a.depth (and_right (b.nodes == a.nodes) (nat_lt b.depth a.depth) later) in
      record { fewer = omega (arith, m, h.fewer); shallower = λ k. omega (arith, n, h.shallower (omega (arith, m, k))) }
]

-- and what does not is no less
pub follows_under : (a b : Least) (s d : ℕ) → precedes b a ≡ false → IsUnder b s d → IsUnder a s d
follows_under a b s d p h = record {
  fewer = omega (arith, nodes, h.fewer);
  shallower = λ k. omega (arith, deeper (omega (arith, k, nodes, h.fewer)), h.shallower (omega (arith, k, nodes)));
}
  where
    nodes : a.nodes ≤ b.nodes
    nodes = ltb-false b.nodes a.nodes (or_left (nat_lt b.nodes a.nodes) (b.nodes == a.nodes && nat_lt b.depth a.depth) p)

    deeper : b.nodes ≡ a.nodes → a.depth ≤ b.depth
    deeper e = ltb-false b.depth a.depth (and_not (b.nodes == a.nodes) (nat_lt b.depth a.depth)
        (or_right (nat_lt b.nodes a.nodes) (b.nodes == a.nodes && nat_lt b.depth a.depth) p) (eq-eqb b.nodes a.nodes e))

-- the lesser of two is no more than the first
pub under_lesser_left : (a b : Option Least) (s d : ℕ) → AtMost a s d → AtMost (lesser a b) s d
under_lesser_left None b s d h = absurd h
under_lesser_left (Some a) None s d h = h
under_lesser_left (Some a) (Some b) s d h = chosen (precedes b a) refl
  where
    chosen : (t : Bool) → precedes b a ≡ t → AtMost (cond t (Some b) (Some a)) s d
    chosen true e = precedes_under a b s d e h
    chosen false e = h

-- nor than the second
pub under_lesser_right : (a b : Option Least) (s d : ℕ) → AtMost b s d → AtMost (lesser a b) s d
under_lesser_right None b s d h = h
under_lesser_right (Some a) None s d h = absurd h
under_lesser_right (Some a) (Some b) s d h = chosen (precedes b a) refl
  where
    chosen : (t : Bool) → precedes b a ≡ t → AtMost (cond t (Some b) (Some a)) s d
    chosen true e = h
    chosen false e = follows_under a b s d e h

-- the best is no more than the entry of one of the ids
pub under_best : (table : LeastTable) (ids : List ℕ) (k p s d : ℕ) → slice_get ids k ≡ Some p → AtMost (table p) s d → AtMost (best_of table ids) s d
under_best table [] k p s d here h = absurd (grind arith)
under_best table (q ∷ qs) zero p s d here h =
    under_lesser_left (table q) (best_of table qs) s d (subst (λ (x : ℕ). AtMost (table x) s d) (some_same p q (sym here)) h)
under_best table (q ∷ qs) (suc k) p s d here h = under_lesser_right (table q) (best_of table qs) s d (under_best table qs k p s d here h)

-- more data are no less
pub under_more : (e : Option Least) (s d t f : ℕ) → s ≤ t → d ≤ f → AtMost e s d → AtMost e t f
under_more None s d t f p q h = h
under_more (Some e) s d t f p q h = record { fewer = omega (arith, p, h.fewer); shallower = λ k. omega (arith, q, h.shallower (omega (arith, p, k))) }

pub under_more_left : (e : Option Least) (s d t f : ℕ) → AtMost e s d → AtMost e (s + t) (max d f)
under_more_left e s d t f h = under_more e s d (s + t) (max d f) (omega arith) (omega arith) h

pub under_more_right : (e : Option Least) (s d t f : ℕ) → AtMost e t f → AtMost e (s + t) (max d f)
under_more_right e s d t f h = under_more e t f (s + t) (max d f) (omega arith) (omega arith) h
