-- What the parts of an entry within the limit are.
use Rattle.std.proofs.Common.{◌≡◌, ℕ, suc, ◌+◌, ◌≤◌, Bool, true, false, cond, Option, Some, None, refl, sym, ap, arith, max, nat_le}
use Rattle.avro_least.specs.Tables.{Least, capped, around, together, IsAround, IsTogether}

-- an entry within the limit is told apart
capped_is : (limit : ℕ) (x e : Least) → Some (capped limit x) ≡ Some e → e.nodes ≤ limit → x ≡ e
capped_is limit x e is within = chosen (nat_le x.nodes limit) refl is
  where
    chosen : (t : Bool) → nat_le x.nodes limit ≡ t → Some (cond t x (record { nodes = suc limit; depth = 0 })) ≡ Some e → x ≡ e
    chosen true m s = cc
    chosen false m s = absurd (over (record { nodes = suc limit; depth = 0 }) s refl)
      where
        over : (o : Least) → Some o ≡ Some e → o.nodes ≡ suc limit → ⊥
        over o s n = let same : o ≡ e = cc in omega (arith, within, n, ap (λ (l : Least). l.nodes) same)

pub around_is : (limit : ℕ) (a : Option Least) (e : Least) → around limit a ≡ Some e → e.nodes ≤ limit → IsAround a e
around_is limit None e h within = absurd (grind arith)
around_is limit (Some b) e h within =
    let same = capped_is limit (record { nodes = suc b.nodes; depth = suc b.depth }) e h within in
    record { inner = b; is = refl; nodes = sym (ap (λ (l : Least). l.nodes) same); depth = sym (ap (λ (l : Least). l.depth) same) }

pub together_is : (limit : ℕ) (a b : Option Least) (e : Least) → together limit a b ≡ Some e → e.nodes ≤ limit → IsTogether a b e
together_is limit None b e h within = absurd (grind arith)
together_is limit (Some x) None e h within = absurd (grind arith)
together_is limit (Some x) (Some y) e h within =
    let same = capped_is limit (record { nodes = x.nodes + y.nodes; depth = max x.depth y.depth }) e h within in
    record { first = x; second = y; first_is = refl; second_is = refl; nodes = sym (ap (λ (l : Least). l.nodes) same); depth = sym (ap (λ (l : Least). l.depth) same) }
