-- The least data of texts and of fixeds.
use Rattle.std.proofs.Common.{◌≡◌, ℕ, zero, suc, ◌^◌, true, [], length, refl, sym, subst, arith}
use Rattle.std.proofs.lemmas.Bool.{leb-true, lt-ltb, and_from}
use Rattle.std.proofs.lemmas.List.{length-replicate}
use Rattle.std.proofs.Math.ListN.{replicate}
use Rattle.std.specs.Prelude.{nat_lt, nat_le}
use Rattle.std.specs.List.{list_all}
use Rattle.std.specs.Str.{is_utf8, chars}
use Rattle.avro_schema.specs.Fits.{is_count, are_bytes, is_text}
use Rattle.avro_schema.specs.WellFormed.{max_count}

-- the empty text
pub empty_text : is_text [] ≡ true
unfolding is_utf8 chars
empty_text = refl

-- zero bytes
pub zeros_fit : (n : ℕ) → nat_le n max_count ≡ true → are_bytes (replicate n 0) ≡ true
zeros_fit n h = and_from (is_count (length (replicate n 0))) (list_all (λ x. nat_lt x 256) (replicate n 0))
    (subst (λ (m : ℕ). is_count m ≡ true) (sym (length-replicate {A = ℕ} n 0)) (lt-ltb n (2 ^ 63) (omega (arith, leb-true n max_count h)))) (small n)
  where
    small : (m : ℕ) → list_all (λ x. nat_lt x 256) (replicate m 0) ≡ true
    small zero = refl
    small (suc m) = small m
