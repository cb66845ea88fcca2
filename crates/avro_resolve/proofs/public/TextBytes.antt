-- The UTF-8 of a text is bytes.
use Rattle.std.proofs.Common.{◌≡◌, ℕ, ◌+◌, ◌/◌, ◌<◌, Bool, true, cond, List, [], ◌∷◌, ltb, refl, ◌∙◌, subst, ⊎_elim, arith}
use Rattle.std.specs.Prelude.{nat_lt}
use Rattle.std.specs.List.{list_all}
use Rattle.std.specs.Str.{is_utf8}
use Rattle.std.proofs.lemmas.Bool.{and_parts, and_from, cond_both, lt-ltb, ltb-true}
use Rattle.std.proofs.lemmas.List.Folds.{list_all-append}
use Rattle.std.proofs.lemmas.Str.{IsUtf8-from_is_utf8}
use lib.Utf8.{scalar, scalars, scalar_cases, encode, encodes, next}

-- each of them is below 256
abbrev pub below_256 : List ℕ → Bool
below_256 bytes = list_all (λ x. nat_lt x 256) bytes

one : (a : ℕ) (bytes : List ℕ) → a < 256 → below_256 bytes ≡ true → below_256 (a ∷ bytes) ≡ true
one a bytes h more = and_from (nat_lt a 256) (below_256 bytes) (lt-ltb a 256 h) more

in_range : (c : ℕ) → scalar c ≡ true → c < 1114112
in_range c h = ⊎_elim (λ low. omega arith) (λ high. high.1) (scalar_cases c h)

-- those of one character
encode-below : (c : ℕ) → scalar c ≡ true → below_256 (encode c) ≡ true
unfolding encode
encode-below c h =
    let high : c < 1114112 = in_range c h in
    cond_both (ltb c 128) (c ∷ [])
    (cond (ltb c 2048) ((192 + c / 64) ∷ next c ∷ []) (cond (ltb c 65536) ((224 + c / 4096) ∷ next (c / 64) ∷ next c ∷ []) ((240 + c / 262144) ∷ next (c / 4096) ∷ next (c / 64) ∷ next c ∷ [])))
    (λ bytes. below_256 bytes ≡ true)
    (λ e. let low : c < 128 = ltb-true c 128 e in one c [] (omega arith) refl)
    (λ e. cond_both (ltb c 2048) ((192 + c / 64) ∷ next c ∷ []) (cond (ltb c 65536) ((224 + c / 4096) ∷ next (c / 64) ∷ next c ∷ []) ((240 + c / 262144) ∷ next (c / 4096) ∷ next (c / 64) ∷ next c ∷ []))
    (λ bytes. below_256 bytes ≡ true)
    (λ two. let low : c < 2048 = ltb-true c 2048 two in one (192 + c / 64) (next c ∷ []) (omega arith) (one (next c) [] (omega arith) refl))
    (λ more. cond_both (ltb c 65536) ((224 + c / 4096) ∷ next (c / 64) ∷ next c ∷ []) ((240 + c / 262144) ∷ next (c / 4096) ∷ next (c / 64) ∷ next c ∷ [])
    (λ bytes. below_256 bytes ≡ true)
    (λ three. let low : c < 65536 = ltb-true c 65536 three in one (224 + c / 4096) (next (c / 64) ∷ next c ∷ []) (omega arith) (one (next (c / 64)) (next c ∷ []) (omega arith) (one (next c) [] (omega arith) refl)))
    (λ four. one (240 + c / 262144) (next (c / 4096) ∷ next (c / 64) ∷ next c ∷ []) (omega arith)
    (one (next (c / 4096)) (next (c / 64) ∷ next c ∷ []) (omega arith) (one (next (c / 64)) (next c ∷ []) (omega arith) (one (next c) [] (omega arith) refl))))))

encodes-below : (cs : List ℕ) → scalars cs ≡ true → below_256 (encodes cs) ≡ true
encodes-below [] h = refl
encodes-below (c ∷ cs) h =
    let parts = and_parts (scalar c) (scalars cs) h in
    list_all-append (λ x. nat_lt x 256) (encode c) (encodes cs)
    ∙ and_from (below_256 (encode c)) (below_256 (encodes cs)) (encode-below c parts.0) (encodes-below cs parts.1)

-- those of a text
pub below-from_is_utf8 : (bytes : List ℕ) → is_utf8 bytes ≡ true → below_256 bytes ≡ true
below-from_is_utf8 bytes h =
    let text = IsUtf8-from_is_utf8 bytes h in
    subst (λ (b : List ℕ). below_256 b ≡ true) text.1.1 (encodes-below text.0 text.1.0)
