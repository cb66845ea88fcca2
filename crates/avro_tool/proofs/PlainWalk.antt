-- A walk over words that are no options, each of which goes to the next positional.
use Rattle.std.proofs.Common.{◌≡◌, ◌∙◌, ℕ, ◌+◌, Bool, true, false, ◌&&◌, List, [], ◌∷◌, Some, None, refl, sym, ap, ap₂, fold, if◌then◌else◌, bytes_eq}
use Rattle.std.proofs.lemmas.Option.{none-some}
use Rattle.std.specs.Prelude.{◌==◌, ⊤}
use Rattle.std.specs.List.{list_all}
use Rattle.clap.specs.Simple.{Shape}
use Rattle.clap.specs.Takes.{default_passes, is_valid, level_passes, settle_passes, step_passes, turn_passes, walk_passes}
use Rattle.clap.specs.Walk.{Held, Rule, Step, Text, Walk, Waiting, arg_by_index, finished, nothing_held, to_positional, walked}
use Rattle.avro_tool.specs.PlainWords.{HaveNoOption, IsNoOption}

not_dashes : (word : Text) → IsNoOption word → bytes_eq word (45 ∷ 45 ∷ []) ≡ false
not_dashes [] h = refl
not_dashes (x ∷ xs) h = go (x == 45) h
  where
    go : (b : Bool) → (if b then Some xs else None) ≡ None → (b && bytes_eq xs (45 ∷ [])) ≡ false
    go true e = absurd (none-some xs (sym e))
    go false e = refl

-- between two words, with nothing that waits
abbrev pub between : Held → ℕ → Walk
between h p = record { held = h; waiting = Waiting.idle; position = p; is_trailing = false; stopped = None }

-- what is held after a word, and after all words
abbrev pub held_after : Shape → Held → ℕ → Text → Held
held_after s h p word = (to_positional s.rules (arg_by_index s.rules p) word (between h p) h).held

abbrev pub end_after : Shape → Held → ℕ → List Text → Held
end_after s h p [] = h
end_after s h p (word ∷ rest) = end_after s (held_after s h p word) (p + 1) rest

-- a claim that is made if more words follow
abbrev pub IfMore : List Text → Type 0 → Type 0
IfMore [] P = ⊤
IfMore (word ∷ rest) P = P

-- each word goes to a positional, and each but the last to one that takes no other
abbrev pub Reaches : Shape → Held → ℕ → List Text → Type 0
Reaches s h p [] = ⊤
Reaches s h p (word ∷ rest) = IfMore rest (to_positional s.rules (arg_by_index s.rules p) word (between h p) h ≡ between (held_after s h p word) (p + 1))
    × (step_passes s p h Step.value ≡ true) × Reaches s (held_after s h p word) (p + 1) rest

turn_plain : (s : Shape) (h : Held) (p : ℕ) (word : Text) → IsNoOption word → turn_passes s [] (between h p) word ≡ step_passes s p h Step.value
turn_plain s h p word free =
    let dashes = not_dashes word free in
    simp (free, dashes)

walked_plain : (c : List Rule) (h : Held) (p : ℕ) (word : Text) → IsNoOption word → walked c [] (between h p) word ≡ to_positional c (arg_by_index c p) word (between h p) h
unfolding walked
walked_plain c h p word free =
    let dashes = not_dashes word free in
    simp (free, dashes)

-- a walk that goes on as another does
walk_on : (s : Shape) (w u v : Walk) (rest : List Text) → w ≡ u → u.held ≡ v.held → IfMore rest (u ≡ v)
    → (fold (walked s.rules []) w rest).held ≡ (fold (walked s.rules []) v rest).held
walk_on s w u v [] e same more = ap (λ (x : Walk). x.held) e ∙ same
walk_on s w u v (word ∷ rest) e same more = ap (λ (x : Walk). (fold (walked s.rules []) x (word ∷ rest)).held) (e ∙ more)

pass_on : (s : Shape) (w u v : Walk) (rest : List Text) → w ≡ u → IfMore rest (u ≡ v) → walk_passes s [] w rest ≡ walk_passes s [] v rest
unfolding walk_passes
pass_on s w u v [] e more = refl
pass_on s w u v (word ∷ rest) e more = ap (λ (x : Walk). walk_passes s [] x (word ∷ rest)) (e ∙ more)

pub walk_plain : (s : Shape) (h : Held) (p : ℕ) (words : List Text) → HaveNoOption words → Reaches s h p words
    → (fold (walked s.rules []) (between h p) words).held ≡ end_after s h p words
walk_plain s h p [] free r = refl
walk_plain s h p (word ∷ rest) free r =
    walk_on s _ _ (between (held_after s h p word) (p + 1)) rest (walked_plain s.rules h p word free.0) refl r.0 ∙ walk_plain s (held_after s h p word) (p + 1) rest free.1 r.2

passes_plain : (s : Shape) (h : Held) (p : ℕ) (words : List Text) → HaveNoOption words → Reaches s h p words → walk_passes s [] (between h p) words ≡ true
unfolding walk_passes
passes_plain s h p [] free r = refl
passes_plain s h p (word ∷ rest) free r =
    ap₂ (λ (a b : Bool). a && b) (turn_plain s h p word free.0 ∙ r.1)
    (pass_on s _ _ (between (held_after s h p word) (p + 1)) rest (walked_plain s.rules h p word free.0) r.0 ∙ passes_plain s (held_after s h p word) (p + 1) rest free.1 r.2)

-- what stands after the walk passes
abbrev pub ends : Shape → Held → Bool
ends s h = settle_passes s.rules s.args_override_self h && (list_all default_passes s.rules && is_valid s (finished s.rules h) false)

pub level_plain : (s : Shape) (words : List Text) → HaveNoOption words → Reaches s nothing_held 1 words → ends s (end_after s nothing_held 1 words) ≡ true
    → level_passes s [] nothing_held words false ≡ true
level_plain s words free r last =
    ap₂ (λ (a b : Bool). a && b) (passes_plain s nothing_held 1 words free r)
    (ap (ends s) (walk_plain s nothing_held 1 words free r) ∙ last)
