-- Worked texts of histories.
use Rattle.std.proofs.Common.{◌≡◌, true, false, List, [], ◌∷◌, get_or, refl, ap, ℕ}
use Rattle.std.proofs.lemmas.Bool.{true≢false, false≢true}
use Rattle.std.specs.Prelude.{codes, ◌==◌}
use Rattle.avro_history.specs.HistoryText.{Sets, HistoryText, all_small, do_rise}

-- an int, or a long, read as a long of a union
wide : Sets
wide = record { dead = []; pairs = record { w = 0; r = 0 } ∷ record { w = 0; r = 1 } ∷ [] }

-- a record that holds itself
dead : Sets
dead = record { dead = 0 ∷ []; pairs = [] }

two_text : HistoryText (wide ∷ wide ∷ [])
    (codes "history 1\napproval 1\npair 0 0\npair 0 1\nend\napproval 1\npair 0 0\npair 0 1\nend\nend\n")
unfolding wide
two_text = record { rising = refl; written = refl }

mixed_text : HistoryText (dead ∷ wide ∷ []) (codes "history 1\napproval 1\ndead 0\nend\napproval 1\npair 0 0\npair 0 1\nend\nend\n")
unfolding wide dead
mixed_text = record { rising = refl; written = refl }

empty_text : HistoryText [] (codes "history 1\nend\n")
empty_text = record { rising = refl; written = refl }

-- no last line
cut_text : (sets : List Sets) → HistoryText sets (codes "history 1\n") → ⊥
cut_text [] h = false≢true (ap (λ (l : List ℕ). get_or l 10 0 == 101) h.written)
cut_text (s ∷ sets) h = false≢true (ap (λ (l : List ℕ). get_or l 10 0 == 97) h.written)

-- one pair twice, and a number that no schema's node has
twice : do_rise (record { dead = []; pairs = record { w = 0; r = 0 } ∷ record { w = 0; r = 0 } ∷ [] }) ≡ false
twice = refl

over : all_small (record { dead = 4096 ∷ []; pairs = [] } ∷ []) ≡ false
over = refl
