use Rattle.std.proofs.Common.{◌≡◌, ◌||◌, ℕ, Bool, true, List, ◌++◌, take}
use Rattle.std.specs.List.{list_all}
use Rattle.indexmap.specs.IndexSet.{keys}
use Rattle.avro_least.specs.Reached.{is_key}
use Rattle.avro_least.proofs.pairs.reaching.add_all.Given as goal

abbrev pub invariant-loop-key : goal.invariant-loop-key
invariant-loop-key l = ((rest : List ℕ) × (keys l.known ≡ keys l.initial.known ++ rest))
    × (list_all (is_key (keys l.known)) (take l.key-index l.more) ≡ true)
    × ((P : ℕ → Bool) → list_all P (keys l.initial.known) ≡ true → list_all P (take l.key-index l.more) ≡ true → list_all P (keys l.known) ≡ true)
    × ((k : ℕ) → is_key (keys l.known) k ≡ true → (is_key (keys l.initial.known) k || is_key (take l.key-index l.more) k) ≡ true)
