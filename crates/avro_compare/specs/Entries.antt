-- Lists of what is kept of some indices, in the order of these.
use Rattle.std.specs.Prelude.{◌==◌, ◌≤◌, ℕ, suc, List, [], ◌∷◌, Option, Some, None, cond}

-- what is kept of an index
abbrev pub entry_at : {A : Type 0} → List (ℕ × A) → ℕ → Option A
entry_at [] k = None
entry_at (e ∷ es) k = cond (e.0 == k) (Some e.1) (entry_at es k)

-- the indices ascend, from this one on
abbrev pub AreAscending : {A : Type 0} → ℕ → List (ℕ × A) → Type 0
AreAscending n [] = Unit {0}
AreAscending n (e ∷ es) = (n ≤ e.0) × AreAscending (suc e.0) es

-- what the first entry keeps, if it is of this index
abbrev pub first_entry : {A : Type 0} → List (ℕ × A) → ℕ → Option A
first_entry [] k = None
first_entry (e ∷ es) k = cond (e.0 == k) (Some e.1) None

-- the entries without the first, if that is of this index
abbrev pub rest_entries : {A : Type 0} → List (ℕ × A) → ℕ → List (ℕ × A)
rest_entries [] k = []
rest_entries (e ∷ es) k = cond (e.0 == k) es (e ∷ es)
