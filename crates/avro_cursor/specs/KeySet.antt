-- The keys of a map that were read so far, as a set of byte strings.
use Rattle.std.specs.Prelude.{ℕ, List, Option, Some, None}
use Rattle.std.specs.Borrow.{Bor}
use Rattle.std.specs.Ordering.{nat_cmp}
use Rattle.std.specs.Cmp.Lexicographic.{slice_cmp}
use Rattle.std.specs.FinSet as set

-- a set of byte strings
abbrev pub KeySet : Type 0
KeySet = set.FinSet (slice_cmp {A = ℕ} {B = ℕ} nat_cmp)

-- the set of the keys of a list
abbrev pub key_set : List (List ℕ) → KeySet
key_set keys = set.from_list keys

-- the set, with one key more if there is one
abbrev pub with_key : Option (Bor (List ℕ)) → KeySet → KeySet
with_key (Some key) keys = set.insert keys key.now
with_key None keys = keys
