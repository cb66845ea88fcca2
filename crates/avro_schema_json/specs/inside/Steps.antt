-- Which sets follow which, as they are found.
use Rattle.std.specs.Prelude.{◌≡◌, ℕ, true, List, Option, Some}
use Rattle.std.specs.BTreeMap.{BTreeMap, get}
use Rattle.avro_schema_json.specs.inside.Kinds.{pair_cmp}
use Rattle.avro_schema_json.specs.inside.Parents.{Parents, has_parent_of}
use Rattle.avro_schema_json.specs.inside.Rows.{has_place}
use Rattle.avro_schema_json.specs.inside.Sets.{row_at}
use Rattle.avro_schema_json.specs.declared.defaults.sets.Sets.{Sets}
use Rattle.avro_schema_json.specs.declared.defaults.steps.Memo.{Memo}

-- the parents under the number of a label of what a row has
abbrev pub Follows : Parents → ℕ → List ℕ → List ℕ → Type 0
Follows parents label row found = (y p : ℕ) → has_place row y ≡ true → has_parent_of parents y label p → has_place found p ≡ true

-- the set of a number has the parents of what is in another
abbrev pub LeadsTo : Parents → Sets → ℕ → ℕ → ℕ → Type 0
LeadsTo parents sets label s n =
    (row : List ℕ) × (found : List ℕ) × (row_at sets s ≡ Some row) × (row_at sets n ≡ Some found) × Follows parents label row found

abbrev pub step_of : BTreeMap (ℕ × ℕ) ℕ → ℕ → ℕ → Option ℕ
step_of steps label s = get pair_cmp steps (label, s)

-- each step that was found leads to the parents
abbrev pub AreSteps : Parents → Memo → Type 0
AreSteps parents memo = (label s n : ℕ) → step_of memo.steps label s ≡ Some n → LeadsTo parents memo.sets label s n

-- by whatever parents, since none was found
abbrev pub AreNoSteps : Memo → Type 0
AreNoSteps memo = (parents : Parents) → AreSteps parents memo
