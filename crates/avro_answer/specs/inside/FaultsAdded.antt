-- Faults in a form, added to a text one after another.
use Rattle.std.specs.Prelude.{◌≡◌, ◌<◌, ℕ, Bool, true, false, List, [], ◌∷◌, ◌++◌, length}
use Rattle.std.specs.List.{AllByRecursion}
use Rattle.serde_json.specs.Data.{Data}
use Rattle.serde_json.specs.Written.{comma_if, compact_text, items_text}
use Rattle.avro_device.specs.PutFront.{PutsFrontOf}
use Rattle.avro_schema.specs.Node.{Node}
use Rattle.avro_explain.specs.declared.found.Finding.{Finding}
use Rattle.avro_explain.specs.declared.found.Place.{Place}
use Rattle.avro_answer.specs.FaultLine.{no_line, AreFaultLines, IsLineAdded}
use Rattle.avro_answer.specs.FaultTree.{AreFaultTrees, IsFaultTree}
use Rattle.avro_answer.specs.JsonAnswer.{json_line, faults_tree, tree_items}
use Rattle.avro_answer.specs.declared.form.Form.{Form}

-- each fault is of a place
abbrev pub HavePlaces : List Place → List Finding → Type 0
HavePlaces places faults = AllByRecursion (λ fault. fault.place < length places) faults

-- the object of a fault is added, after a comma if one is before it
pub record IsTreeAdded (writer reader : List Node) (places : List Place) (later : Bool) (fault : Finding) (before after : List ℕ) : Type 0 where
  pub tree : Data
  pub is : IsFaultTree writer reader places fault tree
  pub added : after ≡ before ++ (comma_if later ++ compact_text tree)

-- a fault is added in a form
abbrev pub IsFaultAdded : Form → List Node → List Node → List Place → Bool → Finding → List ℕ → List ℕ → Type 0
IsFaultAdded Form.Text writer reader places later fault before after = IsLineAdded writer reader places fault before after
IsFaultAdded Form.Json writer reader places later fault before after = IsTreeAdded writer reader places later fault before after

-- each fault is added, in order
abbrev pub AreFaultsAdded : Form → List Node → List Node → List Place → Bool → List Finding → List ℕ → List ℕ → Type 0
AreFaultsAdded form writer reader places later [] before after = after ≡ before
AreFaultsAdded form writer reader places later (fault ∷ faults) before after =
    (between : List ℕ) × IsFaultAdded form writer reader places later fault before between × AreFaultsAdded form writer reader places true faults between after

-- some faults are left, and added to what stands they give all
pub record AreLeft (form : Form) (writer reader : List Node) (places : List Place) (faults left : List Finding) (later : Bool) (before text : List ℕ) : Type 0 where
  pub placed : HavePlaces places left
  pub whole : (after : List ℕ) → AreFaultsAdded form writer reader places later left text after → AreFaultsAdded form writer reader places false faults before after

-- the faults but for those that are left were added to what stood, and a prefix of that was put
pub record IsFrontAdded {O : Type 0} (keeps : O → List ℕ → O → Type 0) (from to : O) (form : Form) (writer reader : List Node) (places : List Place) (faults : List Finding)
    (before : List ℕ) : Type 0 where
  pub text : List ℕ
  pub left : List Finding
  pub later : Bool
  pub added : AreLeft form writer reader places faults left later before text
  pub put : PutsFrontOf keeps from to text

-- the start of the line of a no as JSON: the trees as items and two ends make it whole
abbrev pub IsArrayBegun : List ℕ → Type 0
IsArrayBegun begun = (trees : List Data) → (begun ++ items_text false (tree_items trees)) ++ 125 ∷ 10 ∷ [] ≡ json_line (faults_tree trees)

-- the start of the text of a number of faults
abbrev pub IsBegun : Form → ℕ → List ℕ → Type 0
IsBegun Form.Text count begun = begun ≡ no_line count
IsBegun Form.Json count begun = IsArrayBegun begun

-- the end of the text
abbrev pub faults_end : Form → List ℕ
faults_end Form.Text = []
faults_end Form.Json = 93 ∷ 125 ∷ 10 ∷ []

-- the whole text
abbrev pub AreTold : Form → List Node → List Node → List Place → List Finding → List ℕ → Type 0
AreTold Form.Text writer reader places faults text = AreFaultLines writer reader places faults text
AreTold Form.Json writer reader places faults text = AreFaultTrees writer reader places faults text
