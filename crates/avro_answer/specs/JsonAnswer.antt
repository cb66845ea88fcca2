-- What is answered as lines of JSON: the tree of each line. The keys are this project's own, and no part of the standard.
use Rattle.std.specs.Prelude.{◌≡◌, ℕ, Bool, List, [], ◌∷◌, ◌++◌, codes, Option, Some, None}
use Rattle.serde_json.specs.Data.{Data, boolean, number, string, array, object, unsigned, Items, no_items, item, Members, no_members, member}
use Rattle.serde_json.specs.Written.{compact_text}
use Rattle.avro_schema.specs.Node.{Node, root_of}
use Rattle.avro_schema.specs.Seen.{value_of}
use Rattle.avro_schema.specs.Value.{size}
use Rattle.avro_compare.specs.FaultText.{kind_name}
use Rattle.avro_compare.specs.declared.error.Fault.{Fault}
use Rattle.avro_compare.specs.declared.error.FaultKind.{FaultKind}
use Rattle.avro_display.specs.DisplayTree.{display_tree}
use Rattle.avro_explain.specs.declared.found.Detail.{Detail}
use Rattle.avro_judge.specs.declared.verdict.Cause.{Cause}
use Rattle.avro_judge.specs.declared.verdict.Verdict.{Verdict}
use Rattle.avro_answer.specs.FaultLine.{fault_word}
use Rattle.avro_answer.specs.Texts.{cause_text}

-- the line of a tree: its compact text, and a line feed
abbrev pub json_line : Data → List ℕ
json_line tree = compact_text tree ++ 10 ∷ []

-- numbers as items, in order
abbrev pub number_items : List ℕ → Items
number_items [] = no_items
number_items (n ∷ ns) = item (number (unsigned n)) (number_items ns)

-- whether a certificate confirms its schemas
abbrev pub confirmed_tree : Bool → Data
confirmed_tree is_confirmed = object (member (codes "confirmed") (boolean is_confirmed) no_members)

-- a file, and how many data and blocks it has
abbrev pub counts_tree : List ℕ → ℕ → ℕ → Data
counts_tree file data_count block_count = object
    (member (codes "file") (string file)
    (member (codes "data") (number (unsigned data_count))
    (member (codes "blocks") (number (unsigned block_count)) no_members)))

-- Where a fault is, by names: the field or symbol that is missing, where it is told, and the path.
pub record NamedPath : Type 0 where
  pub missing : Option (List ℕ)
  pub path : List ℕ

-- the key of what is missing
abbrev pub missing_key : FaultKind → List ℕ
missing_key (FaultKind.MissingField index) = codes "field"
missing_key kind = codes "symbol"

-- the member of what is missing, where it is told, before the others
abbrev pub missing_member : FaultKind → Option (List ℕ) → Members → Members
missing_member kind None rest = rest
missing_member kind (Some name) rest = member (missing_key kind) (string name) rest

-- a fault: its kind, what is missing, and the path by numbers and by names
abbrev pub fault_tree : Fault → NamedPath → Data
fault_tree fault named = object
    (member (codes "kind") (string (kind_name fault.kind))
    (missing_member fault.kind named.missing
    (member (codes "path") (array (number_items fault.path.items))
    (member (codes "at") (string named.path) no_members))))

-- a verdict: its word, the fault of a no, the cause of an undecided; before the others
abbrev pub verdict_members : NamedPath → Verdict → Members → Members
verdict_members named (Verdict.Approved a) rest = member (codes "verdict") (string (codes "yes")) rest
verdict_members named (Verdict.Refuted r) rest = member (codes "verdict") (string (codes "no")) (member (codes "fault") (fault_tree r.fault named) rest)
verdict_members named (Verdict.Undecided cause) rest = member (codes "verdict") (string (codes "undecided")) (member (codes "cause") (string (cause_text cause)) rest)

-- the datum of a no: its number of nodes, and its display
abbrev pub datum_members : List Node → Verdict → Members
datum_members writer (Verdict.Refuted r) =
    member (codes "nodes") (number (unsigned (size (value_of r.datum))))
    (member (codes "datum") (display_tree writer (root_of writer) (value_of r.datum)) no_members)
datum_members writer verdict = no_members

-- the answer of `judge`
abbrev pub judged_tree : List Node → NamedPath → Verdict → Data
judged_tree writer named verdict = object (verdict_members named verdict (datum_members writer verdict))

-- the mode of a history, where there are two, before the others
abbrev pub mode_member : Option (List ℕ) → Members → Members
mode_member None rest = rest
mode_member (Some mode) rest = member (codes "mode") (string mode) rest

-- a line of a history: the file, the mode, the verdict
abbrev pub history_tree : List ℕ → Option (List ℕ) → NamedPath → Verdict → Data
history_tree file mode named verdict = object (member (codes "file") (string file) (mode_member mode (verdict_members named verdict no_members)))

-- the status of a verdict
abbrev pub verdict_status : Verdict → ℕ
verdict_status (Verdict.Approved a) = 0
verdict_status (Verdict.Refuted r) = 1
verdict_status (Verdict.Undecided cause) = 2

-- the line of a verdict of `judge`, and its status; nothing is said of the names in a fault
abbrev pub IsJudgedLine : List Node → Verdict → List ℕ → ℕ → Type 0
IsJudgedLine writer verdict line status = (named : NamedPath) × (line ≡ json_line (judged_tree writer named verdict)) × (status ≡ verdict_status verdict)

-- the same of a line of a history
abbrev pub IsHistoryLine : List ℕ → Option (List ℕ) → Verdict → List ℕ → ℕ → Type 0
IsHistoryLine file mode verdict line status = (named : NamedPath) × (line ≡ json_line (history_tree file mode named verdict)) × (status ≡ verdict_status verdict)

-- the answer of `explain` for two schemas without a fault
abbrev pub no_fault_tree : Data
no_fault_tree = object (member (codes "verdict") (string (codes "yes")) (member (codes "faults") (array no_items) no_members))

-- the answer of `explain` for two schemas with too many pairs of nodes
abbrev pub over_pairs_tree : Data
over_pairs_tree = object (member (codes "verdict") (string (codes "undecided")) (member (codes "cause") (string (cause_text Cause.Pairs)) no_members))

-- a node of a schema: its number, the place by names, and the type
abbrev pub place_tree : ℕ → List ℕ → List ℕ → Data
place_tree node at kind = object
    (member (codes "node") (number (unsigned node))
    (member (codes "at") (string at)
    (member (codes "type") (string kind) no_members)))

-- the key of what is missing in a fault of `explain`
abbrev pub detail_key : Detail → List ℕ
detail_key (Detail.MissingField k) = codes "field"
detail_key d = codes "symbol"

-- the member of what is missing, where it is told, before the others
abbrev pub detail_member : Detail → Option (List ℕ) → Members → Members
detail_member d None rest = rest
detail_member d (Some name) rest = member (detail_key d) (string name) rest

-- a fault of `explain`: its kind, what is missing, and the nodes of both schemas
abbrev pub found_tree : Detail → Option (List ℕ) → Data → Data → Data
found_tree d missing writer reader = object
    (member (codes "fault") (string (fault_word d))
    (detail_member d missing
    (member (codes "writer") writer
    (member (codes "reader") reader no_members))))

-- trees as items, in order
abbrev pub tree_items : List Data → Items
tree_items [] = no_items
tree_items (tree ∷ trees) = item tree (tree_items trees)

-- the answer of `explain` for two schemas with these faults
abbrev pub faults_tree : List Data → Data
faults_tree trees = object (member (codes "verdict") (string (codes "no")) (member (codes "faults") (array (tree_items trees)) no_members))
