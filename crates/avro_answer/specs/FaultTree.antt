-- The faults in the answer of `explain` as a line of JSON. The keys are this project's own.
use Rattle.std.specs.Prelude.{◌≡◌, ℕ, List}
use Rattle.std.specs.List.{AllZip}
use Rattle.serde_json.specs.Data.{Data}
use Rattle.avro_schema.specs.Node.{Node}
use Rattle.avro_explain.specs.declared.found.Finding.{Finding}
use Rattle.avro_explain.specs.declared.found.PathStep.{PathStep}
use Rattle.avro_explain.specs.declared.found.Place.{Place}
use Rattle.avro_answer.specs.FaultLine.{missing_of, IsFaultAt}
use Rattle.avro_answer.specs.JsonAnswer.{json_line, place_tree, found_tree, faults_tree}
use Rattle.avro_answer.specs.PlaceText.{type_text, place_text}

-- a node by a way to it; a type shows at most 256 nested arrays and maps
abbrev pub node_tree : List Node → List PathStep → ℕ → Data
node_tree nodes way id = place_tree id (place_text nodes way) (type_text 256 nodes id)

-- the tree of a fault, by the two ways to its place
pub record IsFaultTree (writer reader : List Node) (places : List Place) (fault : Finding) (tree : Data) : Type 0 where
  pub found : IsFaultAt writer reader places fault
  pub written : tree ≡ found_tree fault.detail (missing_of writer reader found.place fault.detail)
      (node_tree writer found.writer_way found.place.w.0) (node_tree reader found.reader_way found.place.r.0)

-- one line with the trees of all faults, in order
pub record AreFaultTrees (writer reader : List Node) (places : List Place) (faults : List Finding) (line : List ℕ) : Type 0 where
  pub trees : List Data
  pub each : AllZip (IsFaultTree writer reader places) faults trees
  pub written : line ≡ json_line (faults_tree trees)
