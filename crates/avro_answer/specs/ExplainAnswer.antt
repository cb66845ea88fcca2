-- What `avro explain` answers of two texts: its verdict, and its exit status.
use Rattle.std.specs.Prelude.{◌≡◌, ◌↔◌, ℕ, ◌⊎◌, List, codes, length}
use Rattle.avro_schema.specs.Node.{Node}
use Rattle.avro_compare.specs.Children.{Pair}
use Rattle.avro_certificate.specs.Compatible.{AreCompatible}
use Rattle.avro_certificate.specs.Evidence.{IsGreatestDead}
use Rattle.avro_explain.specs.Places.{pairs_of, AreByBreadth, AreFaults, AreFollowed, ArePlaced, AreReached, AreTooMany}
use Rattle.avro_explain.specs.Search.{AreSearched}
use Rattle.avro_explain.specs.declared.found.Finding.{Finding}
use Rattle.avro_explain.specs.declared.found.Place.{Place}
use Rattle.avro_answer.specs.ReadText.{IsReadAs}
use Rattle.avro_answer.specs.FaultLine.{AreFaultLines}
use Rattle.avro_answer.specs.FaultTree.{AreFaultTrees}
use Rattle.avro_answer.specs.JsonAnswer.{json_line, no_fault_tree, over_pairs_tree}
use Rattle.avro_answer.specs.JudgeAnswer.{IsYes}

-- the answer `undecided Pairs`, with status 2
abbrev pub IsOverPairs : List ℕ → ℕ → Type 0
IsOverPairs text status = (text ≡ codes "undecided Pairs\n") × (status ≡ 2)

-- the roots lead to more pairs of nodes than a limit, except for those whose writer's node has no datum
abbrev pub IsOverLimit : List Node → List Node → ℕ → Type 0
IsOverLimit writer reader limit = (dead : List ℕ) × (pairs : List Pair) × IsGreatestDead writer dead × AreTooMany writer reader dead limit pairs

-- What is told of a no: the pairs of nodes that the roots lead to, each once, in the order and by the steps of a
-- breadth-first search, except for those whose writer's node has no datum; and exactly their faults.
pub record AreFaultsTold (writer reader : List Node) (Told : List Place → List Finding → Type 0) : Type 0 where
  pub dead : List ℕ
  pub greatest : IsGreatestDead writer dead
  pub places : List Place
  pub reached : AreReached writer reader dead (pairs_of places)
  pub placed : ArePlaced writer reader places
  pub breadth : AreByBreadth places
  pub followed : AreFollowed writer reader dead places (length places)
  pub searched : AreSearched writer reader dead places
  pub faults : List Finding
  pub exact : AreFaults writer reader places faults
  pub told : Told places faults

-- the text of a no has a line for each of the faults, in order
abbrev pub AreAllFaults : List Node → List Node → List ℕ → Type 0
AreAllFaults writer reader text = AreFaultsTold writer reader (λ places faults. AreFaultLines writer reader places faults text)

-- the line of JSON of a no has a tree for each of the faults, in order
abbrev pub AreAllFaultTrees : List Node → List Node → List ℕ → Type 0
AreAllFaultTrees writer reader line = AreFaultsTold writer reader (λ places faults. AreFaultTrees writer reader places faults line)

-- What is answered of two schemas, of which at most a number of pairs of nodes are gone through: `undecided Pairs` and
-- status 2 if and only if the roots lead to more, otherwise `yes` and status 0 if and only if no datum fails, and
-- status 1 with a line for each fault if not every datum resolves; nothing else.
pub record FaultsAnswer (writer reader : List Node) (limit : ℕ) (text : List ℕ) (status : ℕ) : Type 0 where
  -- yes exactly where the pairs are within the limit and no datum of the writer's fails, of any size
  pub yes : IsYes text status ↔ ((IsOverLimit writer reader limit → ⊥) × AreCompatible writer reader)
  -- a no exactly where they are within it and not every datum resolves
  pub no : (status ≡ 1) ↔ ((IsOverLimit writer reader limit → ⊥) × (AreCompatible writer reader → ⊥))
  -- and then all faults are told
  pub faults : status ≡ 1 → AreAllFaults writer reader text
  -- undecided exactly where the roots lead to more pairs than the limit
  pub undecided : IsOverPairs text status ↔ IsOverLimit writer reader limit
  -- there is no other answer
  pub known : IsYes text status ⊎ (status ≡ 1) ⊎ IsOverPairs text status

-- The same of the status alone, in either form of the answer.
pub record FaultsStatus (writer reader : List Node) (limit status : ℕ) : Type 0 where
  pub yes : (status ≡ 0) ↔ ((IsOverLimit writer reader limit → ⊥) × AreCompatible writer reader)
  pub no : (status ≡ 1) ↔ ((IsOverLimit writer reader limit → ⊥) × (AreCompatible writer reader → ⊥))
  pub undecided : (status ≡ 2) ↔ IsOverLimit writer reader limit
  pub known : (status ≡ 0) ⊎ (status ≡ 1) ⊎ (status ≡ 2)

-- What is answered as JSON: a line by the status, and nothing else.
pub record FaultsJson (writer reader : List Node) (limit : ℕ) (line : List ℕ) (status : ℕ) : Type 0 where
  pub known : FaultsStatus writer reader limit status
  pub yes : status ≡ 0 → line ≡ json_line no_fault_tree
  pub faults : status ≡ 1 → AreAllFaultTrees writer reader line
  pub undecided : status ≡ 2 → line ≡ json_line over_pairs_tree

-- What is answered of two texts: both declare schemas and are not too long, and it is the answer of those.
pub record ExplainAnswer (writer reader : List ℕ) (limit : ℕ) (text : List ℕ) (status : ℕ) : Type 0 where
  pub written : List Node
  pub read : List Node
  pub declares_written : IsReadAs writer written
  pub declares_read : IsReadAs reader read
  pub answered : FaultsAnswer written read limit text status

-- The same of the status alone, in either form of the answer.
pub record ExplainStatus (writer reader : List ℕ) (limit status : ℕ) : Type 0 where
  pub written : List Node
  pub read : List Node
  pub declares_written : IsReadAs writer written
  pub declares_read : IsReadAs reader read
  pub answered : FaultsStatus written read limit status

-- The same of the line of JSON.
pub record ExplainJson (writer reader : List ℕ) (limit : ℕ) (line : List ℕ) (status : ℕ) : Type 0 where
  pub written : List Node
  pub read : List Node
  pub declares_written : IsReadAs writer written
  pub declares_read : IsReadAs reader read
  pub answered : FaultsJson written read limit line status
