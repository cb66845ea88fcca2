-- The line of a fault in the answer of `explain` as text. The forms are this project's own.
use Rattle.std.specs.Prelude.{◌≡◌, ℕ, List, [], ◌++◌, Option, Some, None, codes, decimal, length, slice_get, option_and_then, unwrap_or}
use Rattle.std.specs.List.{AllZip, concat}
use Rattle.avro_schema.specs.Node.{Node, symbols_of}
use Rattle.avro_explain.specs.Places.{ArePlaced}
use Rattle.avro_explain.specs.Ways.{IsWay, IsWayTo}
use Rattle.avro_explain.specs.declared.found.Detail.{Detail}
use Rattle.avro_explain.specs.declared.found.Finding.{Finding}
use Rattle.avro_explain.specs.declared.found.PathStep.{PathStep}
use Rattle.avro_explain.specs.declared.found.Place.{Place}
use Rattle.avro_answer.specs.PlaceText.{field_name_at, type_text, place_text}

-- the line before those of the faults, with their number
abbrev pub no_line : ℕ → List ℕ
no_line count = codes "no " ++ decimal count ++ codes "\n"

-- the word of a kind of fault
abbrev pub fault_word : Detail → List ℕ
fault_word Detail.NoMatch = codes "NoMatch"
fault_word Detail.NoBranch = codes "NoBranch"
fault_word Detail.NotUtf8 = codes "NotUtf8"
fault_word (Detail.NoSymbol k) = codes "NoSymbol"
fault_word (Detail.MissingField k) = codes "MissingField"

-- the name of a symbol of the node of an id, by its index
abbrev pub symbol_at : List Node → ℕ → ℕ → Option (List ℕ)
symbol_at nodes id k = option_and_then (λ n. option_and_then (λ symbols. slice_get symbols k) (symbols_of n)) (slice_get nodes id)

-- the name of a field of the node of an id, by its index
abbrev pub field_at : List Node → ℕ → ℕ → Option (List ℕ)
field_at nodes id k = option_and_then (λ n. field_name_at n k) (slice_get nodes id)

-- the name of the writer's symbol, or of the reader's field, that is missing
abbrev pub missing_of : List Node → List Node → Place → Detail → Option (List ℕ)
missing_of writer reader place (Detail.NoSymbol k) = symbol_at writer place.w.0 k
missing_of writer reader place (Detail.MissingField k) = field_at reader place.r.0 k
missing_of writer reader place d = None

-- the missing field, after the place of its record
abbrev pub field_part : Detail → List ℕ → List ℕ
field_part (Detail.MissingField k) missing = codes "." ++ missing
field_part d missing = []

-- what is wrong, by the name of what is missing and the types of both nodes
abbrev pub reason_text : Detail → List ℕ → List ℕ → List ℕ → List ℕ
reason_text Detail.NoMatch missing written read = written ++ codes " cannot be read as " ++ read
reason_text Detail.NoBranch missing written read = codes "no branch of the reader's union accepts " ++ written
reason_text Detail.NotUtf8 missing written read = codes "bytes read as string may not be UTF-8"
reason_text (Detail.NoSymbol k) missing written read = missing ++ (codes " is not a symbol of the reader's " ++ (read ++ codes ", which has no default"))
reason_text (Detail.MissingField k) missing written read = written ++ codes " of the writer has no such field, and there is no default"

-- the kind between colons
abbrev pub kind_part : Detail → List ℕ
kind_part d = codes ": " ++ fault_word d ++ codes ": "

-- the writer's place, to the end of the line
abbrev pub writer_part : List ℕ → List ℕ
writer_part at = codes " (writer's " ++ at ++ codes ")\n"

-- a line of these parts: the reader's place, the kind, what is wrong, the writer's place
abbrev pub line_of : Detail → List ℕ → List ℕ → List ℕ → List ℕ → List ℕ → List ℕ
line_of d missing writer_at written reader_at read = reader_at ++ field_part d missing ++ kind_part d ++ reason_text d missing written read ++ writer_part writer_at

-- the line of a fault by the ways to the nodes of its place; a type shows at most 256 nested arrays and maps
abbrev pub fault_line : List Node → List Node → Place → Detail → List PathStep → List PathStep → List ℕ
fault_line writer reader place d writer_way reader_way =
    line_of d (unwrap_or (missing_of writer reader place d) []) (place_text writer writer_way) (type_text 256 writer place.w.0)
    (place_text reader reader_way) (type_text 256 reader place.r.0)

-- the place of a fault, and two ways to it, which lead to the nodes of the place
pub record IsFaultAt (writer reader : List Node) (places : List Place) (fault : Finding) : Type 0 where
  pub place : Place
  pub there : slice_get places fault.place ≡ Some place
  pub writer_way : List PathStep
  pub reader_way : List PathStep
  pub leads_writer : ArePlaced writer reader places → IsWay writer writer_way place.w.0
  pub leads_reader : ArePlaced writer reader places → IsWay reader reader_way place.r.0
  pub way : ArePlaced writer reader places → IsWayTo places fault.place writer_way reader_way

-- the line of a fault, by the two ways to its place
pub record IsFaultLine (writer reader : List Node) (places : List Place) (fault : Finding) (line : List ℕ) : Type 0 where
  pub found : IsFaultAt writer reader places fault
  pub written : line ≡ fault_line writer reader found.place fault.detail found.writer_way found.reader_way

-- this line added to a text
pub record IsLineAdded (writer reader : List Node) (places : List Place) (fault : Finding) (before after : List ℕ) : Type 0 where
  pub line : List ℕ
  pub is : IsFaultLine writer reader places fault line
  pub added : after ≡ before ++ line

-- a line with the number of faults, and a line for each of them, in order
pub record AreFaultLines (writer reader : List Node) (places : List Place) (faults : List Finding) (text : List ℕ) : Type 0 where
  pub lines : List (List ℕ)
  pub each : AllZip (IsFaultLine writer reader places) faults lines
  pub written : text ≡ no_line (length faults) ++ concat lines
