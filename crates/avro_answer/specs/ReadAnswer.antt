-- What `avro read` answers of the texts of schemas and of encoded data: the bytes that it prints, and its exit status.
use Rattle.std.specs.Prelude.{◌≡◌, ℕ, ◌<◌, ◌≤◌, true, ◌⊎◌, List, ◌++◌, length, drop, codes, Option, Some, None, Ok, Err}
use Rattle.avro_schema.specs.Value.{Value}
use Rattle.avro_schema.specs.Node.{Node, root_of}
use Rattle.avro_schema.specs.Fits.{LimitValues, is_within}
use Rattle.avro_cursor.specs.Breaks.{Breaks}
use Rattle.avro_cursor.specs.Encoding.{Encodes}
use Rattle.avro_cursor.specs.Fault.{ReadFault, end_of_input}
use Rattle.avro_compare.specs.Fault.{ResolutionFault}
use Rattle.avro_compare.specs.Resolve.{Resolved, resolve_root}
use Rattle.avro_certificate.specs.CertificateText.{decimal}
use Rattle.avro_display.specs.DisplayTree.{display_text}
use Rattle.avro_answer.specs.ReadText.{IsReadAs}
use Rattle.avro_answer.specs.RefusalText.{HasSchema, HaveSchemas, RefusesOne, RefusesPair, refusal_text}
use Rattle.avro_answer.specs.Texts.{bytes_fault_text, fault_text}
use Rattle.avro_answer.specs.declared.form.Form.{Form}
use Rattle.avro_answer.specs.declared.refusal.Refusal.{Refusal}

-- the schema of what is answered: the reader's if there is one, otherwise the writer's
abbrev pub nodes_for : List Node → Option (List Node) → List Node
nodes_for writer None = writer
nodes_for writer (Some reader) = reader

-- what a writer's datum becomes: what resolution gives if there is a reader, otherwise itself
abbrev pub read_as : List Node → Option (List Node) → Value → Resolved
read_as writer None v = Ok v
read_as writer (Some reader) v = resolve_root writer reader v

-- The bytes begin with an encoding of a writer's datum within limits, of this length, whatever follows it.
pub record BeginsWith (writer : List Node) (limits : LimitValues) (bytes : List ℕ) (v : Value) (len : ℕ) : Type 0 where
  pub front : List ℕ
  pub rest : List ℕ
  pub parted : bytes ≡ front ++ rest
  pub encoded : Encodes writer (root_of writer) v front
  pub within : is_within limits v ≡ true
  pub length_is : len ≡ length front

-- What is found in encoded data: a datum with the length of its encoding, or the first fault.
pub data Found : Type 0 where
  datum : (u : Value) (len : ℕ) → Found
  broken : (fault : ReadFault) → Found
  unresolved : (fault : ResolutionFault) → Found

-- this is found at the front of some bytes
abbrev pub IsAtFront : List Node → Option (List Node) → LimitValues → List ℕ → Found → Type 0
IsAtFront writer reader limits bytes (datum u len) = (v : Value) × BeginsWith writer limits bytes v len × (read_as writer reader v ≡ Ok u)
IsAtFront writer reader limits bytes (broken fault) = Breaks writer limits (root_of writer) bytes fault
IsAtFront writer reader limits bytes (unresolved fault) =
    (v : Value) × (len : ℕ) × BeginsWith writer limits bytes v len × (read_as writer reader v ≡ Err fault)

-- this is found after a number of bytes; if there are fewer, the input ends before the datum begins
abbrev pub IsFound : List Node → Option (List Node) → LimitValues → ℕ → List ℕ → Found → Type 0
IsFound writer reader limits skip bytes found =
    ((length bytes < skip) × (found ≡ broken (end_of_input 0))) ⊎ ((skip ≤ length bytes) × IsAtFront writer reader limits (drop skip bytes) found)

-- this is found, and nothing else is
pub record IsAllFound (writer : List Node) (reader : Option (List Node)) (limits : LimitValues) (skip : ℕ) (bytes : List ℕ) (found : Found) : Type 0 where
  pub there : IsFound writer reader limits skip bytes found
  pub alone : (other : Found) → IsFound writer reader limits skip bytes other → other ≡ found

-- the length of the encoding and the display of the datum, as two lines or as a line of JSON
abbrev pub datum_text : Form → List Node → Value → ℕ → List ℕ
datum_text Form.Text nodes u len = codes "bytes " ++ decimal len ++ codes "\ndatum " ++ display_text nodes (root_of nodes) u ++ codes "\n"
datum_text Form.Json nodes u len = codes "{\"bytes\":" ++ decimal len ++ codes ",\"datum\":" ++ display_text nodes (root_of nodes) u ++ codes "}\n"

-- the text of what is found, by the word that names the data: of a datum, or the line of the fault
abbrev pub found_text : Form → List ℕ → List Node → Found → List ℕ
found_text form word nodes (datum u len) = datum_text form nodes u len
found_text form word nodes (broken fault) = refusal_text word (bytes_fault_text fault)
found_text form word nodes (unresolved fault) = refusal_text word (fault_text fault)

-- the status of what is found: 0 for a datum, 3 for a fault
abbrev pub found_status : Found → ℕ
found_status (datum u len) = 0
found_status (broken fault) = 3
found_status (unresolved fault) = 3

-- What is answered of schemas and of data: the text and the status of what is found, and nothing else is found.
pub record DataAnswer (writer : List Node) (reader : Option (List Node)) (limits : LimitValues) (form : Form) (skip : ℕ) (bytes text : List ℕ) (status : ℕ) : Type 0 where
  pub found : Found
  pub is_found : IsAllFound writer reader limits skip bytes found
  pub told : text ≡ found_text form (codes "data") (nodes_for writer reader) found
  pub status_is : status ≡ found_status found

-- there is no reader's text and there is no reader, or the text is not too long and declares these nodes
abbrev pub IsReaderReadAs : Option (List ℕ) → Option (List Node) → Type 0
IsReaderReadAs None None = Unit {0}
IsReaderReadAs None (Some nodes) = ⊥
IsReaderReadAs (Some text) None = ⊥
IsReaderReadAs (Some text) (Some nodes) = IsReadAs text nodes

-- What is answered of texts and of data: the texts declare schemas and are not too long, and it is the answer of those.
pub record ReadAnswer (writer : List ℕ) (reader : Option (List ℕ)) (limits : LimitValues) (form : Form) (skip : ℕ) (bytes text : List ℕ) (status : ℕ) : Type 0 where
  pub written : List Node
  pub read : Option (List Node)
  pub declares_written : IsReadAs writer written
  pub declares_read : IsReaderReadAs reader read
  pub answered : DataAnswer written read limits form skip bytes text status

-- each text declares a schema and is not too long
abbrev pub AreSchemas : List ℕ → Option (List ℕ) → Type 0
AreSchemas writer None = HasSchema writer
AreSchemas writer (Some reader) = HaveSchemas writer reader

-- What a refusal says of the texts: the first that is refused is this one. Memory that runs out says nothing.
abbrev pub RefusesTexts : List ℕ → Option (List ℕ) → Refusal → Type 0
RefusesTexts writer None refusal = RefusesOne writer refusal
RefusesTexts writer (Some reader) refusal = RefusesPair writer reader refusal
