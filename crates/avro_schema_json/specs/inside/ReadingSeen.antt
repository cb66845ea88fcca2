-- How contracts see the state of a reading, its words and its forms.
use Rattle.std.specs.Prelude.{ℕ, List}
use Rattle.avro_schema.specs.Node.{Node}
use Rattle.avro_schema.specs.declared.schema.NodeId.{NodeId}
use Rattle.avro_schema_json.specs.declared.error.SchemaError.{SchemaError}
use Rattle.avro_schema_json.specs.Declares.{Meaning, faulty, use_of, reference, Form as SeenForm, record_form, enum_form, fixed_form, array_form, map_form, error_form, word_form, no_form}
use Rattle.avro_schema_json.specs.inside.KnownSeen.{known_of, IsNumbered, KeepsNumbers}
use Rattle.avro_schema_json.specs.inside.Reading.{State, Reads, Refuses}
use Rattle.avro_schema_json.specs.inside.SeenRaw.{raw_nodes_of}
use Rattle.avro_schema_json.specs.declared.declarations.name_table.Space.{Space}
use Rattle.avro_schema_json.specs.declared.declarations.progress.Progress.{Progress}
use Rattle.avro_schema_json.specs.declared.declarations.words.Word.{Word}
use Rattle.avro_schema_json.specs.declared.declarations.words.Form.{Form}

abbrev pub state_of : Progress → State
state_of d = record { nodes = raw_nodes_of d.nodes.items; known = known_of d.names }

-- the namespace has this number, and each keeps its own
abbrev pub IsEnclosed : Progress → Space → Type 0
IsEnclosed d space = IsNumbered d.names space

abbrev pub Keeps : Progress → Progress → Type 0
Keeps before after = KeepsNumbers before.names after.names

-- a part is read, or a node that is a type
abbrev pub ReadsAt : {A : Type 0} → Meaning A → List ℕ → Progress → Progress → A → Type 0
ReadsAt meaning enclosing before after result = Reads meaning enclosing (state_of before) (state_of after) result

abbrev pub ReadsNode : Meaning ℕ → List ℕ → Progress → Progress → NodeId → Type 0
ReadsNode meaning enclosing before after id = ReadsAt meaning enclosing before after id.0

-- a part is refused
abbrev pub RefusesAt : {A : Type 0} → Meaning A → List ℕ → Progress → SchemaError → Type 0
RefusesAt meaning enclosing before e = Refuses meaning enclosing (state_of before) e

-- what a word means, once it is known which it is
abbrev pub meaning_of_word : List ℕ → Word → Meaning ℕ
meaning_of_word text Word.Null = use_of Node.null
meaning_of_word text Word.Boolean = use_of Node.boolean
meaning_of_word text Word.Int = use_of Node.int
meaning_of_word text Word.Long = use_of Node.long
meaning_of_word text Word.Bytes = use_of Node.bytes
meaning_of_word text Word.Str = use_of Node.string
meaning_of_word text Word.Unsupported = faulty 0 SchemaError.UnsupportedType
meaning_of_word text Word.TypeName = reference text

abbrev pub form_seen : Form → SeenForm
form_seen Form.Record = record_form
form_seen Form.Enum = enum_form
form_seen Form.Fixed = fixed_form
form_seen Form.Array = array_form
form_seen Form.Map = map_form
form_seen Form.Error = error_form
form_seen (Form.Word word) = word_form word.now
form_seen Form.Missing = no_form
