-- What the reading of a part returns, and what it leaves.
use Rattle.std.specs.Prelude.{◌≡◌, ℕ, ◌⊎◌, ◌++◌, List, [], ◌∷◌, length, codes, true, nat_lt, Option, Some, None, Result, Ok, Err, Contains}
use Rattle.avro_name.specs.Name.{Name}
use Rattle.avro_schema.specs.Node.{Node}
use Rattle.avro_schema.specs.WellFormed.{max_nodes}
use Rattle.serde_json.specs.Data.{Data, Members}
use Rattle.avro_schema_json.specs.declared.error.SchemaError.{SchemaError}
use Rattle.avro_schema_json.specs.DeclaredAttributes.{Attribute, unless, name_in}
use Rattle.avro_schema_json.specs.Declares.{RawNode, RawField, Known, Made, Meaning, faulty, in_turn, container_of, definition_of, record_named, enum_named, fixed_named, defining, name_faults, meaning_of, fields_under}

-- the nodes so far, and the names that are known
pub record State : Type 0 where
  pub nodes : List RawNode
  pub known : Known

-- what a part makes that begins in a state
abbrev pub made_at : {A : Type 0} → Meaning A → List ℕ → State → Made A
made_at meaning enclosing s = meaning enclosing s.known (length s.nodes)

-- A part is read: it has no fault, this is its result, and its nodes and names are added to those before.
pub record IsRead {A : Type 0} (made : Made A) (before after : State) (result : A) : Type 0 where
  pub no_faults : made.faults ≡ []
  pub result_is : made.result ≡ result
  pub nodes_are : after.nodes ≡ before.nodes ++ made.nodes
  pub known_are : after.known ≡ made.known

-- the same for a part that begins in a state
abbrev pub Reads : {A : Type 0} → Meaning A → List ℕ → State → State → A → Type 0
Reads meaning enclosing before after result = IsRead (made_at meaning enclosing before) before after result

-- memory ran out, or the fault is one of these
abbrev pub IsRefusal : List SchemaError → SchemaError → Type 0
IsRefusal faults e = (e ≡ SchemaError.OutOfMemory) ⊎ Contains faults e

-- the same of a part that begins in a state
abbrev pub Refuses : {A : Type 0} → Meaning A → List ℕ → State → SchemaError → Type 0
Refuses meaning enclosing before e = IsRefusal (made_at meaning enclosing before).faults e

-- an attribute is read: it has no fault, and this is what it says
pub record IsAttribute {A : Type 0} (attribute : Attribute A) (value : A) : Type 0 where
  pub no_faults : attribute.faults ≡ []
  pub value_is : attribute.value ≡ value

-- a node is added with an id within the limit
pub record IsAdded (before after : State) (node : RawNode) (id : ℕ) : Type 0 where
  pub id_is : id ≡ length before.nodes
  pub within : nat_lt (length before.nodes) max_nodes ≡ true
  pub nodes_are : after.nodes ≡ before.nodes ++ node ∷ []
  pub known_are : after.known ≡ before.known

-- there is no room for a node more
abbrev pub limit_faults : State → List SchemaError
limit_faults before = unless (nat_lt (length before.nodes) max_nodes) SchemaError.LimitExceeded

-- A definition is begun: its name is new, and is known from now on; its node keeps an id.
pub record IsBegun (enclosing : List ℕ) (ms : Members) (before after : State) (name : Name) (id : ℕ) : Type 0 where
  pub name_is : name_in enclosing ms ≡ Ok name
  pub id_is : id ≡ length before.nodes
  pub within : nat_lt (length before.nodes) max_nodes ≡ true
  pub is_new : name_faults name before.known ≡ []
  pub nodes_are : after.nodes ≡ before.nodes ++ RawNode.plain Node.null ∷ []
  pub known_are : after.known ≡ defining name (length before.nodes) before.known

-- the faults of a definition as it begins
abbrev pub beginning_faults : State → Result Name SchemaError → List SchemaError
beginning_faults before (Err fault) = fault ∷ []
beginning_faults before (Ok name) = limit_faults before ++ name_faults name before.known

-- the meaning of what is under `fields`
abbrev pub fields_meaning : Option (List (Meaning RawField)) → Meaning (List RawField)
fields_meaning None = faulty [] SchemaError.InvalidDeclaration
fields_meaning (Some meanings) = in_turn meanings

-- the meanings of an array, a map, a record, an enum and a fixed
abbrev pub array_meaning : Data → Meaning ℕ
array_meaning items = container_of Node.array (Some (meaning_of items))

abbrev pub map_meaning : Data → Meaning ℕ
map_meaning values = container_of Node.map_of (Some (meaning_of values))

abbrev pub record_meaning : Members → Meaning ℕ
record_meaning ms = definition_of ms (record_named ms (fields_under (codes "fields") ms))

abbrev pub enum_meaning : Members → Meaning ℕ
enum_meaning ms = definition_of ms (enum_named ms)

abbrev pub fixed_meaning : Members → Meaning ℕ
fixed_meaning ms = definition_of ms (fixed_named ms)
