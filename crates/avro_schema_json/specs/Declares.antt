-- What a JSON tree declares (Avro 1.11, "Schema Declaration", "Names").
-- Definitions, arrays, maps, unions and uses of primitive types are nodes, numbered in the order in which they begin,
-- depth first and from left to right. A reference makes no node: its edge goes to the definition.
use Rattle.std.specs.Prelude.{ℕ, suc, ◌+◌, List, [], ◌∷◌, ◌++◌, length, codes, bytes_eq, nat_lt, if◌then◌else◌, Option, Some, None, is_some, not, Result, Ok, Err}
use Rattle.std.specs.Ordering.{nat_cmp, match_ordering}
use Rattle.std.specs.Cmp.Lexicographic.{slice_cmp}
use Rattle.avro_name.specs.Name.{Name, same_name, name_of}
use Rattle.avro_schema.specs.Node.{Node}
use Rattle.avro_schema.specs.WellFormed.{max_nodes}
use Rattle.serde_json.specs.Data.{Data, Items, no_items, item, Members, no_members, member}
use Rattle.serde_json.specs.Find.{get_member}
use Rattle.avro_schema_json.specs.declared.error.SchemaError.{SchemaError}
use Rattle.avro_schema_json.specs.DeclaredAttributes.{Attribute, unless, needed, text_in, name_in, alias_texts_in, aliases_in, symbols_in, size_in}

-- a field whose default is still JSON
pub record RawField : Type 0 where
  pub name : List ℕ
  pub aliases : List (List ℕ)
  pub node : ℕ
  pub default : Option Data

-- a node before its defaults are read; only a record has any, and no rule below makes `plain` of a record
pub data RawNode : Type 0 where
  plain : Node → RawNode
  record_of : Name → List Name → List RawField → RawNode

-- the names that are defined, with their nodes, in the order of definition
abbrev pub Known : Type 0
Known = List (Name × ℕ)

-- the node of a name, if it is known
abbrev pub id_of : Name → Known → Option ℕ
id_of name [] = None
id_of name (definition ∷ known) = if same_name name definition.0 then Some definition.1 else id_of name known

-- what a part of a tree makes: what it is for the part around it, its nodes, the names that are known then, and faults
pub record Made (A : Type 0) : Type 0 where
  pub result : A
  pub nodes : List RawNode
  pub known : Known
  pub faults : List SchemaError

-- The meaning of a part, where a namespace encloses it, these names are known before, and its first node has this
-- number. The result of a type is the node that an edge to it goes to.
abbrev pub Meaning : Type 0 → Type 0
Meaning A = List ℕ → Known → ℕ → Made A

-- nothing but a fault
abbrev pub faulty : {A : Type 0} → A → SchemaError → Meaning A
faulty x fault enclosing known next = record { result = x; nodes = []; known = known; faults = fault ∷ [] }

-- a part, and the parts after it
abbrev pub first_and_rest : {A : Type 0} → Made A → Made (List A) → Made (List A)
first_and_rest first rest = record {
  result = first.result ∷ rest.result;
  nodes = first.nodes ++ rest.nodes;
  known = rest.known;
  faults = first.faults ++ rest.faults;
}

-- a part, and what follows by it
abbrev pub followed_by : {A : Type 0} → Made A → (Made A → Made (List A)) → Made (List A)
followed_by first rest = first_and_rest first (rest first)

-- parts one after another
abbrev pub in_turn : {A : Type 0} → List (Meaning A) → Meaning (List A)
in_turn [] enclosing known next = record { result = []; nodes = []; known = known; faults = [] }
in_turn (meaning ∷ meanings) enclosing known next =
    followed_by (meaning enclosing known next) (λ first. in_turn meanings enclosing first.known (next + length first.nodes))

-- a node, with the parts below it; it is one too many past `max_nodes`
abbrev pub node_with : {A : Type 0} → ℕ → (A → RawNode) → List SchemaError → Made A → Made ℕ
node_with next node faults parts = record {
  result = next;
  nodes = node parts.result ∷ parts.nodes;
  known = parts.known;
  faults = unless (nat_lt next max_nodes) SchemaError.LimitExceeded ++ faults ++ parts.faults;
}

-- no part
abbrev pub no_parts : Known → Made (List ℕ)
no_parts known = record { result = []; nodes = []; known = known; faults = [] }

-- a primitive type
abbrev pub use_of : Node → Meaning ℕ
use_of node enclosing known next = node_with next (λ none. RawNode.plain node) [] (no_parts known)

-- a reference to a definition that is known
abbrev pub reference : List ℕ → Meaning ℕ
reference word enclosing known next = by_name (name_of word enclosing)
  where
    by_id : Option ℕ → Made ℕ
    by_id None = faulty 0 SchemaError.UnknownName enclosing known next
    by_id (Some id) = record { result = id; nodes = []; known = known; faults = [] }

    by_name : Option Name → Made ℕ
    by_name None = faulty 0 SchemaError.InvalidName enclosing known next
    by_name (Some name) = by_id (id_of name known)

-- what a word names
pub data Word : Type 0 where
  null_word : Word
  boolean_word : Word
  int_word : Word
  long_word : Word
  bytes_word : Word
  string_word : Word
  -- `float` and `double`
  unsupported_word : Word
  -- any other
  type_name : Word

-- what a word is
abbrev pub word_of : List ℕ → Word
word_of word =
    if bytes_eq word (codes "null") then null_word
    else (if bytes_eq word (codes "boolean") then boolean_word
    else (if bytes_eq word (codes "int") then int_word
    else (if bytes_eq word (codes "long") then long_word
    else (if bytes_eq word (codes "bytes") then bytes_word
    else (if bytes_eq word (codes "string") then string_word
    else (if bytes_eq word (codes "float") then unsupported_word
    else (if bytes_eq word (codes "double") then unsupported_word
    else type_name)))))))

-- the type that a word names
abbrev pub type_of_word : List ℕ → Meaning ℕ
type_of_word word = by_word (word_of word)
  where
    by_word : Word → Meaning ℕ
    by_word null_word = use_of Node.null
    by_word boolean_word = use_of Node.boolean
    by_word int_word = use_of Node.int
    by_word long_word = use_of Node.long
    by_word bytes_word = use_of Node.bytes
    by_word string_word = use_of Node.string
    by_word unsupported_word = faulty 0 SchemaError.UnsupportedType
    by_word type_name = reference word

-- a union of its branches in order
abbrev pub union_of : List (Meaning ℕ) → Meaning ℕ
union_of branches enclosing known next =
    node_with next (λ ids. RawNode.plain (Node.union ids)) [] (in_turn branches enclosing known (suc next))

-- an array or a map of the type under one key
abbrev pub container_of : (ℕ → Node) → Option (Meaning ℕ) → Meaning ℕ
container_of node None = faulty 0 SchemaError.InvalidDeclaration
container_of node (Some part) = λ enclosing known next. node_with next (λ id. RawNode.plain (node id)) [] (part enclosing known (suc next))

-- the names that are known from the start of a definition on
abbrev pub defining : Name → ℕ → Known → Known
defining name id known = known ++ (name, id) ∷ []

-- no name is defined twice
abbrev pub name_faults : Name → Known → List SchemaError
name_faults name known = unless (not (is_some (id_of name known))) SchemaError.DuplicateName

-- a record of this name, whose namespace encloses its fields
abbrev pub record_named : Members → Option (List (Meaning RawField)) → Known → ℕ → Name → Made ℕ
record_named ms fields known next name =
    node_with next (RawNode.record_of name (aliases_in name.namespace ms).value)
    (name_faults name known ++ (aliases_in name.namespace ms).faults)
    (fields_meaning fields name.namespace (defining name next known) (suc next))
  where
    fields_meaning : Option (List (Meaning RawField)) → Meaning (List RawField)
    fields_meaning None = faulty [] SchemaError.InvalidDeclaration
    fields_meaning (Some meanings) = in_turn meanings

-- an enum of this name
abbrev pub enum_named : Members → Known → ℕ → Name → Made ℕ
enum_named ms known next name =
    node_with next
    (λ none. RawNode.plain (Node.enum name (aliases_in name.namespace ms).value (symbols_in ms).value.0 (symbols_in ms).value.1))
    (name_faults name known ++ (aliases_in name.namespace ms).faults ++ (symbols_in ms).faults)
    (no_parts (defining name next known))

-- a fixed of this name
abbrev pub fixed_named : Members → Known → ℕ → Name → Made ℕ
fixed_named ms known next name =
    node_with next (λ none. RawNode.plain (Node.fixed name (aliases_in name.namespace ms).value (size_in ms).value))
    (name_faults name known ++ (aliases_in name.namespace ms).faults ++ (size_in ms).faults)
    (no_parts (defining name next known))

-- a definition without a name that can be read defines nothing
abbrev pub definition_of : Members → (Known → ℕ → Name → Made ℕ) → Meaning ℕ
definition_of ms named enclosing known next = by_name (name_in enclosing ms)
  where
    by_name : Result Name SchemaError → Made ℕ
    by_name (Err fault) = faulty 0 fault enclosing known next
    by_name (Ok name) = named known next name

-- what the `type` of an object says
pub data Form : Type 0 where
  record_form : Form
  enum_form : Form
  fixed_form : Form
  array_form : Form
  map_form : Form
  error_form : Form
  -- any other word
  word_form : List ℕ → Form
  -- there is none, or it is no text
  no_form : Form

-- the same of a word
abbrev pub form_of_word : List ℕ → Form
form_of_word word =
    if bytes_eq word (codes "record") then record_form
    else (if bytes_eq word (codes "enum") then enum_form
    else (if bytes_eq word (codes "fixed") then fixed_form
    else (if bytes_eq word (codes "array") then array_form
    else (if bytes_eq word (codes "map") then map_form
    else (if bytes_eq word (codes "error") then error_form
    else word_form word)))))

-- the same of a word that may be missing
abbrev pub form_of : Option (List ℕ) → Form
form_of None = no_form
form_of (Some word) = form_of_word word

-- an object, with the meanings of its `items`, its `values` and its `fields`
abbrev pub type_of_form : Members → Option (Meaning ℕ) → Option (Meaning ℕ) → Option (List (Meaning RawField)) → Form → Meaning ℕ
type_of_form ms items values fields record_form = definition_of ms (record_named ms fields)
type_of_form ms items values fields enum_form = definition_of ms (enum_named ms)
type_of_form ms items values fields fixed_form = definition_of ms (fixed_named ms)
type_of_form ms items values fields array_form = container_of Node.array items
type_of_form ms items values fields map_form = container_of Node.map_of values
type_of_form ms items values fields error_form = faulty 0 SchemaError.UnsupportedType
type_of_form ms items values fields (word_form word) = type_of_word word
type_of_form ms items values fields no_form = faulty 0 SchemaError.InvalidDeclaration

-- a field, with the meaning of its `type`
abbrev pub field_of : Members → Option (Meaning ℕ) → Meaning RawField
field_of ms type enclosing known next = typed (type_made type)
  where
    name : Attribute (List ℕ)
    name = needed [] (text_in (codes "name") ms)

    aliases : Attribute (List (List ℕ))
    aliases = alias_texts_in ms

    typed : Made ℕ → Made RawField
    typed made = record {
      result = record { name = name.value; aliases = aliases.value; node = made.result; default = get_member (codes "default") ms };
      nodes = made.nodes;
      known = made.known;
      faults = name.faults ++ aliases.faults ++ made.faults;
    }

    type_made : Option (Meaning ℕ) → Made ℕ
    type_made None = faulty 0 SchemaError.InvalidDeclaration enclosing known next
    type_made (Some meaning) = meaning enclosing known next

-- JSON that is not a field
abbrev pub no_field : Meaning RawField
no_field = faulty (record { name = []; aliases = []; node = 0; default = None }) SchemaError.InvalidDeclaration

-- what a tree declares, given a namespace, the earlier names and the next number: nodes in pre-order, names and faults
abbrev mutual
  pub meaning_of : Data → Meaning ℕ
  meaning_of Data.null = faulty 0 SchemaError.InvalidDeclaration
  meaning_of (Data.boolean b) = faulty 0 SchemaError.InvalidDeclaration
  meaning_of (Data.number n) = faulty 0 SchemaError.InvalidDeclaration
  meaning_of (Data.string word) = type_of_word word
  meaning_of (Data.array ds) = union_of (branches_of ds)
  meaning_of (Data.object ms) =
      type_of_form ms (meaning_under (codes "items") ms) (meaning_under (codes "values") ms) (fields_under (codes "fields") ms)
      (form_of (text_in (codes "type") ms))

  -- what each branch of a union declares
  pub branches_of : Items → List (Meaning ℕ)
  branches_of no_items = []
  branches_of (item d ds) = meaning_of d ∷ branches_of ds

  -- the meaning of the member of a key
  pub meaning_under : List ℕ → Members → Option (Meaning ℕ)
  meaning_under key no_members = None
  meaning_under key (member k d ms) =
      match_ordering (slice_cmp nat_cmp key k) (meaning_under key ms) (Some (λ enclosing known next. meaning_of d enclosing known next)) (meaning_under key ms)

  -- the meanings of the fields that the member of a key is an array of
  pub fields_under : List ℕ → Members → Option (List (Meaning RawField))
  fields_under key no_members = None
  fields_under key (member k d ms) =
      match_ordering (slice_cmp nat_cmp key k) (fields_under key ms) (fields_from d) (fields_under key ms)

  -- the same of a value that must be an array
  pub fields_from : Data → Option (List (Meaning RawField))
  fields_from Data.null = None
  fields_from (Data.boolean b) = None
  fields_from (Data.number n) = None
  fields_from (Data.string word) = None
  fields_from (Data.array ds) = Some (field_meanings ds)
  fields_from (Data.object ms) = None

  -- the same of each item
  pub field_meanings : Items → List (Meaning RawField)
  field_meanings no_items = []
  field_meanings (item d ds) = field_meaning d ∷ field_meanings ds

  -- what a field declares
  pub field_meaning : Data → Meaning RawField
  field_meaning Data.null = no_field
  field_meaning (Data.boolean b) = no_field
  field_meaning (Data.number n) = no_field
  field_meaning (Data.string word) = no_field
  field_meaning (Data.array ds) = no_field
  field_meaning (Data.object ms) = field_of ms (meaning_under (codes "type") ms)

-- what a whole tree makes: the null namespace encloses it, no name is known, and its root is node 0
abbrev pub made_of : Data → Made ℕ
made_of tree = meaning_of tree [] [] 0
