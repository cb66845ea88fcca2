-- The attributes of a declaration (Avro 1.11, "Schema Declaration", "Names", "Aliases"), over the members of its JSON
-- object. What is ill-typed or breaks a rule is noted as a fault.
use Rattle.std.specs.Prelude.{ℕ, suc, Bool, true, false, List, [], ◌∷◌, ◌++◌, codes, bytes_eq, nat_le, if◌then◌else◌, Option, Some, None, option_map, option_and_then, ok_or, is_some, filter_map, Result, Ok, Err}
use Rattle.std.specs.List.{list_all}
use Rattle.avro_name.specs.Name.{Name, is_namespace, has_dot, name_of}
use Rattle.avro_schema.specs.WellFormed.{max_count}
use Rattle.serde_json.specs.Data.{Data, Items, no_items, item, Members}
use Rattle.serde_json.specs.Find.{get_member, as_str, as_array, as_number, as_u64}
use Rattle.avro_schema_json.specs.declared.error.SchemaError.{SchemaError}

-- the fault, where the rule is not kept
abbrev pub unless : Bool → SchemaError → List SchemaError
unless true fault = []
unless false fault = fault ∷ []

-- what an attribute says, and the faults in it
pub record Attribute (A : Type 0) : Type 0 where
  pub value : A
  pub faults : List SchemaError

-- an attribute that may not be missing or ill-typed; where it is, x takes its place
abbrev pub needed : {A : Type 0} → A → Option A → Attribute A
needed x None = record { value = x; faults = SchemaError.InvalidDeclaration ∷ [] }
needed x (Some y) = record { value = y; faults = [] }

-- the text under a key
abbrev pub text_in : List ℕ → Members → Option (List ℕ)
text_in key ms = option_and_then as_str (get_member key ms)

-- an array of texts
abbrev pub texts_of : Items → Option (List (List ℕ))
texts_of no_items = Some []
texts_of (item d ds) = option_and_then (λ text. option_map (λ texts. text ∷ texts) (texts_of ds)) (as_str d)

-- the texts of an array, if it is one of texts
abbrev pub as_texts : Data → Option (List (List ℕ))
as_texts d = option_and_then texts_of (as_array d)

-- the namespace of a definition whose name has no dot: its own, or else the enclosing one
abbrev pub namespace_from : List ℕ → Option Data → Result (List ℕ) SchemaError
namespace_from enclosing None = Ok enclosing
namespace_from enclosing (Some d) = from_text (as_str d)
  where
    from_text : Option (List ℕ) → Result (List ℕ) SchemaError
    from_text None = Err SchemaError.InvalidDeclaration
    from_text (Some text) = if is_namespace text then Ok text else Err SchemaError.InvalidName

-- the fullname of a definition; beside a name with a dot its namespace is not looked at
abbrev pub name_from : List ℕ → Option Data → Option (List ℕ) → Result Name SchemaError
name_from enclosing namespace None = Err SchemaError.InvalidDeclaration
name_from enclosing namespace (Some text) = name_within (if has_dot text then Ok [] else namespace_from enclosing namespace)
  where
    name_within : Result (List ℕ) SchemaError → Result Name SchemaError
    name_within (Err fault) = Err fault
    name_within (Ok space) = ok_or (name_of text space) SchemaError.InvalidName

-- the fullname of a definition, from its attributes
abbrev pub name_in : List ℕ → Members → Result Name SchemaError
name_in enclosing ms = name_from enclosing (get_member (codes "namespace") ms) (text_in (codes "name") ms)

-- the texts of `aliases`, which may be missing
abbrev pub alias_texts_from : Option Data → Attribute (List (List ℕ))
alias_texts_from None = record { value = []; faults = [] }
alias_texts_from (Some d) = needed [] (as_texts d)

-- the texts of `aliases`, from its attributes
abbrev pub alias_texts_in : Members → Attribute (List (List ℕ))
alias_texts_in ms = alias_texts_from (get_member (codes "aliases") ms)

-- the aliases of a type in a namespace; one without a dot is in the same namespace
abbrev pub aliases_in : List ℕ → Members → Attribute (List Name)
aliases_in namespace ms = aliases_from (alias_texts_in ms)
  where
    aliases_from : Attribute (List (List ℕ)) → Attribute (List Name)
    aliases_from texts = record {
      value = filter_map (λ text. name_of text namespace) texts.value;
      faults = texts.faults ++ unless (list_all (λ text. is_some (name_of text namespace)) texts.value) SchemaError.InvalidName;
    }

-- the index of a symbol
abbrev pub symbol_index : List ℕ → List (List ℕ) → Option ℕ
symbol_index word [] = None
symbol_index word (symbol ∷ symbols) = if bytes_eq word symbol then Some 0 else option_map suc (symbol_index word symbols)

-- the index of the default among the symbols of an enum
abbrev pub default_symbol_from : List (List ℕ) → Option Data → Attribute (Option ℕ)
default_symbol_from symbols None = record { value = None; faults = [] }
default_symbol_from symbols (Some d) = from_text (as_str d)
  where
    from_index : Option ℕ → Attribute (Option ℕ)
    from_index index = record { value = index; faults = unless (is_some index) SchemaError.InvalidSymbols }

    from_text : Option (List ℕ) → Attribute (Option ℕ)
    from_text None = record { value = None; faults = SchemaError.InvalidDeclaration ∷ [] }
    from_text (Some word) = from_index (symbol_index word symbols)

-- the symbols of an enum, and the index of its default
abbrev pub symbols_in : Members → Attribute (List (List ℕ) × Option ℕ)
symbols_in ms = symbols_from (option_and_then as_texts (get_member (codes "symbols") ms))
  where
    with_default : List (List ℕ) → Attribute (Option ℕ) → Attribute (List (List ℕ) × Option ℕ)
    with_default symbols default = record { value = (symbols, default.value); faults = default.faults }

    symbols_from : Option (List (List ℕ)) → Attribute (List (List ℕ) × Option ℕ)
    symbols_from None = record { value = ([], None); faults = SchemaError.InvalidDeclaration ∷ [] }
    symbols_from (Some symbols) = with_default symbols (default_symbol_from symbols (get_member (codes "default") ms))

-- the number of bytes of a fixed
abbrev pub size_in : Members → Attribute ℕ
size_in ms = size_from (option_and_then as_u64 (option_and_then as_number (get_member (codes "size") ms)))
  where
    size_from : Option ℕ → Attribute ℕ
    size_from None = record { value = 0; faults = SchemaError.InvalidDeclaration ∷ [] }
    size_from (Some size) = record { value = size; faults = unless (nat_le size max_count) SchemaError.LimitExceeded }
