-- How definitions are read: a record, an enum, a fixed.
use Rattle.avro_schema_json.proofs.Words.{arith, ◌≡◌, ℕ, suc, List, [], ◌++◌, Option, refl, subst, length, sym, slice_set, Ok, append-nil, Name, Node, Members, SchemaError, Attribute, name_in, aliases_in, symbols_in, size_in, RawNode, RawField, Known, Made, Meaning, no_parts, node_with, definition_of, enum_named, fixed_named, record_named, defining, name_faults, State, made_at, IsRead, Reads, IsRefusal, Refuses, IsAttribute, IsBegun, beginning_faults, fields_meaning}
use Rattle.avro_schema_json.proofs.TypesRead.{IsHeld, first-refused, second-refused, grown-refused, node_with-read, node_with-own, node_with-part}

-- What a definition makes once it has a name: a node of the name, its aliases, an attribute of its own and its parts.
pub record IsDefinition {A B : Type 0} (ms : Members) (named : Known → ℕ → Name → Made ℕ) (node : Name → List Name → B → A → RawNode) (own : Attribute B)
    (part : Meaning A) : Type 0 where
  pub made : (known : Known) (next : ℕ) (name : Name) → named known next name
      ≡ node_with next (node name (aliases_in name.namespace ms).value own.value) (name_faults name known ++ (aliases_in name.namespace ms).faults ++ own.faults)
      (part name.namespace (defining name next known) (suc next))

abbrev pub nothing : Meaning (List ℕ)
nothing space known next = no_parts known

pub nothing-read : (space : List ℕ) (s : State) → Reads nothing space s s []
nothing-read space s = record { no_faults = refl; result_is = refl; nodes_are = sym (append-nil s.nodes); known_are = refl }

-- a record has no other attribute
abbrev pub no_attribute : Attribute (Unit {0})
no_attribute = record { value = tt; faults = [] }

pub record-definition : (ms : Members) (fields : Option (List (Meaning RawField)))
    → IsDefinition ms (record_named ms fields) (λ name aliases none parts. RawNode.record_of name aliases parts) no_attribute (fields_meaning fields)
record-definition ms fields = grind (arith, append-nil)

pub enum-definition : (ms : Members)
    → IsDefinition ms (enum_named ms) (λ name aliases listed none. RawNode.plain (Node.enum name aliases listed.0 listed.1)) (symbols_in ms) nothing
enum-definition ms = record { made = λ known next name. refl }

pub fixed-definition : (ms : Members) → IsDefinition ms (fixed_named ms) (λ name aliases size none. RawNode.plain (Node.fixed name aliases size)) (size_in ms) nothing
fixed-definition ms = record { made = λ known next name. refl }

module _ {A B : Type 0} {ms : Members} {named : Known → ℕ → Name → Made ℕ} {node : Name → List Name → B → A → RawNode} {own : Attribute B} {part : Meaning A}
    (d : IsDefinition ms named node own part) (enclosing : List ℕ) (before : State) where
  made_named : (name : Name) → name_in enclosing ms ≡ Ok name → made_at (definition_of ms named) enclosing before
      ≡ node_with (length before.nodes) (node name (aliases_in name.namespace ms).value own.value)
      (name_faults name before.known ++ (aliases_in name.namespace ms).faults ++ own.faults)
      (part name.namespace (defining name (length before.nodes) before.known) (suc (length before.nodes)))
  made_named name is = rw is (d.made before.known (length before.nodes) name)

  -- a fault at the beginning of a definition
  pub unbegun : (e : SchemaError) → IsRefusal (beginning_faults before (name_in enclosing ms)) e → Refuses (definition_of ms named) enclosing before e
  unbegun e refused = grind (arith, first-refused, grown-refused)

  module _ {inside : State} {name : Name} {id : ℕ} (begun : IsBegun enclosing ms before inside name id) {space : List ℕ} (at : space ≡ name.namespace) where
    held : IsHeld before inside (defining name (length before.nodes) before.known) id
    held = record { id_is = begun.id_is; within = begun.within; nodes_are = begun.nodes_are; known_are = begun.known_are }

    own-refused : (e : SchemaError) → IsRefusal (name_faults name before.known ++ (aliases_in name.namespace ms).faults ++ own.faults) e
        → Refuses (definition_of ms named) enclosing before e
    own-refused e h = rw (made_named name begun.name_is) (node_with-own part name.namespace held (node name (aliases_in name.namespace ms).value own.value) _ e h)

    pub misnamed : (e : SchemaError) → IsRefusal (aliases_in space ms).faults e → Refuses (definition_of ms named) enclosing before e
    misnamed e refused = grind (arith, first-refused, second-refused)

    pub misformed : (e : SchemaError) → IsRefusal own.faults e → Refuses (definition_of ms named) enclosing before e
    misformed e h = own-refused e (second-refused (name_faults name before.known ++ (aliases_in name.namespace ms).faults) own.faults e h)

    pub part-refused : (e : SchemaError) → Refuses part space inside e → Refuses (definition_of ms named) enclosing before e
    part-refused e refused =
        let h : Refuses part name.namespace inside e = subst (λ (s : List ℕ). Refuses part s inside e) at refused in
        rw (made_named name begun.name_is) (node_with-part part name.namespace held (node name (aliases_in name.namespace ms).value own.value) _ e h)

    pub definition-read : (after last : State) (aliases : List Name) (value : B) (parts : A) → IsAttribute (aliases_in space ms) aliases → IsAttribute own value
        → Reads part space inside after parts → last.nodes ≡ slice_set after.nodes id (node name aliases value parts) → last.known ≡ after.known
        → Reads (definition_of ms named) enclosing before last id
    definition-read after last aliases value parts aliased formed read put kept =
        let a : IsAttribute (aliases_in name.namespace ms) aliases = subst (λ (s : List ℕ). IsAttribute (aliases_in s ms) aliases) at aliased in
        let r : Reads part name.namespace inside after parts = subst (λ (s : List ℕ). Reads part s inside after parts) at read in
        let clean : name_faults name before.known ++ (aliases_in name.namespace ms).faults ++ own.faults ≡ [] = rw (begun.is_new, a.no_faults, formed.no_faults) refl in
        subst (λ (made : Made ℕ). IsRead made before last id) (sym (made_named name begun.name_is))
        (node_with-read part name.namespace held (node name (aliases_in name.namespace ms).value own.value) _ after last parts clean r
        (rw (a.value_is, formed.value_is) put) kept)
