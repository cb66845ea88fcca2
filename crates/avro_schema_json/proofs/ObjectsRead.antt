-- How objects are read: what their members mean.
use Rattle.avro_schema_json.proofs.Words.{◌≡◌, ℕ, List, [], ◌++◌, Option, Some, None, refl, subst, arith, sym, ap, ◌∙◌, inr, BTreeMap, String, Global, option_map, option_and_then, codes, get_by_text, Node, Data, Members, object, get_member, view, members_view, view-lookup, SchemaError, needed, text_in, alias_texts_in, RawField, Meaning, faulty, container_of, meaning_of, fields_under, fields_from, field_meaning, field_of, form_of, array_form, map_form, State, Reads, Refuses, IsRefusal, IsAttribute, Tree as Value}
use Rattle.avro_schema_json.proofs.DeclarationLaws.{meaning_under-found, fields_under-found}
use Rattle.avro_schema_json.proofs.TypesRead.{first-refused, second-refused}

-- ---- members that a map finds

pub member-found : (key : List ℕ) (members : BTreeMap (String Global) Value) (value : Value) → Some value ≡ get_by_text members key
    → get_member key (members_view members.entries) ≡ Some (view value)
member-found key members value found = sym (view-lookup key members.entries) ∙ ap (option_map view) (sym found)

pub member-missing : (key : List ℕ) (members : BTreeMap (String Global) Value) → None ≡ get_by_text members key
    → get_member key (members_view members.entries) ≡ None
member-missing key members missing = sym (view-lookup key members.entries) ∙ ap (option_map view) (sym missing)

-- nothing but a fault
pub refuses-faulty : {A : Type 0} (x : A) (fault : SchemaError) (enclosing : List ℕ) (s : State) → Refuses (faulty x fault) enclosing s fault
refuses-faulty x fault enclosing s = inr (0, omega arith, refl)

-- ---- arrays and maps

pub object-array : (ms : Members) (d : Data) → array_form ≡ form_of (text_in (codes "type") ms) → get_member (codes "items") ms ≡ Some d
    → meaning_of (object ms) ≡ container_of Node.array (Some (meaning_of d))
object-array ms d form found = rw (← form, meaning_under-found (codes "items") ms, found) refl

pub object-no_items : (ms : Members) → array_form ≡ form_of (text_in (codes "type") ms) → get_member (codes "items") ms ≡ None
    → meaning_of (object ms) ≡ faulty 0 SchemaError.InvalidDeclaration
object-no_items ms form found = rw (← form, meaning_under-found (codes "items") ms, found) refl

pub object-map : (ms : Members) (d : Data) → map_form ≡ form_of (text_in (codes "type") ms) → get_member (codes "values") ms ≡ Some d
    → meaning_of (object ms) ≡ container_of Node.map_of (Some (meaning_of d))
object-map ms d form found = rw (← form, meaning_under-found (codes "values") ms, found) refl

pub object-no_values : (ms : Members) → map_form ≡ form_of (text_in (codes "type") ms) → get_member (codes "values") ms ≡ None
    → meaning_of (object ms) ≡ faulty 0 SchemaError.InvalidDeclaration
object-no_values ms form found = rw (← form, meaning_under-found (codes "values") ms, found) refl

-- ---- the fields of a record

pub fields-found : (ms : Members) (d : Data) → get_member (codes "fields") ms ≡ Some d → fields_under (codes "fields") ms ≡ fields_from d
fields-found ms d found = fields_under-found (codes "fields") ms ∙ ap (option_and_then fields_from) found

pub fields-missing : (ms : Members) → get_member (codes "fields") ms ≡ None → fields_under (codes "fields") ms ≡ None
fields-missing ms found = fields_under-found (codes "fields") ms ∙ ap (option_and_then fields_from) found

-- ---- a field

module _ (ms : Members) (enclosing : List ℕ) (before : State) where
  typed : (d : Data) → get_member (codes "type") ms ≡ Some d → field_meaning (object ms) ≡ field_of ms (Some (meaning_of d))
  typed d found = rw (meaning_under-found (codes "type") ms, found) refl

  pub field-unnamed : (e : SchemaError) → IsRefusal (needed {A = List ℕ} [] (text_in (codes "name") ms)).faults e → Refuses (field_meaning (object ms)) enclosing before e
  field-unnamed e refused = grind (arith, first-refused)

  pub field-refused : (d : Data) (e : SchemaError) → get_member (codes "type") ms ≡ Some d → Refuses (meaning_of d) enclosing before e
      → Refuses (field_meaning (object ms)) enclosing before e
  field-refused d e found refused =
      subst (λ (m : Meaning RawField). Refuses m enclosing before e) (sym (typed d found))
      (second-refused ((needed {A = List ℕ} [] (text_in (codes "name") ms)).faults ++ (alias_texts_in ms).faults) _ e refused)

  pub field-untyped : get_member (codes "type") ms ≡ None → Refuses (field_meaning (object ms)) enclosing before SchemaError.InvalidDeclaration
  field-untyped missing = grind (arith, meaning_under-found, second-refused)

  pub field-read : (d : Data) (after : State) (name : List ℕ) (aliases : List (List ℕ)) (node : ℕ) (default : Option Data)
      → IsAttribute (needed [] (text_in (codes "name") ms)) name → IsAttribute (alias_texts_in ms) aliases → get_member (codes "type") ms ≡ Some d
      → Reads (meaning_of d) enclosing before after node → default ≡ get_member (codes "default") ms
      → Reads (field_meaning (object ms)) enclosing before after (record { name = name; aliases = aliases; node = node; default = default })
  field-read d after name aliases node default named aliased found read defaulted =
      subst (λ (m : Meaning RawField). Reads m enclosing before after (record { name = name; aliases = aliases; node = node; default = default }))
      (sym (typed d found))
      (record {
        no_faults = rw (named.no_faults, aliased.no_faults, read.no_faults) refl;
        result_is = rw (named.value_is, aliased.value_is, read.result_is, defaulted) refl;
        nodes_are = read.nodes_are;
        known_are = read.known_are;
      })
