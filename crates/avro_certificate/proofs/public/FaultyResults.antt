-- Results of resolution that are faults, and data that have one.
use Rattle.std.proofs.Common.{◌≡◌, ℕ, suc, ◌<◌, Bool, true, false, List, [], ◌∷◌, Option, Some, None, Result, Ok, Err, inl, inr, length, get_or, ap, refl, sym, ◌∙◌, subst, arith}
use Rattle.std.proofs.lemmas.Bool.{false≢true, true≢false, and_from}
use Rattle.std.proofs.lemmas.List.Quantifiers.{position-Some}
use Rattle.std.proofs.lemmas.Option.{unwrap_or-slice_get}
use Rattle.std.specs.Prelude.{slice_get, is_some, bytes_eq, position}
use Rattle.std.specs.List.{list_any}
use Rattle.std.specs.Str.{is_utf8, chars}
use Rattle.avro_schema.specs.Value.{Value, Values, no_values, value, no_entries, entry, values_count}
use Rattle.avro_schema.specs.Node.{Node, FieldNode, node_at, branches_of, field_ids}
use Rattle.avro_schema.specs.Fits.{fits, is_count, are_bytes}
use Rattle.avro_compare.specs.Fault.{ResolutionFault}
use Rattle.avro_compare.specs.Source.{reader_field, missing_field}
use Rattle.avro_compare.specs.Resolve.{Resolved, Sourced, inside, result_map, both, matched, through, fields_at, record_or_missing, with_sourced, resolve, resolve_sources}
use Rattle.avro_compare.proofs.public.NodeKinds.{is_plain_value}
use Rattle.avro_compare.proofs.public.Symbols.{bytes_eq-sym}
use Rattle.avro_certificate.proofs.public.LeafData.{empty_text}
use Rattle.avro_certificate.proofs.public.Tests.{and_right, none_at, or_cases}

-- a result that is a fault
abbrev pub IsFault : {A : Type 0} → Result A ResolutionFault → Type 0
IsFault (Ok a) = ⊥
IsFault (Err e) = Unit {0}

-- which one
pub the_fault : {A : Type 0} (x : Result A ResolutionFault) → IsFault x → (fault : ResolutionFault) × (x ≡ Err fault)
the_fault x h = grind arith

pub is_fault : {A : Type 0} (x : Result A ResolutionFault) (fault : ResolutionFault) → x ≡ Err fault → IsFault x
is_fault x fault e = subst (λ (y : Result _ ResolutionFault). IsFault y) (sym e) tt

pub fault_inside : {A : Type 0} (step : ℕ) (x : Result A ResolutionFault) → IsFault x → IsFault (inside step x)
fault_inside step x h = grind arith

pub fault_map : {A B : Type 0} (f : A → B) (x : Result A ResolutionFault) → IsFault x → IsFault (result_map f x)
fault_map f x h = grind arith

pub fault_first : {A B C : Type 0} (f : A → B → C) (x : Result A ResolutionFault) (y : Result B ResolutionFault) → IsFault x → IsFault (both f x y)
fault_first f x y h = grind arith

pub fault_second : {A B C : Type 0} (f : A → B → C) (x : Result A ResolutionFault) (y : Result B ResolutionFault) → IsFault y → IsFault (both f x y)
fault_second f x y h = grind arith

-- nodes that match or not
pub fault_matched : (writer reader : List Node) (n q : Node) (f : Node → Resolved) → IsFault (f q) → IsFault (matched writer reader n q f)
fault_matched writer reader n q f h = grind arith

-- a later field
pub fault_later : (o : Option FieldNode) (index : ℕ) (resolve : FieldNode → Resolved) (later : Result Sourced ResolutionFault) → IsFault later
    → IsFault (with_sourced o index resolve later)
fault_later o index resolve later h = grind (arith, fault_second)

-- what a plain node makes of a datum that is no union's
pub plain_form : (writer reader : List Node) (n : Node) (v : Value) → is_plain_value v ≡ true
    → (f : Node → Resolved) × ((q : Node) → resolve writer reader n q v ≡ through writer reader n q f)
plain_form writer reader n (Value.union k v) plain = absurd (false≢true plain)
plain_form writer reader n _ plain = (_, λ q. refl)

-- a datum of a plain node is no union's
pub value_of_plain : (nodes : List Node) (n : Node) (v : Value) → branches_of n ≡ None → fits nodes n v ≡ true → is_plain_value v ≡ true
value_of_plain nodes n v plain h = grind arith

-- a byte that begins no text
pub not_a_text : is_utf8 (255 ∷ []) ≡ false
unfolding is_utf8 chars
not_a_text = refl

-- what is not a union is matched
pub through_is_matched : (writer reader : List Node) (n q : Node) (f : Node → Resolved) → branches_of q ≡ None
    → through writer reader n q f ≡ matched writer reader n q f
through_is_matched writer reader n q f plain = grind arith

-- where one passes, its index
pub any_at : {A : Type 0} (test : A → Bool) (xs : List A) → list_any test xs ≡ true → (k : ℕ) × ((x : A) × (slice_get xs k ≡ Some x) × (test x ≡ true) × (k < length xs))
any_at test [] h = absurd (false≢true h)
any_at test (x ∷ xs) h = elim (or_cases (test x) (list_any test xs) h) [
  | inl first ↦ (0, (x, refl, first, omega arith))
  | inr later ↦ (let found = any_at test xs later in (suc found.0, (found.1.0, found.1.1, found.1.2, omega (arith, found.1.3))))
]

-- a symbol that is among none has no index
pub no_index : (s : List ℕ) (theirs : List (List ℕ)) → list_any (bytes_eq s) theirs ≡ false → position (λ t. bytes_eq t s) theirs ≡ None
no_index s theirs h = chosen (position (λ t. bytes_eq t s) theirs) refl
  where
    chosen : (o : Option ℕ) → position (λ t. bytes_eq t s) theirs ≡ o → o ≡ None
    chosen None e = refl
    chosen (Some i) e =
        let found = position-Some (λ t. bytes_eq t s) theirs i [] e in
        absurd (true≢false (sym found.1 ∙ bytes_eq-sym (get_or theirs i []) s
        ∙ sym (ap (bytes_eq s) (unwrap_or-slice_get theirs i [])) ∙ none_at (bytes_eq s) theirs i [] h found.0))

module _ (writer reader : List Node) where
  -- a field that errs
  pub field_faults : (fields theirs : List FieldNode) (index p : ℕ) (f : FieldNode) (v : Value) (rest : Values) → reader_field fields theirs index ≡ Some f
      → slice_get (field_ids fields) index ≡ Some p → IsFault (resolve writer reader (node_at writer p) (node_at reader f.node) v)
      → IsFault (resolve_sources writer reader fields theirs index (value v rest))
  field_faults fields theirs index p f v rest found here h = grind (arith, fault_first, fault_inside)

  -- a record of which a field is missing
  pub missing_errs : (a b : _) (xs ys : _) (fields theirs : List FieldNode) (v : Value) → fits writer (Node.record_of a xs fields) v ≡ true
      → is_some (missing_field fields theirs) ≡ true → IsFault (resolve writer reader (Node.record_of a xs fields) (Node.record_of b ys theirs) v)
  missing_errs a b xs ys fields theirs (Value.record_of vs) h m =
      fault_matched writer reader (Node.record_of a xs fields) (Node.record_of b ys theirs)
      (λ q. record_or_missing fields (fields_at q) (missing_field fields (fields_at q)) (resolve_sources writer reader fields (fields_at q) 0 vs))
      (chosen (missing_field fields theirs) m)
    where
      chosen : (o : Option ℕ) → is_some o ≡ true → IsFault (record_or_missing fields theirs o (resolve_sources writer reader fields theirs 0 vs))
      chosen o s = grind arith
  missing_errs a b xs ys fields theirs (Value.array vs) h m = absurd (false≢true (and_right (is_count (values_count vs)) false h))
  missing_errs a b xs ys fields theirs (Value.map_of es) h m = absurd (false≢true (and_right _ false h))
  missing_errs a b xs ys fields theirs (Value.fixed c) h m = absurd (false≢true (and_right (are_bytes c) false h))
  missing_errs a b xs ys fields theirs _ h m = absurd (false≢true h)

  -- a record of which a field errs
  pub record_faults : (a b : _) (xs ys : _) (fields theirs : List FieldNode) (vs : Values) → IsFault (resolve_sources writer reader fields theirs 0 vs)
      → IsFault (resolve writer reader (Node.record_of a xs fields) (Node.record_of b ys theirs) (Value.record_of vs))
  record_faults a b xs ys fields theirs vs f = grind (arith, fault_map, fault_matched)

  -- an array of one item that errs
  pub array_faults : (a b : ℕ) (v : Value) → IsFault (resolve writer reader (node_at writer a) (node_at reader b) v)
      → IsFault (resolve writer reader (Node.array a) (Node.array b) (Value.array (value v no_values)))
  array_faults a b v f = grind (arith, fault_first, fault_inside, fault_map, fault_matched)

  -- a map of one entry that errs
  pub map_faults : (a b : ℕ) (v : Value) → IsFault (resolve writer reader (node_at writer a) (node_at reader b) v)
      → IsFault (resolve writer reader (Node.map_of a) (Node.map_of b) (Value.map_of (entry [] v no_entries)))
  map_faults a b v f = grind (arith, fault_first, fault_inside, fault_map, fault_matched)

  -- a map of one entry fits
  pub map_fits : (a : ℕ) (v : Value) → fits writer (node_at writer a) v ≡ true → fits writer (Node.map_of a) (Value.map_of (entry [] v no_entries)) ≡ true
  map_fits a v fit = grind (arith, and_from, empty_text)
