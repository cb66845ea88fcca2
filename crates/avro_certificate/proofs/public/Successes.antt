-- When a resolution succeeds.
use Rattle.std.proofs.Common.{◌≡◌, ℕ, ℤ, Bool, true, false, List, [], ◌∷◌, Option, Some, None, Result, Ok, Err, length, sym, ◌∙◌, inl, inr, arith}
use Rattle.std.proofs.lemmas.Bool.{true≢false, ltb-true, lt-ltb, cond-true}
use Rattle.std.specs.Prelude.{is_some, slice_get, unwrap_or, nat_lt, position, bytes_eq}
use Rattle.std.specs.List.{list_any, position_or_len}
use Rattle.avro_schema.specs.Node.{Node, FieldNode, branches_of}
use Rattle.avro_schema.specs.Fits.{is_bytes_node}
use Rattle.avro_compare.specs.Fault.{ResolutionFault}
use Rattle.avro_compare.specs.Match.{is_match}
use Rattle.avro_compare.specs.Resolve.{Resolved, inside, result_map, both, matched, through, int_as, bytes_as, string_as, enum_or_default, record_or_missing, Sourced, with_sourced}
use Rattle.avro_compare.specs.Children.{has_fault_of_kind, lacks_symbol}
use Rattle.avro_compare.proofs.public.Symbols.{bytes_eq-sym}
use Rattle.avro_certificate.proofs.public.Tests.{not_false, or_cases, or_from_left, or_from_right, none_at, prefix_len_below}

-- a result that is no fault
abbrev pub Succeeds : {A : Type 0} → Result A ResolutionFault → Type 0
Succeeds (Ok a) = Unit {0}
Succeeds (Err e) = ⊥

-- inside a part
pub succeeds_inside : {A : Type 0} (step : ℕ) (x : Result A ResolutionFault) → Succeeds x → Succeeds (inside step x)
succeeds_inside step x h = grind arith

-- with another value
pub succeeds_map : {A B : Type 0} (f : A → B) (x : Result A ResolutionFault) → Succeeds x → Succeeds (result_map f x)
succeeds_map f x h = grind arith

-- one result and then another
pub succeeds_both : {A B C : Type 0} (f : A → B → C) (x : Result A ResolutionFault) (y : Result B ResolutionFault)
    → Succeeds x → Succeeds y → Succeeds (both f x y)
succeeds_both f x y h k = grind arith

-- nodes that match
pub succeeds_matched : (writer reader : List Node) (w r : Node) (resolve : Node → Resolved) → is_match writer reader w r ≡ true
    → Succeeds (resolve r) → Succeeds (matched writer reader w r resolve)
succeeds_matched writer reader w r resolve h s = grind arith

-- where the reader's node is no union
pub through_plain : (writer reader : List Node) (w r : Node) (resolve : Node → Resolved) → branches_of r ≡ None
    → Succeeds (matched writer reader w r resolve) → Succeeds (through writer reader w r resolve)
through_plain writer reader w r resolve plain s = grind arith

-- and back
pub matched_plain : (writer reader : List Node) (w r : Node) (resolve : Node → Resolved) → branches_of r ≡ None
    → Succeeds (through writer reader w r resolve) → Succeeds (matched writer reader w r resolve)
matched_plain writer reader w r resolve plain s = grind arith

-- an int
pub succeeds_int : (i : ℤ) (q : Node) → Succeeds (int_as i q)
succeeds_int i q = grind arith

-- bytes, but not for a string
pub succeeds_bytes : (b : List ℕ) (n q : Node) → is_bytes_node n ≡ true → has_fault_of_kind n q ≡ false → Succeeds (bytes_as b q)
succeeds_bytes b n q h faultless = grind (arith, true≢false)

-- a text
pub succeeds_string : (t : List ℕ) (q : Node) → Succeeds (string_as t q)
succeeds_string t q = grind arith

-- tests that agree pass alike
list_any-same : {A : Type 0} (f g : A → Bool) (xs : List A) → ((x : A) → f x ≡ g x) → list_any f xs ≡ true → list_any g xs ≡ true
list_any-same f g [] same h = h
list_any-same f g (x ∷ xs) same h = elim (or_cases (f x) (list_any f xs) h) [
  | inl first ↦ or_from_left (g x) (list_any g xs) (sym (same x) ∙ first)
  | inr later ↦ or_from_right (g x) (list_any g xs) (list_any-same f g xs same later)
]

-- a symbol that the reader does not lack is found there
found_symbol : (s : List ℕ) (theirs : List (List ℕ)) → list_any (bytes_eq s) theirs ≡ true
    → (index : ℕ) × (position (λ t. bytes_eq t s) theirs ≡ Some index)
found_symbol s theirs h =
    let there : list_any (λ t. bytes_eq t s) theirs ≡ true = list_any-same (bytes_eq s) (λ t. bytes_eq t s) theirs (bytes_eq-sym s) h in
    let below = prefix_len_below (λ t. bytes_eq t s) theirs there in
    (position_or_len (λ t. bytes_eq t s) theirs, cond-true _ _ _ (lt-ltb (position_or_len (λ t. bytes_eq t s) theirs) (length theirs) below))

-- a symbol that the reader has, or its default
pub succeeds_enum : (symbols theirs : List (List ℕ)) (k : ℕ) (default : Option ℕ) → nat_lt k (length symbols) ≡ true
    → lacks_symbol symbols theirs default ≡ false
    → Succeeds (enum_or_default (position (λ t. bytes_eq t (unwrap_or (slice_get symbols k) [])) theirs) default)
succeeds_enum symbols theirs k (Some index) within lacks = either (position (λ t. bytes_eq t (unwrap_or (slice_get symbols k) [])) theirs)
  where
    either : (o : Option ℕ) → Succeeds (enum_or_default o (Some index))
    either None = tt
    either (Some p) = tt
succeeds_enum symbols theirs k None within lacks =
    let found = found_symbol (unwrap_or (slice_get symbols k) []) theirs (not_false _ (none_at _ symbols k [] lacks (ltb-true k (length symbols) within))) in
    rw found.1 tt

-- a record without a missing field
pub succeeds_record : (writer reader : List FieldNode) (missing : Option ℕ) (sourced : Result Sourced ResolutionFault) → is_some missing ≡ false
    → Succeeds sourced → Succeeds (record_or_missing writer reader missing sourced)
succeeds_record writer reader missing sourced h s = grind (arith, succeeds_map, true≢false)

-- a writer's field, some reader's source or not
pub succeeds_sourced : (o : Option FieldNode) (index : ℕ) (resolve : FieldNode → Resolved) (later : Result Sourced ResolutionFault)
    → ((f : FieldNode) → o ≡ Some f → Succeeds (resolve f)) → Succeeds later → Succeeds (with_sourced o index resolve later)
succeeds_sourced o index resolve later here s = grind (arith, succeeds_both, succeeds_inside)
