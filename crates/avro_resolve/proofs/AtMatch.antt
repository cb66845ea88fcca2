-- What a datum becomes at a matching node that is no union fits that node.
use Rattle.std.proofs.Common.{◌≡◌, ℕ, ℤ, pos, negsuc, Bool, true, false, List, [], length, Option, Some, None, Ok, refl, arith}
use Rattle.std.specs.Prelude.{IfOk, is_some, ◌==◌, nat_lt, bytes_eq, unwrap_or}
use Rattle.std.specs.List.{list_all, position}
use Rattle.std.specs.Str.{is_utf8}
use Rattle.std.proofs.lemmas.Bool.{and_parts, and_from, both_ways, lt-ltb}
use Rattle.std.proofs.lemmas.List.Quantifiers.{position-Some}
use Rattle.avro_name.specs.Name.{Name}
use Rattle.avro_schema.specs.Value.{Value}
use Rattle.avro_schema.specs.Node.{Node, FieldNode, items_node, values_node, fields_of, fixed_length}
use Rattle.avro_schema.specs.Fits.{is_int, is_long, is_count, are_bytes, is_text, is_some_and, fits}
use Rattle.avro_schema.specs.WellFormed.{branch_kind, meets_its_rules, is_enum}
use Rattle.avro_compare.specs.Match.{Matches, nulls, booleans, ints, longs, int_to_long, bytes_alike, strings, string_to_bytes, bytes_to_string, arrays, maps, records, fixeds}
use Rattle.avro_compare.specs.Fault.{fault_here, not_utf8}
use Rattle.avro_compare.specs.Resolve.{int_as, bytes_as, string_as, enum_as, enum_or_default, fields_at}
use Rattle.avro_resolve.proofs.public.TextBytes.{below-from_is_utf8}
use Rattle.avro_resolve.proofs.Outcomes.{IfOk-cond}

-- a value fits the node
abbrev pub FitsAt : List Node → Node → Value → Type 0
FitsAt nodes n v = fits nodes n v ≡ true

-- no union
abbrev pub IsPlain : Node → Type 0
IsPlain n = is_some (branch_kind n) ≡ true

-- 32 bits fit 64
pub is_long-from_is_int : (i : ℤ) → is_int i ≡ true → is_long i ≡ true
is_long-from_is_int (pos n) h = grind arith
is_long-from_is_int (negsuc n) h = grind arith

-- a text is bytes, and bytes that are UTF-8 are a text
pub are_bytes-from_is_text : (t : List ℕ) → is_text t ≡ true → are_bytes t ≡ true
are_bytes-from_is_text t h =
    let parts = and_parts (is_count (length t)) (is_utf8 t) h in
    and_from (is_count (length t)) (list_all (λ x. nat_lt x 256) t) parts.0 (below-from_is_utf8 t parts.1)

pub is_text-from_are_bytes : (t : List ℕ) → are_bytes t ≡ true → is_utf8 t ≡ true → is_text t ≡ true
is_text-from_are_bytes t h e = and_from (is_count (length t)) (is_utf8 t) (and_parts (is_count (length t)) (list_all (λ x. nat_lt x 256) t) h).0 e

pub null-at : (writer reader : List Node) {w q : Node} → Matches writer reader w q → IsPlain q → FitsAt writer w Value.null → FitsAt reader q Value.null
null-at writer reader nulls plain h = refl
null-at writer reader _ plain h = absurd (cc)

pub boolean-at : (writer reader : List Node) (b : Bool) {w q : Node} → Matches writer reader w q → IsPlain q → FitsAt writer w (Value.boolean b) → FitsAt reader q (Value.boolean b)
boolean-at writer reader b booleans plain h = refl
boolean-at writer reader b _ plain h = absurd (cc)

pub int-at : (writer reader : List Node) (i : ℤ) {w q : Node} → Matches writer reader w q → IsPlain q → FitsAt writer w (Value.int i) → IfOk (int_as i q) (FitsAt reader q)
int-at writer reader i ints plain h = h
int-at writer reader i int_to_long plain h = is_long-from_is_int i h
int-at writer reader i _ plain h = absurd (cc)

pub long-at : (writer reader : List Node) (i : ℤ) {w q : Node} → Matches writer reader w q → IsPlain q → FitsAt writer w (Value.long i) → FitsAt reader q (Value.long i)
long-at writer reader i longs plain h = h
long-at writer reader i _ plain h = absurd (cc)

pub bytes-at : (writer reader : List Node) (b : List ℕ) {w q : Node} → Matches writer reader w q → IsPlain q → FitsAt writer w (Value.bytes b) → IfOk (bytes_as b q) (FitsAt reader q)
bytes-at writer reader b bytes_alike plain h = h
bytes-at writer reader b bytes_to_string plain h =
    IfOk-cond (FitsAt reader Node.string) (is_utf8 b) (Ok (Value.string b)) (fault_here not_utf8) (λ e. is_text-from_are_bytes b h e)
bytes-at writer reader b _ plain h = absurd (cc)

pub string-at : (writer reader : List Node) (t : List ℕ) {w q : Node} → Matches writer reader w q → IsPlain q → FitsAt writer w (Value.string t) → IfOk (string_as t q) (FitsAt reader q)
string-at writer reader t strings plain h = h
string-at writer reader t string_to_bytes plain h = are_bytes-from_is_text t h
string-at writer reader t _ plain h = absurd (cc)

fixed_length-kept : (writer reader : List Node) (test : ℕ → Bool) {w q : Node} → Matches writer reader w q → IsPlain q
    → is_some_and test (fixed_length w) ≡ true → is_some_and test (fixed_length q) ≡ true
fixed_length-kept writer reader test (fixeds alike) plain h = h
fixed_length-kept writer reader test _ plain h = absurd (cc)

pub fixed-at : (writer reader : List Node) (b : List ℕ) {w q : Node} → Matches writer reader w q → IsPlain q → FitsAt writer w (Value.fixed b) → FitsAt reader q (Value.fixed b)
fixed-at writer reader b {w = w} {q = q} m plain h =
    let same = λ (count : ℕ). length b == count in
    let parts = and_parts (are_bytes b) (is_some_and same (fixed_length w)) h in
    and_from (are_bytes b) (is_some_and same (fixed_length q)) parts.0 (fixed_length-kept writer reader same m plain parts.1)

enum-indexed : (reader : List Node) (name : Name) (aliases : List Name) (symbol : List ℕ) (symbols : List (List ℕ)) (default found : Option ℕ)
    → position (λ s. bytes_eq s symbol) symbols ≡ found → is_enum symbols default ≡ true
    → IfOk (enum_or_default found default) (FitsAt reader (Node.enum name aliases symbols default))
enum-indexed reader name aliases symbol symbols default (Some index) e good =
    lt-ltb index (length symbols) (position-Some (λ s. bytes_eq s symbol) symbols index [] e).0
enum-indexed reader name aliases symbol symbols (Some index) None e good = grind arith
enum-indexed reader name aliases symbol symbols None None e good = tt

-- a symbol's index, and that of a default, are the reader's
pub enum-at : (reader : List Node) (symbol : List ℕ) (q : Node) → meets_its_rules reader q ≡ true → IfOk (enum_as symbol q) (FitsAt reader q)
enum-at reader symbol (Node.enum name aliases symbols default) good =
    enum-indexed reader name aliases symbol symbols default (position (λ s. bytes_eq s symbol) symbols) refl good
enum-at reader symbol q good = tt

-- a part that is there, as the part or as 0
pub part-from : (test : ℕ → Bool) (part : Option ℕ) → is_some_and test part ≡ true → test (unwrap_or part 0) ≡ true
part-from test None h = absurd (both_ways false refl h)
part-from test (Some id) h = h

-- an array matches an array alone, a map a map, and a record a record
pub items-kept : (writer reader : List Node) (test other : ℕ → Bool) {w q : Node} → Matches writer reader w q → IsPlain q
    → is_some_and test (items_node w) ≡ true → other (unwrap_or (items_node q) 0) ≡ true → is_some_and other (items_node q) ≡ true
items-kept writer reader test other (arrays m) plain h fit = fit
items-kept writer reader test other _ plain h fit = absurd (cc)

pub values-kept : (writer reader : List Node) (test other : ℕ → Bool) {w q : Node} → Matches writer reader w q → IsPlain q
    → is_some_and test (values_node w) ≡ true → other (unwrap_or (values_node q) 0) ≡ true → is_some_and other (values_node q) ≡ true
values-kept writer reader test other (maps m) plain h fit = fit
values-kept writer reader test other _ plain h fit = absurd (cc)

pub fields-kept : (writer reader : List Node) (test other : List FieldNode → Bool) {w q : Node} → Matches writer reader w q → IsPlain q
    → is_some_and test (fields_of w) ≡ true → other (fields_at q) ≡ true → is_some_and other (fields_of q) ≡ true
fields-kept writer reader test other (records alike) plain h fit = fit
fields-kept writer reader test other _ plain h fit = absurd (cc)

-- the fields of a record
pub fields-from : (test : List FieldNode → Bool) (w : Node) → is_some_and test (fields_of w) ≡ true → test (fields_at w) ≡ true
fields-from test (Node.record_of name aliases fields) h = h
fields-from test _ h = absurd (both_ways false refl h)
