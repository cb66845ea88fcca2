-- A datum that fits has the kind of its node.
use Rattle.std.proofs.Common.{◌≡◌, ℕ, ℤ, Bool, true, List, Some, refl}
use Rattle.std.specs.Prelude.{length, nat_lt, ◌==◌}
use Rattle.std.proofs.lemmas.Bool.{and_parts, false≢true}
use Rattle.avro_schema.specs.Value.{Value}
use Rattle.avro_schema.specs.Node.{Node, symbols_of, fixed_length}
use Rattle.avro_schema.specs.Fits.{fits, is_int, is_long, are_bytes, is_text, is_some_and, is_null_node, is_boolean_node, is_int_node, is_long_node, is_bytes_node, is_string_node}
use Rattle.avro_schema.proofs.public.FitsParts.{ArrayFits, MapFits, UnionFits, RecordFits, ArrayFits-from_fits, MapFits-from_fits, UnionFits-from_fits, RecordFits-from_fits, is_some_and-some}

-- the node of a datum, by its kind, and what is asked of the datum itself
abbrev pub FitsKind : List Node → Node → Value → Type 0
FitsKind nodes n Value.null = n ≡ Node.null
FitsKind nodes n (Value.boolean b) = n ≡ Node.boolean
FitsKind nodes n (Value.int i) = (n ≡ Node.int) × (is_int i ≡ true)
FitsKind nodes n (Value.long i) = (n ≡ Node.long) × (is_long i ≡ true)
FitsKind nodes n (Value.bytes b) = (n ≡ Node.bytes) × (are_bytes b ≡ true)
FitsKind nodes n (Value.string t) = (n ≡ Node.string) × (is_text t ≡ true)
FitsKind nodes n (Value.array vs) = ArrayFits nodes n vs
FitsKind nodes n (Value.map_of es) = MapFits nodes n es
FitsKind nodes n (Value.union k v) = UnionFits nodes n k v
FitsKind nodes n (Value.record_of vs) = RecordFits nodes n vs
FitsKind nodes n (Value.enum k) = (symbols : List (List ℕ)) × (symbols_of n ≡ Some symbols) × (nat_lt k (length symbols) ≡ true)
FitsKind nodes n (Value.fixed b) = (are_bytes b ≡ true) × (count : ℕ) × (fixed_length n ≡ Some count) × ((length b == count) ≡ true)

null-is : (n : Node) → is_null_node n ≡ true → n ≡ Node.null
null-is Node.null h = refl
null-is _ h = absurd (false≢true h)

boolean-is : (n : Node) → is_boolean_node n ≡ true → n ≡ Node.boolean
boolean-is Node.boolean h = refl
boolean-is _ h = absurd (false≢true h)

int-is : (n : Node) → is_int_node n ≡ true → n ≡ Node.int
int-is Node.int h = refl
int-is _ h = absurd (false≢true h)

long-is : (n : Node) → is_long_node n ≡ true → n ≡ Node.long
long-is Node.long h = refl
long-is _ h = absurd (false≢true h)

bytes-is : (n : Node) → is_bytes_node n ≡ true → n ≡ Node.bytes
bytes-is Node.bytes h = refl
bytes-is _ h = absurd (false≢true h)

string-is : (n : Node) → is_string_node n ≡ true → n ≡ Node.string
string-is Node.string h = refl
string-is _ h = absurd (false≢true h)

pub FitsKind-from_fits : (nodes : List Node) (n : Node) (v : Value) → fits nodes n v ≡ true → FitsKind nodes n v
FitsKind-from_fits nodes n Value.null h = null-is n h
FitsKind-from_fits nodes n (Value.boolean b) h = boolean-is n h
FitsKind-from_fits nodes n (Value.int i) h = let p = and_parts (is_int_node n) (is_int i) h in (int-is n p.0, p.1)
FitsKind-from_fits nodes n (Value.long i) h = let p = and_parts (is_long_node n) (is_long i) h in (long-is n p.0, p.1)
FitsKind-from_fits nodes n (Value.bytes b) h = let p = and_parts (is_bytes_node n) (are_bytes b) h in (bytes-is n p.0, p.1)
FitsKind-from_fits nodes n (Value.string t) h = let p = and_parts (is_string_node n) (is_text t) h in (string-is n p.0, p.1)
FitsKind-from_fits nodes n (Value.array vs) h = ArrayFits-from_fits nodes n vs h
FitsKind-from_fits nodes n (Value.map_of es) h = MapFits-from_fits nodes n es h
FitsKind-from_fits nodes n (Value.union k v) h = UnionFits-from_fits nodes n k v h
FitsKind-from_fits nodes n (Value.record_of vs) h = RecordFits-from_fits nodes n vs h
FitsKind-from_fits nodes n (Value.enum k) h = is_some_and-some (λ (symbols : List (List ℕ)). nat_lt k (length symbols)) (symbols_of n) h
FitsKind-from_fits nodes n (Value.fixed b) h =
    let test = λ (count : ℕ). length b == count in
    let p = and_parts (are_bytes b) (is_some_and test (fixed_length n)) h in
    let found = is_some_and-some test (fixed_length n) p.1 in
    (p.0, found.0, found.1, found.2)

-- the data of four primitive kinds
pub null_value : (nodes : List Node) (v : Value) → FitsKind nodes Node.null v → v ≡ Value.null
null_value nodes Value.null k = refl
null_value nodes _ k = cc

pub boolean_value : (nodes : List Node) (v : Value) → FitsKind nodes Node.boolean v → (b : Bool) × (v ≡ Value.boolean b)
boolean_value nodes (Value.boolean b) k = (b, refl)
boolean_value nodes _ k = absurd cc

pub int_value : (nodes : List Node) (v : Value) → FitsKind nodes Node.int v → (i : ℤ) × (v ≡ Value.int i) × (is_int i ≡ true)
int_value nodes (Value.int i) k = (i, refl, k.1)
int_value nodes _ k = absurd cc

pub long_value : (nodes : List Node) (v : Value) → FitsKind nodes Node.long v → (i : ℤ) × (v ≡ Value.long i) × (is_long i ≡ true)
long_value nodes (Value.long i) k = (i, refl, k.1)
long_value nodes _ k = absurd cc
