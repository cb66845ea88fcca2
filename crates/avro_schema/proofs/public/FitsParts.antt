-- What a datum that fits says of its node and of its parts.
use Rattle.std.proofs.Common.{◌≡◌, ℕ, ◌<◌, ◌^◌, Bool, true, ◌&&◌, List, Option, Some, None, refl, arith}
use Rattle.std.specs.Prelude.{slice_get, option_and_then, bytes_eq}
use Rattle.std.specs.List.{list_all}
use Rattle.std.proofs.lemmas.Bool.{and_parts, false≢true}
use Rattle.std.proofs.lemmas.Bool.Decides.{nat_tests}
use Rattle.avro_name.specs.Name.{Name}
use Rattle.avro_schema.specs.Value.{Value, Values, Entries, values_count, entries_count, keys_of}
use Rattle.avro_schema.specs.Node.{Node, FieldNode, node_at, items_node, values_node, branches_of, fields_of, field_ids}
use Rattle.avro_schema.specs.Fits.{fits, each_fits, entries_fit, fields_fit, is_count, is_text, is_some_and}
use Rattle.avro_schema.specs.Distinct.{are_distinct}

-- a count is below 2^63
pub is_count-below : (n : ℕ) → is_count n ≡ true → n < 2 ^ 63
is_count-below n h = grind (arith, nat_tests)

-- an option that passes a test has a value, which passes
pub is_some_and-some : {A : Type 0} (test : A → Bool) (o : Option A) → is_some_and test o ≡ true → (x : A) × (o ≡ Some x) × (test x ≡ true)
is_some_and-some test None h = absurd (false≢true h)
is_some_and-some test (Some x) h = (x, refl, h)

-- a chain of options that has a value
pub and_then-some : {A B : Type 0} (f : A → Option B) (o : Option A) (y : B) → option_and_then f o ≡ Some y → (x : A) × (o ≡ Some x) × (f x ≡ Some y)
and_then-some f None y h = cc
and_then-some f (Some x) y h = (x, refl, h)

-- the node that has an items' node, a values' node, branches or fields
pub array-from_items_node : (n : Node) (id : ℕ) → items_node n ≡ Some id → n ≡ Node.array id
array-from_items_node (Node.array items) id h = cc
array-from_items_node _ id h = cc

pub map_of-from_values_node : (n : Node) (id : ℕ) → values_node n ≡ Some id → n ≡ Node.map_of id
map_of-from_values_node (Node.map_of values) id h = cc
map_of-from_values_node _ id h = cc

pub union-from_branches_of : (n : Node) (ids : List ℕ) → branches_of n ≡ Some ids → n ≡ Node.union ids
union-from_branches_of (Node.union branches) ids h = cc
union-from_branches_of _ ids h = cc

pub record_of-from_fields_of : (n : Node) (fields : List FieldNode) → fields_of n ≡ Some fields
    → (name : Name) × (aliases : List Name) × (n ≡ Node.record_of name aliases fields)
record_of-from_fields_of (Node.record_of name aliases fs) fields h = (name, aliases, cc)
record_of-from_fields_of _ fields h = cc

-- an array that fits
pub record ArrayFits (nodes : List Node) (n : Node) (vs : Values) : Type 0 where
  pub id : ℕ
  pub is_array : n ≡ Node.array id
  pub counted : is_count (values_count vs) ≡ true
  pub fitting : each_fits nodes (node_at nodes id) vs ≡ true

pub ArrayFits-from_fits : (nodes : List Node) (n : Node) (vs : Values) → fits nodes n (Value.array vs) ≡ true → ArrayFits nodes n vs
ArrayFits-from_fits nodes n vs h =
    let test = λ (id : ℕ). each_fits nodes (node_at nodes id) vs in
    let parts = and_parts (is_count (values_count vs)) (is_some_and test (items_node n)) h in
    let found = is_some_and-some test (items_node n) parts.1 in
    record { id = found.0; is_array = array-from_items_node n found.0 found.1; counted = parts.0; fitting = found.2 }

-- a map that fits
pub record MapFits (nodes : List Node) (n : Node) (es : Entries) : Type 0 where
  pub id : ℕ
  pub is_map : n ≡ Node.map_of id
  pub counted : is_count (entries_count es) ≡ true
  pub texts : list_all is_text (keys_of es) ≡ true
  pub distinct : are_distinct bytes_eq (keys_of es) ≡ true
  pub fitting : entries_fit nodes (node_at nodes id) es ≡ true

pub MapFits-from_fits : (nodes : List Node) (n : Node) (es : Entries) → fits nodes n (Value.map_of es) ≡ true → MapFits nodes n es
MapFits-from_fits nodes n es h =
    let test = λ (id : ℕ). entries_fit nodes (node_at nodes id) es in
    let count = is_count (entries_count es) in
    let texts = list_all is_text (keys_of es) in
    let distinct = are_distinct bytes_eq (keys_of es) in
    let all = and_parts (count && texts && distinct) (is_some_and test (values_node n)) h in
    let three = and_parts (count && texts) distinct all.0 in
    let two = and_parts count texts three.0 in
    let found = is_some_and-some test (values_node n) all.1 in
    record {
      id = found.0;
      is_map = map_of-from_values_node n found.0 found.1;
      counted = two.0;
      texts = two.1;
      distinct = three.1;
      fitting = found.2;
    }

-- a union that fits
pub record UnionFits (nodes : List Node) (n : Node) (k : ℕ) (v : Value) : Type 0 where
  pub ids : List ℕ
  pub id : ℕ
  pub is_union : n ≡ Node.union ids
  pub is_branch : slice_get ids k ≡ Some id
  pub fitting : fits nodes (node_at nodes id) v ≡ true

pub UnionFits-from_fits : (nodes : List Node) (n : Node) (k : ℕ) (v : Value) → fits nodes n (Value.union k v) ≡ true → UnionFits nodes n k v
UnionFits-from_fits nodes n k v h =
    let branch = λ (ids : List ℕ). slice_get ids k in
    let found = is_some_and-some (λ (id : ℕ). fits nodes (node_at nodes id) v) (option_and_then branch (branches_of n)) h in
    let union = and_then-some branch (branches_of n) found.0 found.1 in
    record {
      ids = union.0;
      id = found.0;
      is_union = union-from_branches_of n union.0 union.1;
      is_branch = union.2;
      fitting = found.2;
    }

-- a record that fits
pub record RecordFits (nodes : List Node) (n : Node) (vs : Values) : Type 0 where
  pub name : Name
  pub aliases : List Name
  pub fields : List FieldNode
  pub is_record : n ≡ Node.record_of name aliases fields
  pub fitting : fields_fit nodes (field_ids fields) vs ≡ true

pub RecordFits-from_fits : (nodes : List Node) (n : Node) (vs : Values) → fits nodes n (Value.record_of vs) ≡ true → RecordFits nodes n vs
RecordFits-from_fits nodes n vs h =
    let found = is_some_and-some (λ (fields : List FieldNode). fields_fit nodes (field_ids fields) vs) (fields_of n) h in
    let is = record_of-from_fields_of n found.0 found.1 in
    record { name = is.0; aliases = is.1; fields = found.0; is_record = is.2; fitting = found.2 }
