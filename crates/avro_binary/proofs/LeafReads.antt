-- What reading a datum without parts returns, from the element that it is.
use Rattle.std.proofs.Common.{◌≡◌, ℕ, suc, ◌<◌, ◌≤◌, ◌^◌, ℤ, Bool, true, List, [], length, get_or, Ok, Err, Option, refl, ap, arith, nat_lt}
use Rattle.std.specs.Prelude.{◌==◌}
use Rattle.std.proofs.lemmas.Bool.Decides.{nat_tests}
use Rattle.avro_name.specs.Name.{Name}
use Rattle.avro_schema.specs.Value.{Value, size, depth, longest_blob}
use Rattle.avro_schema.specs.Node.{Node}
use Rattle.avro_schema.specs.Fits.{are_bytes, fits}
use Rattle.avro_cursor.specs.Encoding.{Encodes}
use Rattle.avro_cursor.specs.Fault.{ReadFault}
use Rattle.avro_cursor.specs.Breaks.{NodeBreaks}
use Rattle.avro_cursor.specs.CursorValue.{CursorValue, Passes}
use Rattle.avro_binary.specs.CursorReads.{ReadsNode, outside, left_node, limits_at, child_breaks}
use Rattle.avro_cursor.specs.Elements.{Refuses, Finds, IsBoolean, IsInt, IsLong, IsBytes, IsString, IsIndex, IsFixed}
use Rattle.avro_cursor.specs.declared.error.ReadError.{ReadError}
use Rattle.avro_cursor.proofs.public.ElementLaws.{is_text-from_string}
use Rattle.avro_cursor.proofs.public.Ranges.{is_count-from_below, bytes-below}

pub are_bytes-from_ranges : (xs : List ℕ) → length xs < 2 ^ 63 → ((i : ℕ) → get_or xs i 0 < 2 ^ 8) → are_bytes xs ≡ true
are_bytes-from_ranges xs small h = rw (is_count-from_below (length xs) small, bytes-below xs h) refl

eq-same : (m n : ℕ) → m ≡ n → (m == n) ≡ true
eq-same m n h = grind (arith, nat_tests)

index-below : (n choices : ℕ) → n < choices → nat_lt n choices ≡ true
index-below n choices h = grind (arith, nat_tests)

module _ {R : Type 0} {stands : R → Value → Type 0} (nodes : List Node) where
  -- a datum of one node that was passed
  pub leaf_found : (n : Node) (before after : CursorValue) (v : Value) (front : List ℕ) (r : R) → Encodes nodes n v front → size v ≡ 1 → depth v ≡ 1
      → longest_blob v ≤ before.blob → Passes before front after → (fits nodes n v ≡ true → stands r v) → ReadsNode stands nodes n (outside before) (left_node after) (Ok r)
  leaf_found n before after v front r encoded one_node one_deep short passes s = record {
    found = (
      v,
      record {
        front = front;
        encoded = encoded;
        deep = omega arith;
        many = let same = passes.nodes in omega arith;
        long = short;
        moves = record { split = passes.split; offset = passes.offset; depth = ap suc passes.depth; blob = passes.blob };
      },
      s encoded.fitting,
    );
    refused = tt;
  }

  -- a fault of the element is one of the node
  pub leaf_refused : (n : Node) (before after : CursorValue) (B : List ℕ → ReadFault → Type 0) (e : ReadError)
      → ((f : ReadFault) → B before.bytes f → NodeBreaks nodes (limits_at before) (child_breaks nodes (limits_at before)) n before.bytes f)
      → Refuses B before e → ReadsNode stands nodes n (outside before) (left_node after) (Err e)
  leaf_refused n before after B e step refused = record { found = tt; refused = rw (refused.2) (refused.0, step refused.0 refused.1, refl) }

  module _ (before after : CursorValue) (r : R) where
    pub boolean_found : (b : Bool) → Finds (λ (x : Bool). x) IsBoolean before after b → (fits nodes Node.boolean (Value.boolean b) ≡ true → stands r (Value.boolean b))
        → ReadsNode stands nodes Node.boolean (outside before) (left_node after) (Ok r)
    boolean_found b found s =
        leaf_found Node.boolean before after (Value.boolean b) found.0 r (record { fitting = refl; spelled = found.1 }) refl refl (omega arith) found.2 s

    pub int_found : (v : ℤ) → Finds (λ (x : ℤ). x) IsInt before after v → (fits nodes Node.int (Value.int v) ≡ true → stands r (Value.int v))
        → ReadsNode stands nodes Node.int (outside before) (left_node after) (Ok r)
    int_found v found s =
        leaf_found Node.int before after (Value.int v) found.0 r (record { fitting = found.1.0; spelled = found.1.1 }) refl refl (omega arith) found.2 s

    pub long_found : (v : ℤ) → Finds (λ (x : ℤ). x) IsLong before after v → (fits nodes Node.long (Value.long v) ≡ true → stands r (Value.long v))
        → ReadsNode stands nodes Node.long (outside before) (left_node after) (Ok r)
    long_found v found s =
        leaf_found Node.long before after (Value.long v) found.0 r (record { fitting = found.1.0; spelled = found.1.1 }) refl refl (omega arith) found.2 s

    pub bytes_found : (content front : List ℕ) → IsBytes before.blob content front → Passes before front after → ((i : ℕ) → get_or content i 0 < 2 ^ 8)
        → (fits nodes Node.bytes (Value.bytes content) ≡ true → stands r (Value.bytes content)) → ReadsNode stands nodes Node.bytes (outside before) (left_node after) (Ok r)
    bytes_found content front is passes ranges s =
        leaf_found Node.bytes before after (Value.bytes content) front r
        (record { fitting = are_bytes-from_ranges content is.countable ranges; spelled = is.spelled }) refl refl is.within passes s

    pub string_found : (content front : List ℕ) → IsString before.blob content front → Passes before front after
        → (fits nodes Node.string (Value.string content) ≡ true → stands r (Value.string content)) → ReadsNode stands nodes Node.string (outside before) (left_node after) (Ok r)
    string_found content front is passes s =
        leaf_found Node.string before after (Value.string content) front r
        (record { fitting = is_text-from_string before.blob content front is; spelled = is.spelled }) refl refl is.within passes s

    pub symbol_found : (name : Name) (aliases : List Name) (symbols : List (List ℕ)) (default : Option ℕ) (choices k : ℕ) → choices ≡ length symbols
        → Finds (λ (x : ℕ). x) (IsIndex choices) before after k
        → (fits nodes (Node.enum name aliases symbols default) (Value.enum k) ≡ true → stands r (Value.enum k)) → ReadsNode stands nodes (Node.enum name aliases symbols default) (outside before) (left_node after) (Ok r)
    symbol_found name aliases symbols default choices k same found s =
        leaf_found (Node.enum name aliases symbols default) before after (Value.enum k) found.0 r
        (record { fitting = index-below k (length symbols) (let few = found.1.0 in omega arith); spelled = found.1.1.1 }) refl refl (omega arith) found.2 s

    pub fixed_found : (name : Name) (aliases : List Name) (count : ℕ) (content front : List ℕ) → IsFixed count before.blob content front → Passes before front after
        → count < 2 ^ 63 → ((i : ℕ) → get_or content i 0 < 2 ^ 8)
        → (fits nodes (Node.fixed name aliases count) (Value.fixed content) ≡ true → stands r (Value.fixed content)) → ReadsNode stands nodes (Node.fixed name aliases count) (outside before) (left_node after) (Ok r)
    fixed_found name aliases count content front is passes small ranges s =
        let counted = is.1 in
        let within = is.2 in
        leaf_found (Node.fixed name aliases count) before after (Value.fixed content) front r
        (record {
          fitting = rw (are_bytes-from_ranges content (omega arith) ranges, eq-same (length content) count counted) refl;
          spelled = is.0;
        }) refl refl (omega arith) passes s

  -- null takes no bytes
  pub null_found : (at : CursorValue) (r : R) → (fits nodes Node.null Value.null ≡ true → stands r Value.null) → ReadsNode stands nodes Node.null (outside at) (left_node at) (Ok r)
  null_found at r s = leaf_found Node.null at at Value.null [] r (record { fitting = refl; spelled = refl }) refl refl (omega arith)
      (record { split = refl; offset = omega arith; depth = refl; nodes = refl; blob = refl }) s
