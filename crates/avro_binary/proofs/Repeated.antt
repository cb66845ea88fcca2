-- Items without bytes: as many as a block has are the same, and the first that passes a limit passes that of nodes.
use Rattle.std.proofs.Common.{◌≡◌, inl, inr, ℕ, zero, suc, ◌+◌, ◌*◌, ◌-◌, ◌^◌, ◌<◌, ◌≤◌, true, nat_lt, List, [], ◌∷◌, ◌++◌, length, replicate, Result, Ok, Err, Some, length-append, refl, sym, ap, ◌∙◌, subst, arith, append-nil, append_assoc}
use Rattle.std.specs.Prelude.{OnOk}
use Rattle.std.specs.Result.{IfErr}
use Rattle.std.specs.List.{concat, list_all}
use Rattle.std.proofs.lemmas.List.{length-replicate}
use Rattle.std.proofs.Math.Nat.{mul-suc, suc-mul}
use Rattle.std.proofs.lemmas.List.Folds.{concat-append}
use Rattle.avro_schema.specs.Value.{Value, size, depth, longest_blob, values_size, values_depth, values_longest_blob}
use Rattle.avro_schema.specs.Node.{Node, node_at}
use Rattle.avro_schema.specs.Fits.{fits, each_fits, LimitValues}
use Rattle.avro_schema.specs.WellFormed.{is_schema}
use Rattle.avro_schema.specs.Seen.{values_from}
use Rattle.avro_cursor.specs.Encoding.{Encodes, Spells, EachSpelled}
use Rattle.avro_cursor.specs.Fault.{ReadFault, end_of_input, invalid_number, invalid_boolean, invalid_text, unknown_index, invalid_length, wrong_block_size, duplicate_key, limit_exceeded}
use Rattle.avro_cursor.specs.Breaks.{Left, Breaks}
use Rattle.avro_cursor.specs.Seen.{read_fault}
use Rattle.avro_cursor.specs.CursorValue.{CursorValue}
use Rattle.avro_cursor.specs.CountsAgain.{CountsAgain}
use Rattle.avro_binary.specs.CursorReads.{FindsValue, FindsRun, RunBreaks, ReadsRun, ValuesRun, left_at, value_breaks}
use Rattle.avro_cursor.specs.declared.error.ReadError.{ReadError}
use Rattle.avro_binary.proofs.EncodingOrFault.{encoding_or_fault_lem}
use Rattle.avro_binary.proofs.Front.{one_front}
use Rattle.avro_binary.proofs.NoFront.{no_front_of_fault, within-small}
use Rattle.avro_binary.proofs.NoFrontItems.{IsSmall}
use Rattle.avro_binary.proofs.PartOrFault.{below_or}
use Rattle.avro_binary.proofs.public.EmptyData.{none-long}
use Rattle.avro_binary.proofs.RunLaws.{values_run}
use Rattle.avro_binary.proofs.RunSteps.{moves-same}

-- ---- Lists of one item

replicate-push : {A : Type 0} (k : ℕ) (x : A) → replicate k x ++ x ∷ [] ≡ replicate (suc k) x
replicate-push zero x = refl
replicate-push (suc k) x = ap (λ xs. x ∷ xs) (replicate-push k x)

-- some, others, and one more that is as they are
pub others_last : {A : Type 0} (us xs : List A) (x : A) (k : ℕ) → ((us ++ xs) ++ replicate k x) ++ x ∷ [] ≡ us ++ (xs ++ replicate (suc k) x)
others_last us xs x k = append_assoc (us ++ xs) (replicate k x) (x ∷ []) ∙ ap (λ ys. (us ++ xs) ++ ys) (replicate-push k x) ∙ append_assoc us xs (replicate (suc k) x)

concat-none : (k : ℕ) → concat (replicate {A = List ℕ} k []) ≡ []
concat-none zero = refl
concat-none (suc k) = concat-none k

-- ---- The same item

module _ (v : Value) where
  same-size : (k : ℕ) → values_size (values_from (replicate k v)) ≡ k * size v
  same-size zero = omega arith
  same-size (suc k) = omega (arith, same-size k, suc-mul k (size v))

  same-depth : (k d : ℕ) → depth v ≤ d → values_depth (values_from (replicate k v)) ≤ d
  same-depth zero d h = omega arith
  same-depth (suc k) d h = let rest = same-depth k d h in omega arith

  same-blob : (k b : ℕ) → longest_blob v ≤ b → values_longest_blob (values_from (replicate k v)) ≤ b
  same-blob zero b h = omega arith
  same-blob (suc k) b h = let rest = same-blob k b h in omega arith

  same-fits : (nodes : List Node) (n : Node) (k : ℕ) → fits nodes n v ≡ true → each_fits nodes n (values_from (replicate k v)) ≡ true
  same-fits nodes n zero h = refl
  same-fits nodes n (suc k) h = rw (h, same-fits nodes n k h) refl

  same-spelled : (k : ℕ) → Spells v [] → EachSpelled (values_from (replicate k v)) (replicate k [])
  same-spelled zero s = refl
  same-spelled (suc k) s = ([], replicate k [], s, same-spelled k s, refl)

  -- as many as are within what is left are a run
  pub same_run : (nodes : List Node) (limits : LimitValues) (n : Node) (left then_left : Left) (k : ℕ) → Encodes nodes n v [] → depth v ≤ limits.depth → longest_blob v ≤ limits.blob
      → left.nodes ≡ then_left.nodes + k * size v → then_left.keys ≡ left.keys → ValuesRun nodes limits n left (replicate k v) (replicate k []) then_left
  same_run nodes limits n left then_left k encoded deep long many keys = record {
    fitting = same-fits nodes n k encoded.fitting;
    spelled = same-spelled k encoded.spelled;
    deep = same-depth k limits.depth deep;
    many = omega (arith, same-size k, many);
    long = same-blob k limits.blob long;
    keys = keys;
  }

-- ---- The first that passes a limit

fewer : (size left count : ℕ) → left < size * suc count → size ≤ left → left - size < size * count
fewer size left count h over = omega (arith, h, over, mul-suc size count)

-- as many as fit, where not all do
pub some_fit : (size left count : ℕ) → left < size * count → (k : ℕ) × (rest : ℕ) × (k < count) × (left ≡ rest + k * size) × (rest < size)
some_fit size left zero h = absurd (omega (arith, h))
some_fit size left (suc count) h = elim (below_or left size) as (λ _. (k : ℕ) × (rest : ℕ) × (k < suc count) × (left ≡ rest + k * size) × (rest < size)) [
  | inl below ↦ (0, left, omega arith, omega arith, below)
  | inr over ↦
      let more = some_fit size (left - size) count (fewer size left count h over) in
      (suc more.0, more.1, let p = more.2 in omega (arith, p), let p = more.3 in omega (arith, p, over), more.4)
]

-- a fault of bytes that begin with an encoding is a limit
only_limit : (nodes : List Node) (limits : LimitValues) (id : ℕ) (v : Value) (bytes : List ℕ) (f : ReadFault) → is_schema nodes ≡ true → Encodes nodes (node_at nodes id) v []
    → Breaks nodes limits (node_at nodes id) bytes f → Breaks nodes limits (node_at nodes id) bytes limit_exceeded
only_limit nodes limits id v bytes limit_exceeded formed encoded h = h
only_limit nodes limits id v bytes (end_of_input p) formed encoded h = absurd (no_front_of_fault nodes limits id bytes (end_of_input p) v [] bytes formed h (λ e. absurd cc) encoded refl)
only_limit nodes limits id v bytes (invalid_number p) formed encoded h = absurd (no_front_of_fault nodes limits id bytes (invalid_number p) v [] bytes formed h (λ e. absurd cc) encoded refl)
only_limit nodes limits id v bytes (invalid_boolean p) formed encoded h = absurd (no_front_of_fault nodes limits id bytes (invalid_boolean p) v [] bytes formed h (λ e. absurd cc) encoded refl)
only_limit nodes limits id v bytes (invalid_text p) formed encoded h = absurd (no_front_of_fault nodes limits id bytes (invalid_text p) v [] bytes formed h (λ e. absurd cc) encoded refl)
only_limit nodes limits id v bytes (unknown_index p) formed encoded h = absurd (no_front_of_fault nodes limits id bytes (unknown_index p) v [] bytes formed h (λ e. absurd cc) encoded refl)
only_limit nodes limits id v bytes (invalid_length p) formed encoded h = absurd (no_front_of_fault nodes limits id bytes (invalid_length p) v [] bytes formed h (λ e. absurd cc) encoded refl)
only_limit nodes limits id v bytes (wrong_block_size p) formed encoded h = absurd (no_front_of_fault nodes limits id bytes (wrong_block_size p) v [] bytes formed h (λ e. absurd cc) encoded refl)
only_limit nodes limits id v bytes (duplicate_key p) formed encoded h = absurd (no_front_of_fault nodes limits id bytes (duplicate_key p) v [] bytes formed h (λ e. absurd cc) encoded refl)

-- a datum without bytes that is not within limits passes one, whatever follows
pub limit_passed : (nodes : List Node) (limits : LimitValues) (id : ℕ) (v : Value) (bytes : List ℕ) → is_schema nodes ≡ true → list_all (λ b. nat_lt b 256) bytes ≡ true
    → limits.nodes < 2 ^ 32 → limits.blob < 2 ^ 63 → Encodes nodes (node_at nodes id) v [] → (IsSmall limits.depth limits.nodes limits.blob v → ⊥)
    → Breaks nodes limits (node_at nodes id) bytes limit_exceeded
limit_passed nodes limits id v bytes formed are few small encoded over =
    elim (encoding_or_fault_lem nodes (node_at nodes id) limits bytes are few small) as (λ _. Breaks nodes limits (node_at nodes id) bytes limit_exceeded) [
      | inl found ↦
          let same : v ≡ found.0 = (one_front nodes (node_at nodes id) v found.0 [] found.1 bytes found.2 encoded found.3 found.5).1 in
          absurd (over (subst (λ (w : Value). IsSmall limits.depth limits.nodes limits.blob w) (sym same) (within-small limits found.0 found.4)))
      | inr fault ↦ only_limit nodes limits id v bytes fault.0 formed encoded fault.1
    ]

-- ---- Sums

all-nodes : (now after last size k : ℕ) → now ≡ after + size → after ≡ last + size * k → now ≡ last + suc k * size
all-nodes now after last size k h e = omega (arith, h, e, suc-mul k size)

one-more : (now after rest size k : ℕ) → now ≡ after + size → after ≡ rest + k * size → now ≡ rest + suc k * size
one-more now after rest size k h e = omega (arith, h, e, suc-mul k size)

-- ---- The items of a block, where one of them has no bytes

module _ (nodes : List Node) (limits : LimitValues) (id : ℕ) {a now after : CursorValue} {xs : List Value} (found : FindsRun (ValuesRun nodes limits (node_at nodes id)) a now [] [] xs)
    (v : Value) (value : FindsValue nodes (node_at nodes id) now after v) (stood : length after.bytes ≡ length now.bytes) (d : limits.depth ≡ now.depth) (b : limits.blob ≡ now.blob) where
  no-front : value.front ≡ []
  no-front = none-long value.front (omega (arith, stood, ap length value.moves.split, length-append value.front after.bytes))

  empty : Encodes nodes (node_at nodes id) v []
  empty = subst (λ (f : List ℕ). Encodes nodes (node_at nodes id) v f) no-front value.encoded

  same-offset : after.offset ≡ now.offset
  same-offset = let p = value.moves.offset in omega (arith, p, ap length no-front)

  in-place : now.bytes ≡ after.bytes
  in-place = value.moves.split ∙ ap (λ (f : List ℕ). f ++ after.bytes) no-front

  -- it stands there so many times
  some-run : (k rest : ℕ) → now.nodes ≡ rest + k * size v → ValuesRun nodes limits (node_at nodes id) (left_at a []) (xs ++ replicate k v) (found.items ++ replicate k []) (record { nodes = rest; keys = [] })
  some-run k rest e =
      (values_run nodes limits (node_at nodes id)).joins (left_at a []) (left_at now []) (record { nodes = rest; keys = [] }) xs (replicate k v) found.items (replicate k []) found.stand
      (same_run v nodes limits (node_at nodes id) (left_at now []) (record { nodes = rest; keys = [] }) k empty (let h = value.deep in omega arith) (let h = value.long in omega arith) e refl)

  same-bytes : (k : ℕ) → concat found.items ≡ concat (found.items ++ replicate k [])
  same-bytes k = sym (concat-append found.items (replicate k []) ∙ ap (λ (q : List ℕ). concat found.items ++ q) (concat-none k) ∙ append-nil (concat found.items))

  same_found : (last : CursorValue) (k : ℕ) → CountsAgain after (size v * k) last → FindsRun (ValuesRun nodes limits (node_at nodes id)) a last [] [] (xs ++ replicate (suc k) v)
  same_found last k counts = record {
    items = found.items ++ replicate (suc k) [];
    stand = some-run (suc k) last.nodes (all-nodes now.nodes after.nodes last.nodes (size v) k value.many counts.nodes);
    moves = moves-same a last (concat found.items) (concat (found.items ++ replicate (suc k) [])) (same-bytes (suc k)) (record {
      split = found.moves.split ∙ ap (λ (r : List ℕ). concat found.items ++ r) (in-place ∙ sym counts.bytes);
      offset = counts.offset ∙ same-offset ∙ found.moves.offset;
      depth = counts.depth ∙ value.moves.depth ∙ found.moves.depth;
      blob = counts.blob ∙ value.moves.blob ∙ found.moves.blob;
    });
  }

  same_refused : (k count : ℕ) → is_schema nodes ≡ true → list_all (λ x. nat_lt x 256) after.bytes ≡ true → after.nodes < 2 ^ 32 → limits.blob < 2 ^ 63 → after.nodes < size v * k → length xs + suc k ≡ count
      → RunBreaks (ValuesRun nodes limits (node_at nodes id)) (value_breaks nodes limits (node_at nodes id)) (left_at a []) count a.bytes limit_exceeded
  same_refused k count formed are few small over counted =
      let some = some_fit (size v) after.nodes k over in
      let rest = some.1 in record {
        xs = xs ++ replicate (suc some.0) v;
        items = found.items ++ replicate (suc some.0) [];
        then_left = record { nodes = rest; keys = [] };
        few = let h = some.2 in omega (arith, length-append xs (replicate (suc some.0) v), length-replicate (suc some.0) v, h, counted);
        stand = some-run (suc some.0) rest (one-more now.nodes after.nodes rest (size v) some.0 value.many some.3);
        next = record {
          rest = now.bytes;
          fault = limit_exceeded;
          split = found.moves.split ∙ ap (λ (f : List ℕ). f ++ now.bytes) (same-bytes (suc some.0));
          breaks = limit_passed nodes (record { depth = limits.depth; nodes = rest; blob = limits.blob }) id v now.bytes formed
              (subst (λ (bs : List ℕ). list_all (λ x. nat_lt x 256) bs ≡ true) (sym in-place) are) (let h = some.3 in omega (arith, few, h)) small empty (λ within. let p = within.1 in let q = some.4 in absurd (omega arith));
          moved = refl;
        };
      }

  -- what is answered, where the others are counted at once
  pub same_reads : {R : Type 0} (result : Result R ReadError) (gives : List Value → List (List ℕ) → Type 0) (last : CursorValue) (k count : ℕ) → is_schema nodes ≡ true
      → list_all (λ x. nat_lt x 256) after.bytes ≡ true → after.nodes < 2 ^ 32 → limits.blob < 2 ^ 63 → length xs + suc k ≡ count → OnOk result (CountsAgain after (size v * k) last)
      → IfErr result (λ e. (read_fault e ≡ Some limit_exceeded) × (after.nodes < size v * k)) → gives (xs ++ replicate (suc k) v) []
      → ReadsRun (ValuesRun nodes limits (node_at nodes id)) (value_breaks nodes limits (node_at nodes id)) gives count [] a last result
  same_reads (Ok r) gives last k count formed are few small counted counts refused gave = record {
    found = (xs ++ replicate (suc k) v, [], omega (arith, length-append xs (replicate (suc k) v), length-replicate (suc k) v, counted), same_found last k counts, gave);
    refused = tt;
  }
  same_reads (Err e) gives last k count formed are few small counted counts refused gave = record {
    found = tt;
    refused = rw refused.0 (limit_exceeded, same_refused k count formed are few small refused.1 counted, refl);
  }
