-- The plain encoding is an encoding.
use Rattle.std.proofs.Common.{◌≡◌, ℕ, zero, suc, pos, true, Some, List, [], ◌∷◌, ◌++◌, length, refl, sym, ap, ◌∙◌, subst, arith, slice_get}
use Rattle.std.specs.Prelude.{nat_lt}
use Rattle.std.specs.List.{concat, list_all}
use Rattle.std.proofs.lemmas.Bool.{and_parts, false≢true}
use Rattle.std.proofs.lemmas.Bool.Decides.{nat_tests}
use Rattle.std.proofs.lemmas.Option.{slice_get_within}
use Rattle.std.proofs.lemmas.List.{append-nil}
use Rattle.avro_zigzag.specs.Number.{number_bytes}
use Rattle.avro_zigzag.proofs.public.Spelling.{SpellsInt-number_bytes, SpellsLong-number_bytes}
use Rattle.avro_schema.specs.Value.{Value, Values, Entries, no_values, value, no_entries, entry, values_count, entries_count, keys_of}
use Rattle.avro_schema.specs.Node.{Node, node_at, symbols_of, field_ids}
use Rattle.avro_schema.specs.Fits.{fits, each_fits, entries_fit, fields_fit, is_int, is_long, is_count, are_bytes, is_text, is_some_and, is_int_node, is_long_node, is_bytes_node, is_string_node}
use Rattle.avro_schema.specs.WellFormed.{is_schema}
use Rattle.avro_schema.proofs.public.FitsParts.{is_count-below, ArrayFits-from_fits, MapFits-from_fits, UnionFits-from_fits, RecordFits-from_fits}
use Rattle.avro_cursor.specs.Blocks.{IsInBlocks, no_more, counted}
use Rattle.avro_cursor.specs.Encoding.{SpellsBytes, Spells, EachSpelled, EntriesSpelled, Encodes, plain_bytes, plain_blocks, plain, plain_values, plain_entries}
use Rattle.avro_schema.proofs.public.Choices.{HasFewChoices, HasFewChoices-from_is_schema}
use Rattle.avro_binary.proofs.NoFrontParts.{pos-int, below-from_test}

-- the plain encodings of values, one by one
abbrev pub plain_items : Values → List (List ℕ)
plain_items no_values = []
plain_items (value v vs) = plain v ∷ plain_items vs

-- and of a map's entries
abbrev pub plain_entry_items : Entries → List (List ℕ)
plain_entry_items no_entries = []
plain_entry_items (entry k v es) = (plain_bytes k ++ plain v) ∷ plain_entry_items es

pub length-plain_items : (vs : Values) → length (plain_items vs) ≡ values_count vs
length-plain_items no_values = refl
length-plain_items (value v vs) = ap suc (length-plain_items vs)

pub length-plain_entry_items : (es : Entries) → length (plain_entry_items es) ≡ entries_count es
length-plain_entry_items no_entries = refl
length-plain_entry_items (entry k v es) = ap suc (length-plain_entry_items es)

pub concat-plain_items : (vs : Values) → concat (plain_items vs) ≡ plain_values vs
concat-plain_items no_values = refl
concat-plain_items (value v vs) = ap (λ rest. plain v ++ rest) (concat-plain_items vs)

pub concat-plain_entry_items : (es : Entries) → concat (plain_entry_items es) ≡ plain_entries es
concat-plain_entry_items no_entries = refl
concat-plain_entry_items (entry k v es) = ap (λ rest. plain_bytes k ++ plain v ++ rest) (concat-plain_entry_items es)

count-long : (n : ℕ) → is_count n ≡ true → is_long (pos n) ≡ true
count-long n h = grind (arith, nat_tests)

-- a length and its bytes
pub SpellsBytes-plain_bytes : (content : List ℕ) → is_count (length content) ≡ true → SpellsBytes content (plain_bytes content)
SpellsBytes-plain_bytes content h =
    (number_bytes (pos (length content)), SpellsLong-number_bytes (pos (length content)) (count-long (length content) h), refl)

-- one block holds all the items
pub IsInBlocks-plain_blocks : (items : List (List ℕ)) (count : ℕ) (bytes : List ℕ) → length items ≡ count → concat items ≡ bytes
    → is_count count ≡ true → IsInBlocks items (plain_blocks count bytes)
IsInBlocks-plain_blocks [] zero bytes counts joins h = no_more (SpellsLong-number_bytes (pos 0) refl)
IsInBlocks-plain_blocks [] (suc count) bytes counts joins h = absurd (omega arith)
IsInBlocks-plain_blocks (item ∷ items) zero bytes counts joins h = absurd (omega arith)
IsInBlocks-plain_blocks (item ∷ items) (suc count) bytes counts joins h =
    let below = is_count-below (suc count) h in
    let number = number_bytes (pos (length (item ∷ items))) in
    let same : number_bytes (pos (suc count)) ≡ number = ap (λ n. number_bytes (pos n)) (sym counts) in
    counted (item ∷ items) [] number (0 ∷ []) (sym (append-nil (item ∷ items))) (omega arith) (omega arith)
    (SpellsLong-number_bytes (pos (length (item ∷ items))) (count-long (length (item ∷ items)) (ap (λ (n : ℕ). is_count n) counts ∙ h)))
    (ap (λ front. front ++ bytes ++ 0 ∷ []) same ∙ ap (λ joined. number ++ joined ++ 0 ∷ []) (sym joins))
    (no_more (SpellsLong-number_bytes (pos 0) refl))

-- the plain encoding of a datum that fits spells it, at a node of few choices
module _ (nodes : List Node) (few : (id : ℕ) → HasFewChoices (node_at nodes id)) where
  branch-int : (n : Node) (ids : List ℕ) (k id : ℕ) → HasFewChoices n → n ≡ Node.union ids → slice_get ids k ≡ Some id → is_int (pos k) ≡ true
  branch-int n ids k id few is at =
      pos-int k (length ids) (slice_get_within ids k id at) (subst HasFewChoices is few)

  symbol-int : (n : Node) (k : ℕ) → HasFewChoices n → is_some_and (λ symbols. nat_lt k (length symbols)) (symbols_of n) ≡ true → is_int (pos k) ≡ true
  symbol-int (Node.enum name aliases symbols default) k few h = pos-int k (length symbols) (below-from_test k (length symbols) h) few
  symbol-int Node.null k few h = absurd (false≢true h)
  symbol-int Node.boolean k few h = absurd (false≢true h)
  symbol-int Node.int k few h = absurd (false≢true h)
  symbol-int Node.long k few h = absurd (false≢true h)
  symbol-int Node.bytes k few h = absurd (false≢true h)
  symbol-int Node.string k few h = absurd (false≢true h)
  symbol-int (Node.array id) k few h = absurd (false≢true h)
  symbol-int (Node.map_of id) k few h = absurd (false≢true h)
  symbol-int (Node.union ids) k few h = absurd (false≢true h)
  symbol-int (Node.record_of name aliases fields) k few h = absurd (false≢true h)
  symbol-int (Node.fixed name aliases count) k few h = absurd (false≢true h)

  mutual
    pub Spells-plain : (id : ℕ) (v : Value) → fits nodes (node_at nodes id) v ≡ true → Spells v (plain v)
    Spells-plain id Value.null h = refl
    Spells-plain id (Value.boolean b) h = refl
    Spells-plain id (Value.int i) h = SpellsInt-number_bytes i (and_parts (is_int_node (node_at nodes id)) (is_int i) h).1
    Spells-plain id (Value.long i) h = SpellsLong-number_bytes i (and_parts (is_long_node (node_at nodes id)) (is_long i) h).1
    Spells-plain id (Value.bytes b) h =
        SpellsBytes-plain_bytes b (and_parts (is_count (length b)) _ (and_parts (is_bytes_node (node_at nodes id)) (are_bytes b) h).1).0
    Spells-plain id (Value.string t) h =
        SpellsBytes-plain_bytes t (and_parts (is_count (length t)) _ (and_parts (is_string_node (node_at nodes id)) (is_text t) h).1).0
    Spells-plain id (Value.array vs) h =
        let parts = ArrayFits-from_fits nodes (node_at nodes id) vs h in (
          plain_items vs,
          EachSpelled-plain parts.id vs parts.fitting,
          IsInBlocks-plain_blocks (plain_items vs) (values_count vs) (plain_values vs) (length-plain_items vs) (concat-plain_items vs) parts.counted,
        )
    Spells-plain id (Value.map_of es) h =
        let parts = MapFits-from_fits nodes (node_at nodes id) es h in (
          plain_entry_items es,
          EntriesSpelled-plain parts.id es parts.texts parts.fitting,
          IsInBlocks-plain_blocks (plain_entry_items es) (entries_count es) (plain_entries es) (length-plain_entry_items es) (concat-plain_entry_items es) parts.counted,
        )
    Spells-plain id (Value.union k v) h =
        let parts = UnionFits-from_fits nodes (node_at nodes id) k v h in
        let number = SpellsInt-number_bytes (pos k) (branch-int (node_at nodes id) parts.ids k parts.id (few id) parts.is_union parts.is_branch) in
        (number_bytes (pos k), plain v, number, Spells-plain parts.id v parts.fitting, refl)
    Spells-plain id (Value.record_of vs) h =
        let parts = RecordFits-from_fits nodes (node_at nodes id) vs h in
        (plain_items vs, FieldsSpelled-plain (field_ids parts.fields) vs parts.fitting, sym (concat-plain_items vs))
    Spells-plain id (Value.enum k) h = SpellsInt-number_bytes (pos k) (symbol-int (node_at nodes id) k (few id) h)
    Spells-plain id (Value.fixed b) h = refl

    EachSpelled-plain : (id : ℕ) (vs : Values) → each_fits nodes (node_at nodes id) vs ≡ true → EachSpelled vs (plain_items vs)
    EachSpelled-plain id no_values h = refl
    EachSpelled-plain id (value v vs) h =
        let parts = and_parts (fits nodes (node_at nodes id) v) (each_fits nodes (node_at nodes id) vs) h in
        (plain v, plain_items vs, Spells-plain id v parts.0, EachSpelled-plain id vs parts.1, refl)

    EntriesSpelled-plain : (id : ℕ) (es : Entries) → list_all is_text (keys_of es) ≡ true → entries_fit nodes (node_at nodes id) es ≡ true
        → EntriesSpelled es (plain_entry_items es)
    EntriesSpelled-plain id no_entries t h = refl
    EntriesSpelled-plain id (entry k v es) t h =
        let texts = and_parts (is_text k) (list_all is_text (keys_of es)) t in
        let parts = and_parts (fits nodes (node_at nodes id) v) (entries_fit nodes (node_at nodes id) es) h in
        let key = SpellsBytes-plain_bytes k (and_parts (is_count (length k)) _ texts.0).0 in
        (plain_bytes k, plain v, plain_entry_items es, key, Spells-plain id v parts.0, EntriesSpelled-plain id es texts.1 parts.1, refl)

    pub FieldsSpelled-plain : (ids : List ℕ) (vs : Values) → fields_fit nodes ids vs ≡ true → EachSpelled vs (plain_items vs)
    FieldsSpelled-plain ids no_values h = refl
    FieldsSpelled-plain [] (value v vs) h = absurd (false≢true h)
    FieldsSpelled-plain (id ∷ ids) (value v vs) h =
        let parts = and_parts (fits nodes (node_at nodes id) v) (fields_fit nodes ids vs) h in
        (plain v, plain_items vs, Spells-plain id v parts.0, FieldsSpelled-plain ids vs parts.1, refl)

-- and so it is an encoding
pub Encodes-plain : (nodes : List Node) (id : ℕ) (v : Value) → is_schema nodes ≡ true → fits nodes (node_at nodes id) v ≡ true
    → Encodes nodes (node_at nodes id) v (plain v)
Encodes-plain nodes id v s h =
    record { fitting = h; spelled = Spells-plain nodes (HasFewChoices-from_is_schema nodes s) id v h }
