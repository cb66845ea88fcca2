-- Bytes that break begin with no encoding of a datum within limits, and where no limit is passed, of any datum.
use Rattle.std.proofs.Common.{◌≡◌, ◌≢◌, ◌⊎◌, inl, inr, ℕ, zero, suc, ◌+◌, ◌-◌, ◌^◌, ◌<◌, ◌≤◌, pos, Bool, true, false, Some, List, [], ◌∷◌, ◌++◌, length, refl, sym, ap, ◌∙◌, subst, append_assoc, length-append, arith, slice_get, if◌then◌else◌}
use Rattle.std.specs.Prelude.{◌==◌, nat_le, ◌&&◌}
use Rattle.std.specs.List.{concat}
use Rattle.std.specs.Str.{is_utf8}
use Rattle.std.proofs.lemmas.Bool.{and_parts, false≢true}
use Rattle.std.proofs.lemmas.Bool.Decides.{nat_tests}
use Rattle.std.proofs.lemmas.Option.{slice_get_within}
use Rattle.avro_zigzag.specs.Number.{SpellsInt}
use Rattle.avro_zigzag.proofs.public.Faults.{long-excludes_fault, int-excludes_fault}
use Rattle.avro_zigzag.proofs.public.Spelling.{one_spelling_lem}
use Rattle.avro_schema.specs.Value.{Value, Values, no_values, value, size, depth, longest_blob, values_size}
use Rattle.avro_schema.specs.Node.{Node, node_at, field_ids}
use Rattle.avro_schema.specs.Fits.{fits, fields_fit, are_bytes, is_count, LimitValues, is_within}
use Rattle.avro_schema.specs.WellFormed.{is_schema}
use Rattle.avro_schema.proofs.public.FitsParts.{is_count-below}
use Rattle.avro_schema.proofs.public.FitsKind.{FitsKind, FitsKind-from_fits, boolean_value, int_value, long_value}
use Rattle.avro_schema.proofs.public.Parts.{size-positive, depth-positive}
use Rattle.avro_cursor.specs.Encoding.{Spells, EachSpelled, Encodes}
use Rattle.avro_cursor.specs.Fault.{ReadFault, limit_exceeded}
use Rattle.avro_cursor.specs.Breaks.{ChildBreaks, BooleanBreaks, FixedBreaks, IndexBreaks, BranchBreaks, FieldsBreak, ItemsAreWhole, EntriesAreWhole, EntryBreaks, NodeBreaks, BreaksWithin, Breaks}
use Rattle.avro_binary.proofs.Front.{told}
use Rattle.avro_cursor.proofs.public.Fronts.{same_behind, same_from_pos}
use Rattle.avro_binary.proofs.KindOf.{bytes_value, string_value, array_value, map_value, union_value, record_value, enum_value, fixed_value}
use Rattle.avro_schema.proofs.public.Choices.{HasFewChoices, HasFewChoices-from_is_schema}
use Rattle.avro_binary.proofs.NoFrontBlocks.{behind_limit, blocks_none}
use Rattle.avro_binary.proofs.NoFrontItems.{IsSmall, AreSmall, AreSmall-first, AreSmall-others, NoneAt, ValuesFollow, values_follow, EntriesFollow, entries_follow, is_text-short, is_text-valid}
use Rattle.avro_binary.proofs.NoFrontParts.{below-from_test, content_none, index_none}

-- ---- Kinds without parts

boolean_none : (c : Bool) (bytes : List ℕ) (f : ReadFault) (front rest : List ℕ) → BooleanBreaks bytes f → front ≡ (if c then 1 else 0) ∷ [] → bytes ≡ front ++ rest → ⊥
boolean_none c [] f front rest b s e = let whole = e ∙ ap (λ (q : List ℕ). q ++ rest) s in cc
boolean_none true (x ∷ bytes) f front rest b s e = let whole = e ∙ ap (λ (q : List ℕ). q ++ rest) s in let same : x ≡ 1 = cc in omega (arith, b.0)
boolean_none false (x ∷ bytes) f front rest b s e = let whole = e ∙ ap (λ (q : List ℕ). q ++ rest) s in let same : x ≡ 0 = cc in omega (arith, b.0)

fixed_none : (W : Type 0) (count blob : ℕ) (bytes : List ℕ) (f : ReadFault) (content rest : List ℕ) → FixedBreaks count blob bytes f → (f ≡ limit_exceeded → W)
    → (W → length content ≤ blob) → (length content == count) ≡ true → bytes ≡ content ++ rest → ⊥
fixed_none W count blob bytes f content rest (inl b) limit small h e = let s = small (limit b.1) in let over = b.0 in grind (arith, nat_tests)
fixed_none W count blob bytes f content rest (inr b) limit small h e =
    let short = b.1 in let l = ap length e in let joined = length-append content rest in grind (arith, nat_tests)

are_bytes-short : (b : List ℕ) → are_bytes b ≡ true → length b < 2 ^ 63
are_bytes-short b h = is_count-below (length b) (and_parts (is_count (length b)) _ h).0

-- ---- Unions

pub slice_get-middle : (before : List ℕ) (x : ℕ) (after : List ℕ) → slice_get (before ++ x ∷ after) (length before) ≡ Some x
slice_get-middle [] x after = refl
slice_get-middle (y ∷ before) x after = slice_get-middle before x after

union_none : (W : Type 0) (nodes : List Node) (left : LimitValues) (child : ChildBreaks) (ids : List ℕ) (bytes : List ℕ) (f : ReadFault)
    (k id : ℕ) (v : Value) (number first rest : List ℕ)
    → ((p : ℕ) → NoneAt W nodes (node_at nodes p) left.depth left.blob (λ c. child c (node_at nodes p))) → length ids ≤ 2 ^ 31
    → IndexBreaks (length ids) bytes f ⊎ BranchBreaks nodes left child ids bytes f → (f ≡ limit_exceeded → W) → slice_get ids k ≡ Some id
    → fits nodes (node_at nodes id) v ≡ true → SpellsInt (pos k) number → Spells v first → (W → IsSmall left.depth left.nodes left.blob v)
    → bytes ≡ number ++ (first ++ rest) → ⊥
union_none W nodes left child ids bytes f k id v number first rest none few (inl b) limit at h s t small e =
    index_none (length ids) bytes f k number (first ++ rest) b (slice_get_within ids k id at) few s e
union_none W nodes left child ids bytes f k id v number first rest none few (inr b) limit at h s t small e =
    let joined : b.number ++ b.breaks.rest ≡ number ++ (first ++ rest) = sym b.breaks.split ∙ e in
    let same = one_spelling_lem (pos (length b.before)) (pos k) b.number number b.breaks.rest (first ++ rest) b.spelled s joined in
    let here : slice_get ids k ≡ Some b.branch =
    ap (λ (i : ℕ). slice_get ids i) (sym (same_from_pos (length b.before) k same.1))
    ∙ ap (λ (ps : List ℕ). slice_get ps (length b.before)) b.ids_are ∙ slice_get-middle b.before b.branch b.after in
    let branch : id ≡ b.branch = cc in
    none b.branch left.nodes b.breaks.rest b.breaks.fault b.breaks.breaks (behind_limit f b.breaks.fault (length b.number) W b.breaks.moved limit) v first rest
    (subst (λ (p : ℕ). fits nodes (node_at nodes p) v ≡ true) branch h) t small (same_behind b.number number b.breaks.rest (first ++ rest) same.0 joined)

-- ---- Records

pub fields_none : (W : Type 0) (nodes : List Node) (d b : ℕ) (child : ChildBreaks) (before : List ℕ) (field : ℕ) (after : List ℕ) (vs ws : Values)
    (items others : List (List ℕ)) (c : ℕ) (rest x : List ℕ) (f : ReadFault) → ((p : ℕ) → NoneAt W nodes (node_at nodes p) d b (λ q. child q (node_at nodes p)))
    → fields_fit nodes before vs ≡ true → EachSpelled vs items → fields_fit nodes (before ++ field ∷ after) ws ≡ true → EachSpelled ws others
    → (W → AreSmall d c b ws) → child (c - values_size vs) (node_at nodes field) rest f → (f ≡ limit_exceeded → W) → concat items ++ rest ≡ concat others ++ x → ⊥
fields_none W nodes d b child [] field after (value v vs) ws items others c rest x f none g s h t small broken limit e = false≢true g
fields_none W nodes d b child [] field after no_values no_values items others c rest x f none g s h t small broken limit e = false≢true h
fields_none W nodes d b child [] field after no_values (value w ws) items others c rest x f none g s h t small broken limit e =
    let parts = and_parts (fits nodes (node_at nodes field) w) (fields_fit nodes after ws) h in
    none field (c - 0) rest f broken limit w t.0 (concat t.1 ++ x) parts.0 t.2
    (λ u. let k = AreSmall-first d c b w ws (small u) in (k.0, omega (arith, k.1), k.2))
    (ap (λ (is : List (List ℕ)). concat is ++ rest) (sym s) ∙ e ∙ ap (λ (is : List (List ℕ)). concat is ++ x) t.4 ∙ append_assoc t.0 (concat t.1) x)
fields_none W nodes d b child (id ∷ before) field after no_values ws items others c rest x f none g s h t small broken limit e = false≢true g
fields_none W nodes d b child (id ∷ before) field after (value v vs) no_values items others c rest x f none g s h t small broken limit e = false≢true h
fields_none W nodes d b child (id ∷ before) field after (value v vs) (value w ws) items others c rest x f none g s h t small broken limit e =
    let n = node_at nodes id in
    let mine = and_parts (fits nodes n v) (fields_fit nodes before vs) g in
    let parts = and_parts (fits nodes n w) (fields_fit nodes (before ++ field ∷ after) ws) h in
    let joined : s.0 ++ (concat s.1 ++ rest) ≡ t.0 ++ (concat t.1 ++ x) =
    sym (append_assoc s.0 (concat s.1) rest) ∙ ap (λ (is : List (List ℕ)). concat is ++ rest) (sym s.4) ∙ e
    ∙ ap (λ (is : List (List ℕ)). concat is ++ x) t.4 ∙ append_assoc t.0 (concat t.1) x in
    let first = told nodes n v mine.0 w s.0 t.0 (concat s.1 ++ rest) (concat t.1 ++ x) parts.0 s.2 t.2 joined in
    let sizes : size v ≡ size w = ap size first.1 in
    let left : c - (size v + values_size vs) ≡ c - size w - values_size vs = omega arith in
    fields_none W nodes d b child before field after vs ws s.1 t.1 (c - size w) rest x f none mine.1 s.3 parts.1 t.3 (λ u. AreSmall-others d c b w ws (small u))
    (subst (λ (q : ℕ). child q (node_at nodes field) rest f) left broken) limit (same_behind s.0 t.0 (concat s.1 ++ rest) (concat t.1 ++ x) first.0 joined)

record_none : (W : Type 0) (nodes : List Node) (left : LimitValues) (child : ChildBreaks) (ids : List ℕ) (bytes : List ℕ) (f : ReadFault) (ws : Values)
    (others : List (List ℕ)) (rest : List ℕ) → ((p : ℕ) → NoneAt W nodes (node_at nodes p) left.depth left.blob (λ c. child c (node_at nodes p)))
    → FieldsBreak nodes left child ids bytes f → (f ≡ limit_exceeded → W) → fields_fit nodes ids ws ≡ true → EachSpelled ws others
    → (W → AreSmall left.depth left.nodes left.blob ws) → bytes ≡ concat others ++ rest → ⊥
record_none W nodes left child ids bytes f ws others rest none b limit h s small e =
    fields_none W nodes left.depth left.blob child b.before b.field b.after b.values ws b.items others left.nodes b.breaks.rest rest b.breaks.fault none b.fitting b.spelled
    (subst (λ (ps : List ℕ). fields_fit nodes ps ws ≡ true) b.ids_are h) s small b.breaks.breaks
    (behind_limit f b.breaks.fault (length (concat b.items)) W b.breaks.moved limit) (sym b.breaks.split ∙ e)

-- ---- Each kind

module _ (W : Type 0) (nodes : List Node) (left : LimitValues) (child : ChildBreaks) (none : (p : ℕ) → NoneAt W nodes (node_at nodes p) left.depth left.blob (λ c. child c (node_at nodes p))) where
  -- a datum that is at the front, within limits if W
  abbrev Stands : Value → List ℕ → List ℕ → List ℕ → Type 0
  Stands v bytes front rest = Spells v front × (W → IsSmall (suc left.depth) (suc left.nodes) left.blob v) × (bytes ≡ front ++ rest)

  stands_as : (v w : Value) (bytes front rest : List ℕ) → v ≡ w → Stands v bytes front rest → Stands w bytes front rest
  stands_as v w bytes front rest e s = subst (λ (u : Value). Stands u bytes front rest) e s

  node_none : (n : Node) (bytes : List ℕ) (f : ReadFault) (v : Value) (front rest : List ℕ) → HasFewChoices n → NodeBreaks nodes left child n bytes f
      → (f ≡ limit_exceeded → W) → FitsKind nodes n v → Stands v bytes front rest → ⊥
  node_none Node.null bytes f v front rest few b limit k s = b
  node_none Node.boolean bytes f v front rest few b limit k s =
      let is = boolean_value nodes v k in
      let t = stands_as v (Value.boolean is.0) bytes front rest is.1 s in boolean_none is.0 bytes f front rest b t.0 t.2
  node_none Node.int bytes f v front rest few b limit k s =
      let is = int_value nodes v k in
      let t = stands_as v (Value.int is.0) bytes front rest is.1 s in int-excludes_fault is.0 bytes front rest b.0 is.2 t.0 t.2 b.1
  node_none Node.long bytes f v front rest few b limit k s =
      let is = long_value nodes v k in
      let t = stands_as v (Value.long is.0) bytes front rest is.1 s in long-excludes_fault is.0 bytes front rest b.0 is.2 t.0 t.2 b.1
  node_none Node.bytes bytes f v front rest few b limit k s =
      let is = bytes_value nodes v k in
      let t = stands_as v (Value.bytes is.0) bytes front rest is.1 s in
      content_none W (λ content. true) left.blob bytes f is.0 front rest b limit (λ w. (t.1 w).2) t.0 (are_bytes-short is.0 is.2) refl t.2
  node_none Node.string bytes f v front rest few b limit k s =
      let is = string_value nodes v k in
      let t = stands_as v (Value.string is.0) bytes front rest is.1 s in
      content_none W is_utf8 left.blob bytes f is.0 front rest b limit (λ w. (t.1 w).2) t.0 (is_text-short is.0 is.2) (is_text-valid is.0 is.2) t.2
  node_none (Node.array id) bytes f v front rest few b limit k s =
      let n = node_at nodes id in
      let is = array_value nodes id v k in
      let t = stands_as v (Value.array is.0) bytes front rest is.1 s in
      blocks_none W (ItemsAreWhole nodes left n) (λ state. child state.nodes n) (ValuesFollow W nodes n left) (values_follow W nodes n left (λ c. child c n) (none id))
      b limit t.0.0 front rest
      (record { values = is.0; fitting = is.3; spelled = t.0.1; small = λ w. let m = t.1 w in (omega (arith, m.0), omega (arith, m.1), m.2) }) t.0.2 t.2
  node_none (Node.map_of id) bytes f v front rest few b limit k s =
      let n = node_at nodes id in
      let is = map_value nodes id v k in
      let t = stands_as v (Value.map_of is.0) bytes front rest is.1 s in
      blocks_none W (EntriesAreWhole nodes left n) (EntryBreaks left child n) (EntriesFollow W nodes n left) (entries_follow W nodes n left child (none id))
      b limit t.0.0 front rest
      (record {
        entries = is.0;
        texts = is.2;
        distinct = is.3;
        fitting = is.4;
        spelled = t.0.1;
        small = λ w. let m = t.1 w in (omega (arith, m.0), omega (arith, m.1), m.2);
      }) t.0.2 t.2
  node_none (Node.union ids) bytes f v front rest few b limit k s =
      let is = union_value nodes ids v k in
      let t = stands_as v (Value.union is.0 is.1) bytes front rest is.3 s in
      union_none W nodes left child ids bytes f is.0 is.2 is.1 t.0.0 t.0.1 rest none few b limit is.4 is.5 t.0.2 t.0.3
      (λ w. let m = t.1 w in (omega (arith, m.0), omega (arith, m.1), m.2))
      (t.2 ∙ ap (λ (q : List ℕ). q ++ rest) t.0.4 ∙ append_assoc t.0.0 t.0.1 rest)
  node_none (Node.record_of name aliases fields) bytes f v front rest few b limit k s =
      let is = record_value nodes name aliases fields v k in
      let t = stands_as v (Value.record_of is.0) bytes front rest is.1 s in
      record_none W nodes left child (field_ids fields) bytes f is.0 t.0.0 rest none b limit is.2 t.0.1
      (λ w. let m = t.1 w in (omega (arith, m.0), omega (arith, m.1), m.2)) (t.2 ∙ ap (λ (q : List ℕ). q ++ rest) t.0.2)
  node_none (Node.enum name aliases symbols default) bytes f v front rest few b limit k s =
      let is = enum_value nodes name aliases symbols default v k in
      let t = stands_as v (Value.enum is.0) bytes front rest is.1 s in
      index_none (length symbols) bytes f is.0 front rest b (below-from_test is.0 (length symbols) is.2) few t.0 t.2
  node_none (Node.fixed name aliases count) bytes f v front rest few b limit k s =
      let is = fixed_value nodes name aliases count v k in
      let t = stands_as v (Value.fixed is.0) bytes front rest is.1 s in
      fixed_none W count left.blob bytes f is.0 rest b limit (λ w. (t.1 w).2) is.2 (t.2 ∙ ap (λ (q : List ℕ). q ++ rest) t.0)

-- bytes that break as a node begin with no datum of it
pub none_within : (W : Type 0) (nodes : List Node) (few : (p : ℕ) → HasFewChoices (node_at nodes p)) (blob depth : ℕ) (n : Node) → HasFewChoices n
    → NoneAt W nodes n depth blob (λ c rest g. BreaksWithin nodes depth c blob n rest g)
none_within W nodes few blob zero n h c bytes f b limit v front rest fitting s small e = omega (arith, depth-positive v, (small (limit b)).0)
none_within W nodes few blob (suc depth) n h zero bytes f b limit v front rest fitting s small e = omega (arith, size-positive v, (small (limit b)).1)
none_within W nodes few blob (suc depth) n h (suc c) bytes f b limit v front rest fitting s small e =
    let left : LimitValues = record { depth = depth; nodes = c; blob = blob } in
    node_none W nodes left (λ q m r g. BreaksWithin nodes depth q blob m r g) (λ p. none_within W nodes few blob depth (node_at nodes p) (few p)) n bytes f v front rest h b limit
    (FitsKind-from_fits nodes n v fitting) (s, small, e)

-- ---- Of a schema

pub within-small : (limits : LimitValues) (v : Value) → is_within limits v ≡ true → IsSmall limits.depth limits.nodes limits.blob v
within-small limits v h =
    let both = and_parts (nat_le (depth v) limits.depth && nat_le (size v) limits.nodes) (nat_le (longest_blob v) limits.blob) h in
    let two = and_parts (nat_le (depth v) limits.depth) (nat_le (size v) limits.nodes) both.0 in
    (at_most (depth v) limits.depth two.0, at_most (size v) limits.nodes two.1, at_most (longest_blob v) limits.blob both.1)
  where
    at_most : (m n : ℕ) → nat_le m n ≡ true → m ≤ n
    at_most m n e = grind (arith, nat_tests)

-- a fault that is no limit leaves no front that encodes any datum
pub no_front_of_fault : (nodes : List Node) (limits : LimitValues) (id : ℕ) (bytes : List ℕ) (f : ReadFault) (v : Value) (front rest : List ℕ) → is_schema nodes ≡ true
    → Breaks nodes limits (node_at nodes id) bytes f → f ≢ limit_exceeded → Encodes nodes (node_at nodes id) v front → bytes ≡ front ++ rest → ⊥
no_front_of_fault nodes limits id bytes f v front rest formed b no_limit encodes e =
    let few = HasFewChoices-from_is_schema nodes formed in
    none_within ⊥ nodes few limits.blob limits.depth (node_at nodes id) (few id) limits.nodes bytes f b no_limit v front rest encodes.fitting encodes.spelled
    (λ w. absurd w) e

-- no fault leaves a front that encodes a datum within limits
pub no_front_within : (nodes : List Node) (limits : LimitValues) (id : ℕ) (bytes : List ℕ) (f : ReadFault) (v : Value) (front rest : List ℕ) → is_schema nodes ≡ true
    → Breaks nodes limits (node_at nodes id) bytes f → Encodes nodes (node_at nodes id) v front → is_within limits v ≡ true → bytes ≡ front ++ rest → ⊥
no_front_within nodes limits id bytes f v front rest formed b encodes within e =
    let few = HasFewChoices-from_is_schema nodes formed in
    none_within (Unit {0}) nodes few limits.blob limits.depth (node_at nodes id) (few id) limits.nodes bytes f b (λ _. tt) v front rest encodes.fitting encodes.spelled
    (λ _. within-small limits v within) e
