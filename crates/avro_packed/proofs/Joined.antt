-- Plain encodings one after another.
use Rattle.std.proofs.Common.{◌≡◌, ℕ, suc, ◌+◌, List, [], ◌∷◌, ◌++◌, length, map, refl, sym, ap, ◌∙◌, append_assoc, arith}
use Rattle.std.specs.Prelude.{Result, Ok, Err, OnOk}
use Rattle.std.specs.List.{AllZip, concat}
use Rattle.std.specs.Global.{Vec}
use Rattle.std.proofs.lemmas.List.{append-nil, length-append}
use Rattle.avro_schema.specs.Value.{Value, values_count, entries_count}
use Rattle.avro_schema.specs.Seen.{values_from, entries_from}
use Rattle.avro_cursor.specs.Encoding.{plain, plain_bytes, plain_blocks, plain_values, plain_entries}

-- one more after the others
pub values_with_one : (vs : List Value) (v : Value) → plain_values (values_from (vs ++ v ∷ [])) ≡ plain_values (values_from vs) ++ plain v
values_with_one [] v = append-nil (plain v)
values_with_one (w ∷ vs) v =
    ap (λ rest. plain w ++ rest) (values_with_one vs v) ∙ sym (append_assoc (plain w) (plain_values (values_from vs)) (plain v))

pub entries_with_one : (es : List (List ℕ × Value)) (key : List ℕ) (v : Value)
    → plain_entries (entries_from (es ++ (key, v) ∷ [])) ≡ (plain_entries (entries_from es) ++ plain_bytes key) ++ plain v
entries_with_one [] key v = append-nil (plain_bytes key ++ plain v)
entries_with_one (e ∷ es) key v =
    let more = entries_with_one es key v in
    rw more (simp append_assoc)

-- one more item, and one more entry
pub item_is_added : {T E : Type 0} (r : Result T E) (count more : ℕ) (bytes new part : List ℕ) (vs : List Value) (v : Value)
    → count ≡ length vs → bytes ≡ plain_values (values_from vs) → part ≡ plain v → OnOk r (more ≡ count + 1) → OnOk r (new ≡ bytes ++ part)
    → OnOk r ((more ≡ length (vs ++ v ∷ [])) × (new ≡ plain_values (values_from (vs ++ v ∷ []))))
item_is_added (Err e) count more bytes new part vs v counted are is one added = tt
item_is_added (Ok u) count more bytes new part vs v counted are is one added =
    (omega (arith, one, counted, length-append vs (v ∷ [])), cc (added, are, is, values_with_one vs v))

pub entry_is_added : {T E : Type 0} (r : Result T E) (count more : ℕ) (bytes new part key : List ℕ) (es : List (List ℕ × Value)) (v : Value)
    → count ≡ length es → bytes ≡ plain_entries (entries_from es) ++ plain_bytes key → part ≡ plain v → OnOk r (more ≡ count + 1) → OnOk r (new ≡ bytes ++ part)
    → OnOk r ((more ≡ length (es ++ (key, v) ∷ [])) × (new ≡ plain_entries (entries_from (es ++ (key, v) ∷ []))))
entry_is_added (Err e) count more bytes new part key es v counted are is one added = tt
entry_is_added (Ok u) count more bytes new part key es v counted are is one added =
    (omega (arith, one, counted, length-append es ((key, v) ∷ [])), cc (added, are, is, entries_with_one es key v))

pub values_count-length : (vs : List Value) → values_count (values_from vs) ≡ length vs
values_count-length [] = refl
values_count-length (v ∷ vs) = ap suc (values_count-length vs)

pub entries_count-length : (es : List (List ℕ × Value)) → entries_count (entries_from es) ≡ length es
entries_count-length [] = refl
entries_count-length (e ∷ es) = ap suc (entries_count-length es)

-- one block of all
pub array_is_plain : (count : ℕ) (bytes : List ℕ) (vs : List Value) → count ≡ length vs → bytes ≡ plain_values (values_from vs)
    → plain_blocks count bytes ≡ plain (Value.array (values_from vs))
array_is_plain count bytes vs counted are =
    ap (λ n. plain_blocks n bytes) (counted ∙ sym (values_count-length vs)) ∙ ap (plain_blocks (values_count (values_from vs))) are

pub map_is_plain : (count : ℕ) (bytes : List ℕ) (es : List (List ℕ × Value)) → count ≡ length es → bytes ≡ plain_entries (entries_from es)
    → plain_blocks count bytes ≡ plain (Value.map_of (entries_from es))
map_is_plain count bytes es counted are =
    ap (λ n. plain_blocks n bytes) (counted ∙ sym (entries_count-length es)) ∙ ap (plain_blocks (entries_count (entries_from es))) are

-- the fields of a record
pub each_plain : (parts : List (Vec ℕ)) (vs : List Value) → AllZip (λ part v. part.items ≡ plain v) parts vs → concat (map (λ part. part.items) parts) ≡ plain_values (values_from vs)
each_plain [] [] are = refl
each_plain [] (v ∷ vs) are = absurd are
each_plain (p ∷ ps) [] are = absurd are
each_plain (p ∷ ps) (v ∷ vs) are = λ i. are.0 i ++ each_plain ps vs are.1 i
