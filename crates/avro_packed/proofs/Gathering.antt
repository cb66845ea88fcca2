-- What is gathered of items and entries, and what is moved.
use Rattle.std.proofs.Common.{◌≡◌, ℕ, zero, suc, ◌+◌, List, [], ◌∷◌, ◌++◌, length, replicate, Option, true, refl, sym, ap, subst, ◌∙◌, append_assoc, arith}
use Rattle.std.specs.Prelude.{Result, Ok, Err, OnOk, pos}
use Rattle.std.proofs.lemmas.List.{length-append, length-replicate}
use Rattle.avro_schema.specs.Empty.{are_empty}
use Rattle.avro_schema.specs.Value.{Value}
use Rattle.avro_schema.specs.Seen.{values_from, entries_from}
use Rattle.avro_cursor.specs.Encoding.{plain, plain_bytes, plain_blocks, plain_values, plain_entries}
use Rattle.avro_binary.proofs.public.EmptyData.{plain_values-empty}
use Rattle.avro_packed.specs.Appended.{AreItems, AreEntries, Holds, branch_bytes}
use Rattle.avro_zigzag.specs.Number.{number_bytes}
use Rattle.avro_packed.specs.declared.gathered.Gathered.{Gathered}
use Rattle.avro_packed.specs.declared.written.Written.{Written}
use Rattle.avro_packed.proofs.Joined.{values_with_one, entries_with_one, values_count-length, entries_count-length}

-- one more item, and one more entry
pub item_gathered : {T E : Type 0} (r : Result T E) (out : List ℕ) (into branch : Option ℕ) (count old : ℕ) (new : Written) (vs : List Value) (v : Value)
    → into ≡ branch → old ≡ length vs → count ≡ old + 1 → OnOk r (Holds out new (plain_values (values_from vs) ++ plain v))
    → OnOk r ((into ≡ branch) × ((count ≡ length (vs ++ v ∷ [])) × Holds out new (plain_values (values_from (vs ++ v ∷ [])))))
item_gathered (Err e) out into branch count old new vs v same counted one holds = tt
item_gathered (Ok u) out into branch count old new vs v same counted one holds =
    (same, (omega (arith, one, counted, length-append vs (v ∷ [])), subst (λ (l : List ℕ). Holds out new l) (sym (values_with_one vs v)) holds))

-- more items that have no bytes
plain-none : (n : ℕ) (vs : List Value) (v : Value) → plain v ≡ [] → plain_values (values_from (vs ++ replicate n v)) ≡ plain_values (values_from vs)
plain-none zero [] v none = refl
plain-none (suc n) [] v none = ap (λ (b : List ℕ). b ++ plain_values (values_from (replicate n v))) none ∙ plain-none n [] v none
plain-none n (u ∷ vs) v none = ap (λ (b : List ℕ). plain u ++ b) (plain-none n vs v none)

pub items_repeated : (out : List ℕ) (new old : Gathered) (n : ℕ) (vs : List Value) (v : Value) → AreItems out old vs → plain v ≡ []
    → new.count ≡ old.count + n → new.written ≡ old.written → AreItems out new (vs ++ replicate n v)
items_repeated out new old n vs v are none more written = (
  omega (arith, more, are.0, length-append vs (replicate n v), length-replicate n v),
  subst (λ (w : Written). Holds out w (plain_values (values_from (vs ++ replicate n v)))) (sym written) (subst (λ (b : List ℕ). Holds out old.written b) (sym (plain-none n vs v none)) are.1),
)

pub entry_gathered : {T E : Type 0} (r : Result T E) (out : List ℕ) (into branch : Option ℕ) (count old : ℕ) (key : List ℕ) (new : Written) (es : List (List ℕ × Value)) (v : Value)
    → into ≡ branch → old ≡ length es → count ≡ old + 1 → OnOk r (Holds out new ((plain_entries (entries_from es) ++ plain_bytes key) ++ plain v))
    → OnOk r ((into ≡ branch) × ((count ≡ length (es ++ (key, v) ∷ [])) × Holds out new (plain_entries (entries_from (es ++ (key, v) ∷ [])))))
entry_gathered (Err e) out into branch count old key new es v same counted one holds = tt
entry_gathered (Ok u) out into branch count old key new es v same counted one holds =
    (same, (omega (arith, one, counted, length-append es ((key, v) ∷ [])), subst (λ (l : List ℕ). Holds out new l) (sym (entries_with_one es key v)) holds))

-- the one block of all
pub block_of_items : (out : List ℕ) (branch : Option ℕ) (g : Gathered) (vs : List Value) → g.into ≡ branch → AreItems out g vs
    → branch_bytes g.into ++ plain_blocks g.count (plain_values (values_from vs)) ≡ branch_bytes branch ++ plain (Value.array (values_from vs))
block_of_items out branch g vs same are =
    ap (λ b. branch_bytes b ++ plain_blocks g.count (plain_values (values_from vs))) same
    ∙ ap (λ n. branch_bytes branch ++ plain_blocks n (plain_values (values_from vs))) (are.0 ∙ sym (values_count-length vs))

pub block_of_entries : (out : List ℕ) (branch : Option ℕ) (g : Gathered) (es : List (List ℕ × Value)) → g.into ≡ branch → AreEntries out g es
    → branch_bytes g.into ++ plain_blocks g.count (plain_entries (entries_from es)) ≡ branch_bytes branch ++ plain (Value.map_of (entries_from es))
block_of_entries out branch g es same are =
    ap (λ b. branch_bytes b ++ plain_blocks g.count (plain_entries (entries_from es))) same
    ∙ ap (λ n. branch_bytes branch ++ plain_blocks n (plain_entries (entries_from es))) (are.0 ∙ sym (entries_count-length es))

-- one more field
pub field_behind : {T E : Type 0} (r : Result T E) (front : List ℕ) (vs : List Value) (v : Value) (P : List ℕ → Type 0)
    → OnOk r (P ((front ++ plain_values (values_from vs)) ++ plain v)) → OnOk r (P (front ++ plain_values (values_from (vs ++ v ∷ []))))
field_behind r front vs v P h =
    subst (λ (l : List ℕ). OnOk r (P l))
    (append_assoc front (plain_values (values_from vs)) (plain v) ∙ ap (λ (l : List ℕ). front ++ l) (sym (values_with_one vs v))) h

-- more fields that have no bytes
pub plain-others : (vs ws : List Value) → are_empty (values_from ws) ≡ true → plain_values (values_from (vs ++ ws)) ≡ plain_values (values_from vs)
plain-others [] ws none = plain_values-empty (values_from ws) none
plain-others (v ∷ vs) ws none = ap (λ (b : List ℕ). plain v ++ b) (plain-others vs ws none)

blocks_some : (count : ℕ) (bytes : List ℕ) → (count ≡ 0 → ⊥) → plain_blocks count bytes ≡ (number_bytes (pos count) ++ bytes) ++ 0 ∷ []
blocks_some zero bytes some = absurd (some refl)
blocks_some (suc count) bytes some = refl

-- the head of a block, its items or entries, and the end
pub block_closed : (front bytes : List ℕ) (count : ℕ) → (count ≡ 0 → ⊥) → ((front ++ number_bytes (pos count)) ++ bytes) ++ 0 ∷ [] ≡ front ++ plain_blocks count bytes
block_closed front bytes count some =
    let k = number_bytes (pos count) in
    ap (λ (l : List ℕ). l ++ 0 ∷ []) (append_assoc front k bytes) ∙ append_assoc front (k ++ bytes) (0 ∷ []) ∙ ap (λ (l : List ℕ). front ++ l) (sym (blocks_some count bytes some))
