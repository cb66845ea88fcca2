-- The plain encoding of a datum without parts spells it.
use Rattle.std.proofs.Common.{◌≡◌, ℕ, pos, ◌≤◌, ◌^◌, true, List, length, refl, arith, subst}
use Rattle.std.specs.Prelude.{nat_lt}
use Rattle.std.proofs.lemmas.Bool.{and_parts, false≢true}
use Rattle.std.proofs.lemmas.Bool.Decides.{nat_tests}
use Rattle.avro_zigzag.specs.Number.{number_bytes}
use Rattle.avro_zigzag.proofs.public.Spelling.{SpellsInt-number_bytes, SpellsLong-number_bytes}
use Rattle.avro_schema.specs.Fits.{are_bytes, fits, is_bytes_node, is_count, is_int, is_int_node, is_long, is_long_node, is_some_and, is_string_node, is_text}
use Rattle.avro_schema.specs.Node.{Node, symbols_of}
use Rattle.avro_schema.specs.Value.{Value}
use Rattle.avro_schema.proofs.public.Choices.{HasFewChoices}
use Rattle.avro_schema.proofs.public.FitsParts.{ArrayFits-from_fits, MapFits-from_fits, RecordFits-from_fits, UnionFits-from_fits}
use Rattle.avro_cursor.specs.Encoding.{Spells, SpellsBytes, plain, plain_bytes}
use Rattle.avro_binary.specs.LeafValue.{has_no_parts}

count_long : (n : ℕ) → is_count n ≡ true → is_long (pos n) ≡ true
count_long n h = grind (arith, nat_tests)

-- a length and its bytes
bytes_spelled : (content : List ℕ) → is_count (length content) ≡ true → SpellsBytes content (plain_bytes content)
bytes_spelled content h =
    (number_bytes (pos (length content)), SpellsLong-number_bytes (pos (length content)) (count_long (length content) h), refl)

choice_int : (k choices : ℕ) → nat_lt k choices ≡ true → choices ≤ 2 ^ 31 → is_int (pos k) ≡ true
choice_int k choices below few = grind (arith, nat_tests)

symbol_int : (n : Node) (k : ℕ) → HasFewChoices n → is_some_and (λ symbols. nat_lt k (length symbols)) (symbols_of n) ≡ true → is_int (pos k) ≡ true
symbol_int (Node.enum name aliases symbols default) k few h = choice_int k (length symbols) h few
symbol_int Node.null k few h = absurd (false≢true h)
symbol_int Node.boolean k few h = absurd (false≢true h)
symbol_int Node.int k few h = absurd (false≢true h)
symbol_int Node.long k few h = absurd (false≢true h)
symbol_int Node.bytes k few h = absurd (false≢true h)
symbol_int Node.string k few h = absurd (false≢true h)
symbol_int (Node.array id) k few h = absurd (false≢true h)
symbol_int (Node.map_of id) k few h = absurd (false≢true h)
symbol_int (Node.union ids) k few h = absurd (false≢true h)
symbol_int (Node.record_of name aliases fields) k few h = absurd (false≢true h)
symbol_int (Node.fixed name aliases count) k few h = absurd (false≢true h)

pub plain_spelled : (nodes : List Node) (n : Node) (v : Value) → HasFewChoices n → has_no_parts n ≡ true → fits nodes n v ≡ true → Spells v (plain v)
plain_spelled nodes n Value.null few leaf h = refl
plain_spelled nodes n (Value.boolean b) few leaf h = refl
plain_spelled nodes n (Value.int i) few leaf h = SpellsInt-number_bytes i (and_parts (is_int_node n) (is_int i) h).1
plain_spelled nodes n (Value.long i) few leaf h = SpellsLong-number_bytes i (and_parts (is_long_node n) (is_long i) h).1
plain_spelled nodes n (Value.bytes b) few leaf h = bytes_spelled b (and_parts (is_count (length b)) _ (and_parts (is_bytes_node n) (are_bytes b) h).1).0
plain_spelled nodes n (Value.string t) few leaf h = bytes_spelled t (and_parts (is_count (length t)) _ (and_parts (is_string_node n) (is_text t) h).1).0
plain_spelled nodes n (Value.array vs) few leaf h = absurd (false≢true (subst (λ (x : Node). has_no_parts x ≡ true) (ArrayFits-from_fits nodes n vs h).is_array leaf))
plain_spelled nodes n (Value.map_of es) few leaf h = absurd (false≢true (subst (λ (x : Node). has_no_parts x ≡ true) (MapFits-from_fits nodes n es h).is_map leaf))
plain_spelled nodes n (Value.union k v) few leaf h = absurd (false≢true (subst (λ (x : Node). has_no_parts x ≡ true) (UnionFits-from_fits nodes n k v h).is_union leaf))
plain_spelled nodes n (Value.record_of vs) few leaf h = absurd (false≢true (subst (λ (x : Node). has_no_parts x ≡ true) (RecordFits-from_fits nodes n vs h).is_record leaf))
plain_spelled nodes n (Value.enum k) few leaf h = SpellsInt-number_bytes (pos k) (symbol_int n k few h)
plain_spelled nodes n (Value.fixed b) few leaf h = refl
