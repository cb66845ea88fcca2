-- Which rows cover a text, and an object by how many members it has.
use Rattle.avro_schema_json.proofs.Words.{arith, ◌≡◌, ℕ, suc, true, false, ◌==◌, List, [], ◌∷◌, length, Option, Some, option_map, option_and_then, refl, sym, ap, subst, ◌∙◌, Less, AllByRecursion, string_cmp, false≢true, length-map, is_eq-slice_cmp, Node, node_at, Value, Data, Members, members_view, Entry, symbol_index, text_default, bytes_of_text, object_default, entries_default, default_under, member_keys, only_if, Numbered, place_of, Covers, kind_of, HasKind, AreKinds, AreNamesDistinct, has_place, Parents, symbols_of, HasSymbol, AreSymbols, Row}
use Rattle.std.specs.Prelude.{is_some, String, string_bytes, bytes_eq}
use Rattle.std.specs.declared.alloc.Global.{Global}
use Rattle.std.specs.List.{IsDistinct}
use Rattle.std.specs.List.Sorted.{IsStrictlySortedBy}
use Rattle.std.specs.Map.{keys_of}
use Rattle.std.specs.Ordering.{is_eq}
use Rattle.std.specs.BTreeMap.{BTreeMap}
use Rattle.avro_schema_json.proofs.CountsSeen.{names_of, as-many}
use Rattle.avro_schema_json.proofs.CoversSeen.{mapped, only}

-- a row has the places of a kind
abbrev pub HasAll : BTreeMap (ℕ × ℕ) Row → ℕ × ℕ → List ℕ → Type 0
HasAll rows kind row = (p : ℕ) → HasKind rows kind p → has_place row p ≡ true

-- ---- texts

-- a row of all nodes that a text is a default of
pub record IsTextRow (rows : BTreeMap (ℕ × ℕ) Row) (labels : Numbered) (parents : Parents)
    (last : ℕ) (text row : List ℕ) : Type 0 where
  pub string : HasAll rows (5, 0) row
  pub enums : (p : ℕ) → HasSymbol labels parents last p text → has_place row p ≡ true
  pub bytes : (b : List ℕ) → bytes_of_text text ≡ Some b → HasAll rows (4, 0) row
  pub fixeds : (b : List ℕ) → bytes_of_text text ≡ Some b → HasAll rows (11, length b) row

pub text-covered : (nodes : List Node) (last : ℕ) (rows : BTreeMap (ℕ × ℕ) Row) (labels : Numbered) (parents : Parents)
    (text row : List ℕ) → AreKinds nodes last rows → AreSymbols nodes last labels parents → IsTextRow rows labels parents last text row → Covers nodes last (Data.string text) row
text-covered nodes last rows labels parents text row kinds enums all m h = by (node_at nodes m) h (kinds m) (enums m text)
  where
    of_bytes : (o : Option (List ℕ)) → bytes_of_text text ≡ o → is_some (option_map Value.bytes o) ≡ true → HasAll rows (4, 0) row
    of_bytes o is h = grind arith

    of_count : (o : Option (List ℕ)) (count : ℕ) → bytes_of_text text ≡ o → is_some (option_and_then (λ b. only_if (length b == count) (Value.fixed b)) o) ≡ true
        → HasKind rows (11, count) (place_of last m) → has_place row (place_of last m) ≡ true
    of_count o count is h kind = grind (arith, only)

    by : (n : Node) → is_some (text_default text n) ≡ true → HasKind rows (kind_of n) (place_of last m)
        → (is_some (symbol_index text (symbols_of n)) ≡ true → HasSymbol labels parents last (place_of last m) text) → has_place row (place_of last m) ≡ true
    by n h kind symbol = grind (arith, mapped)

-- ---- objects

pub keys-count : (es : List Entry) → length (member_keys (members_view es)) ≡ length es
keys-count [] = refl
keys-count (e ∷ es) = ap suc (keys-count es)

apart : (k : String Global) (es : List Entry) → AllByRecursion (λ y. string_cmp k y ≡ Less) (keys_of es)
    → AllByRecursion (λ y. bytes_eq (string_bytes k) y ≡ false) (member_keys (members_view es))
apart k [] above = tt
apart k (e ∷ es) above = (sym (is_eq-slice_cmp (string_bytes k) (string_bytes e.0)) ∙ ap is_eq above.0, apart k es above.1)

pub keys-distinct : (es : List Entry) → IsStrictlySortedBy string_cmp (keys_of es) → IsDistinct bytes_eq (member_keys (members_view es))
unfolding IsStrictlySortedBy IsDistinct
keys-distinct [] ordered = tt
keys-distinct (e ∷ es) ordered = (apart e.0 es ordered.0, keys-distinct es ordered.1)

pub object-kind : (nodes : List Node) (last : ℕ) (rows : BTreeMap (ℕ × ℕ) Row) (ms : Members) (row : List ℕ) → AreKinds nodes last rows → AreNamesDistinct nodes
    → IsDistinct bytes_eq (member_keys ms) → HasAll rows (7, 0) row → HasAll rows (9, length (member_keys ms)) row → Covers nodes last (Data.object ms) row
object-kind nodes last rows ms row kinds distinct keys maps records m h = by (node_at nodes m) refl h (kinds m)
  where
    by : (n : Node) → node_at nodes m ≡ n
        → is_some (object_default nodes (λ x. entries_default nodes ms x) (λ k. default_under nodes k ms) (member_keys ms) n) ≡ true
        → HasKind rows (kind_of n) (place_of last m) → has_place row (place_of last m) ≡ true
    by (Node.map_of t) is h kind = maps (place_of last m) kind
    by (Node.record_of name aliases fields) is h kind =
        let names : IsDistinct bytes_eq (names_of fields) = rw is at (distinct m) in
        let same : length (names_of fields) ≡ length (member_keys ms) = as-many nodes ms fields names keys h in
        records (place_of last m) (subst (λ (k : ℕ). HasKind rows (9, k) (place_of last m)) (sym (length-map fields (λ f. f.name)) ∙ same) kind)
    by _ is h kind = absurd (false≢true h)
