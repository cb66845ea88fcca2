-- Runs of items and of entries: one item is a run, and runs join.
use Rattle.std.proofs.Common.{◌≡◌, ℕ, suc, ◌+◌, ◌-◌, ◌≤◌, true, List, [], ◌∷◌, ◌++◌, length, refl, sym, ap, ◌∙◌, subst, append_assoc, append-nil, arith}
use Rattle.std.specs.Prelude.{bytes_eq}
use Rattle.std.specs.List.{concat, list_all}
use Rattle.std.proofs.lemmas.Bool.{and_parts, and_from}
use Rattle.std.proofs.lemmas.List.Folds.{list_all-append}
use Rattle.avro_schema.specs.Value.{Value, values_size, values_depth, values_longest_blob, values_count, entries_size, entries_depth, entries_longest_blob, entries_count, keys_of}
use Rattle.avro_schema.specs.Node.{Node, node_at}
use Rattle.avro_schema.specs.Fits.{fits, each_fits, entries_fit, fields_fit, is_text, LimitValues}
use Rattle.avro_schema.specs.Seen.{values_from, entries_from}
use Rattle.avro_schema.specs.Distinct.{are_distinct}
use Rattle.avro_schema.proofs.public.Parts.{size-positive}
use Rattle.avro_cursor.specs.Encoding.{EachSpelled, EntriesSpelled}
use Rattle.avro_cursor.specs.Fault.{ReadFault}
use Rattle.avro_cursor.specs.Breaks.{Left, ItemsAreWhole, EntriesAreWhole}
use Rattle.avro_binary.specs.CursorReads.{ValuesRun, EntriesRun, value_breaks, entry_breaks}

-- ---- Values

pub values_size-append : (vs ws : List Value) → values_size (values_from (vs ++ ws)) ≡ values_size (values_from vs) + values_size (values_from ws)
values_size-append [] ws = omega arith
values_size-append (v ∷ vs) ws = omega (arith, values_size-append vs ws)

pub values_depth-append : (vs ws : List Value) (d : ℕ) → values_depth (values_from vs) ≤ d → values_depth (values_from ws) ≤ d → values_depth (values_from (vs ++ ws)) ≤ d
values_depth-append [] ws d h k = k
values_depth-append (v ∷ vs) ws d h k = let rest = values_depth-append vs ws d (omega arith) k in omega arith

pub values_blob-append : (vs ws : List Value) (b : ℕ) → values_longest_blob (values_from vs) ≤ b → values_longest_blob (values_from ws) ≤ b → values_longest_blob (values_from (vs ++ ws)) ≤ b
values_blob-append [] ws b h k = k
values_blob-append (v ∷ vs) ws b h k = let rest = values_blob-append vs ws b (omega arith) k in omega arith

pub values_count-from : (vs : List Value) → values_count (values_from vs) ≡ length vs
values_count-from [] = refl
values_count-from (v ∷ vs) = ap suc (values_count-from vs)

pub values_size-count : (vs : List Value) → length vs ≤ values_size (values_from vs)
values_size-count [] = omega arith
values_size-count (v ∷ vs) = omega (arith, size-positive v, values_size-count vs)

pub each_fits-append : (nodes : List Node) (n : Node) (vs ws : List Value) → each_fits nodes n (values_from vs) ≡ true → each_fits nodes n (values_from ws) ≡ true
    → each_fits nodes n (values_from (vs ++ ws)) ≡ true
each_fits-append nodes n [] ws h k = k
each_fits-append nodes n (v ∷ vs) ws h k =
    let parts = and_parts (fits nodes n v) (each_fits nodes n (values_from vs)) h in
    and_from (fits nodes n v) (each_fits nodes n (values_from (vs ++ ws))) parts.0 (each_fits-append nodes n vs ws parts.1 k)

pub EachSpelled-append : (vs ws : List Value) (items more : List (List ℕ)) → EachSpelled (values_from vs) items → EachSpelled (values_from ws) more
    → EachSpelled (values_from (vs ++ ws)) (items ++ more)
EachSpelled-append [] ws items more s t = subst (λ (is : List (List ℕ)). EachSpelled (values_from ws) (is ++ more)) (sym s) t
EachSpelled-append (v ∷ vs) ws items more s t =
    (s.0, s.1 ++ more, s.2, EachSpelled-append vs ws s.1 more s.3 t, ap (λ (is : List (List ℕ)). is ++ more) s.4)

-- values of fields, and the value of the next field
pub fields_fit-push : (nodes : List Node) (ids : List ℕ) (vs : List Value) (id : ℕ) (v : Value) → fields_fit nodes ids (values_from vs) ≡ true
    → fits nodes (node_at nodes id) v ≡ true → fields_fit nodes (ids ++ id ∷ []) (values_from (vs ++ v ∷ [])) ≡ true
fields_fit-push nodes [] [] id v h k = and_from (fits nodes (node_at nodes id) v) true k refl
fields_fit-push nodes [] (w ∷ vs) id v h k = absurd cc
fields_fit-push nodes (p ∷ ids) [] id v h k = absurd cc
fields_fit-push nodes (p ∷ ids) (w ∷ vs) id v h k =
    let parts = and_parts (fits nodes (node_at nodes p) w) (fields_fit nodes ids (values_from vs)) h in
    and_from (fits nodes (node_at nodes p) w) (fields_fit nodes (ids ++ id ∷ []) (values_from (vs ++ v ∷ []))) parts.0 (fields_fit-push nodes ids vs id v parts.1 k)

-- ---- Entries

pub entries_size-append : (vs ws : List (List ℕ × Value)) → entries_size (entries_from (vs ++ ws)) ≡ entries_size (entries_from vs) + entries_size (entries_from ws)
entries_size-append [] ws = omega arith
entries_size-append (v ∷ vs) ws = omega (arith, entries_size-append vs ws)

pub entries_depth-append : (vs ws : List (List ℕ × Value)) (d : ℕ) → entries_depth (entries_from vs) ≤ d → entries_depth (entries_from ws) ≤ d → entries_depth (entries_from (vs ++ ws)) ≤ d
entries_depth-append [] ws d h k = k
entries_depth-append (v ∷ vs) ws d h k = let rest = entries_depth-append vs ws d (omega arith) k in omega arith

pub entries_blob-append : (vs ws : List (List ℕ × Value)) (b : ℕ) → entries_longest_blob (entries_from vs) ≤ b → entries_longest_blob (entries_from ws) ≤ b
    → entries_longest_blob (entries_from (vs ++ ws)) ≤ b
entries_blob-append [] ws b h k = k
entries_blob-append (v ∷ vs) ws b h k = let rest = entries_blob-append vs ws b (omega arith) k in omega arith

pub entries_count-from : (vs : List (List ℕ × Value)) → entries_count (entries_from vs) ≡ length vs
entries_count-from [] = refl
entries_count-from (v ∷ vs) = ap suc (entries_count-from vs)

pub entries_size-count : (vs : List (List ℕ × Value)) → length vs ≤ entries_size (entries_from vs)
entries_size-count [] = omega arith
entries_size-count (v ∷ vs) = omega (arith, size-positive v.1, entries_size-count vs)

pub entries_fit-append : (nodes : List Node) (n : Node) (vs ws : List (List ℕ × Value)) → entries_fit nodes n (entries_from vs) ≡ true → entries_fit nodes n (entries_from ws) ≡ true
    → entries_fit nodes n (entries_from (vs ++ ws)) ≡ true
entries_fit-append nodes n [] ws h k = k
entries_fit-append nodes n (v ∷ vs) ws h k =
    let parts = and_parts (fits nodes n v.1) (entries_fit nodes n (entries_from vs)) h in
    and_from (fits nodes n v.1) (entries_fit nodes n (entries_from (vs ++ ws))) parts.0 (entries_fit-append nodes n vs ws parts.1 k)

pub EntriesSpelled-append : (vs ws : List (List ℕ × Value)) (items more : List (List ℕ)) → EntriesSpelled (entries_from vs) items → EntriesSpelled (entries_from ws) more
    → EntriesSpelled (entries_from (vs ++ ws)) (items ++ more)
EntriesSpelled-append [] ws items more s t = subst (λ (is : List (List ℕ)). EntriesSpelled (entries_from ws) (is ++ more)) (sym s) t
EntriesSpelled-append (v ∷ vs) ws items more s t =
    (s.0, s.1, s.2 ++ more, s.3, s.4, EntriesSpelled-append vs ws s.2 more s.5 t, ap (λ (is : List (List ℕ)). is ++ more) s.6)

pub keys_of-append : (vs ws : List (List ℕ × Value)) → keys_of (entries_from (vs ++ ws)) ≡ keys_of (entries_from vs) ++ keys_of (entries_from ws)
keys_of-append [] ws = refl
keys_of-append (v ∷ vs) ws = ap (λ (ks : List (List ℕ)). v.0 ∷ ks) (keys_of-append vs ws)

-- ---- Runs

-- What a run says of its items: none is a run, runs join, and a run is whole.
pub record IsRun {E : Type 0} (run : Left → List E → List (List ℕ) → Left → Type 0) (are_whole : Left → ℕ → List ℕ → Left → Type 0) (ready : Left → Type 0) : Type 0 where
  pub none : (left : Left) → ready left → run left [] [] left
  pub joins : (a b c : Left) (xs ys : List E) (items more : List (List ℕ)) → run a xs items b → run b ys more c → run a (xs ++ ys) (items ++ more) c
  pub whole : (left then_left : Left) (xs : List E) (items : List (List ℕ)) → run left xs items then_left → are_whole left (length xs) (concat items) then_left
  pub counted : (left then_left : Left) (xs : List E) (items : List (List ℕ)) → run left xs items then_left → length items ≡ length xs
  pub few : (left then_left : Left) (xs : List E) (items : List (List ℕ)) → run left xs items then_left → then_left.nodes + length xs ≤ left.nodes
  pub prepared : (left then_left : Left) (xs : List E) (items : List (List ℕ)) → run left xs items then_left → ready then_left

module _ (nodes : List Node) (limits : LimitValues) (n : Node) where
  values-counted : (vs : List Value) (items : List (List ℕ)) → EachSpelled (values_from vs) items → length items ≡ length vs
  values-counted [] items s = ap length s
  values-counted (v ∷ vs) items s = ap length s.4 ∙ ap suc (values-counted vs s.1 s.3)

  entries-counted : (es : List (List ℕ × Value)) (items : List (List ℕ)) → EntriesSpelled (entries_from es) items → length items ≡ length es
  entries-counted [] items s = ap length s
  entries-counted (e ∷ es) items s = ap length s.6 ∙ ap suc (entries-counted es s.2 s.5)

  pub values_run : IsRun (ValuesRun nodes limits n) (ItemsAreWhole nodes limits n) (λ left. Unit {0})
  values_run = record {
    none = λ left ready. record { fitting = refl; spelled = refl; deep = omega arith; many = omega arith; long = omega arith; keys = refl };
    joins = λ a b c xs ys items more r s. record {
      fitting = each_fits-append nodes n xs ys r.fitting s.fitting;
      spelled = EachSpelled-append xs ys items more r.spelled s.spelled;
      deep = values_depth-append xs ys limits.depth r.deep s.deep;
      many = let p = r.many in let q = s.many in omega (arith, values_size-append xs ys);
      long = values_blob-append xs ys limits.blob r.long s.long;
      keys = s.keys ∙ r.keys;
    };
    whole = λ left then_left xs items r. let p = r.many in let fewer : then_left.nodes ≡ left.nodes - values_size (values_from xs) = omega arith in record {
      values = values_from xs;
      items = items;
      counted = values_count-from xs;
      fitting = r.fitting;
      spelled = r.spelled;
      bytes_are = refl;
      deep = r.deep;
      many = omega arith;
      long = r.long;
      leaves = λ i. record { nodes = fewer i; keys = r.keys i };
    };
    counted = λ left then_left xs items r. values-counted xs items r.spelled;
    few = λ left then_left xs items r. let p = r.many in omega (arith, values_size-count xs);
    prepared = λ left then_left xs items r. tt;
  }

  pub entries_run : IsRun (EntriesRun nodes limits n) (EntriesAreWhole nodes limits n) (λ left. are_distinct bytes_eq left.keys ≡ true)
  entries_run = record {
    none = λ left ready. record {
      texts = refl;
      distinct = ready;
      fitting = refl;
      spelled = refl;
      deep = omega arith;
      many = omega arith;
      long = omega arith;
      keys = sym (append-nil left.keys);
    };
    joins = λ a b c xs ys items more r s. record {
      texts = ap (list_all is_text) (keys_of-append xs ys) ∙ list_all-append is_text (keys_of (entries_from xs)) (keys_of (entries_from ys))
          ∙ and_from (list_all is_text (keys_of (entries_from xs))) (list_all is_text (keys_of (entries_from ys))) r.texts s.texts;
      distinct = s.distinct;
      fitting = entries_fit-append nodes n xs ys r.fitting s.fitting;
      spelled = EntriesSpelled-append xs ys items more r.spelled s.spelled;
      deep = entries_depth-append xs ys limits.depth r.deep s.deep;
      many = let p = r.many in let q = s.many in omega (arith, entries_size-append xs ys);
      long = entries_blob-append xs ys limits.blob r.long s.long;
      keys = s.keys ∙ ap (λ (ks : List (List ℕ)). ks ++ keys_of (entries_from ys)) r.keys ∙ append_assoc a.keys (keys_of (entries_from xs)) (keys_of (entries_from ys))
          ∙ ap (λ (ks : List (List ℕ)). a.keys ++ ks) (sym (keys_of-append xs ys));
    };
    whole = λ left then_left xs items r. let p = r.many in let fewer : then_left.nodes ≡ left.nodes - entries_size (entries_from xs) = omega arith in record {
      entries = entries_from xs;
      items = items;
      counted = entries_count-from xs;
      texts = r.texts;
      distinct = ap (are_distinct bytes_eq) (sym r.keys) ∙ r.distinct;
      fitting = r.fitting;
      spelled = r.spelled;
      bytes_are = refl;
      deep = r.deep;
      many = omega arith;
      long = r.long;
      leaves = λ i. record { nodes = fewer i; keys = r.keys i };
    };
    counted = λ left then_left xs items r. entries-counted xs items r.spelled;
    few = λ left then_left xs items r. let p = r.many in omega (arith, entries_size-count xs);
    prepared = λ left then_left xs items r. r.distinct;
  }

-- ---- Kinds

-- what blocks hold: how it runs and is whole, what a run needs, and how one of it breaks
pub record Kind (E : Type 0) : Type 1 where
  pub run : Left → List E → List (List ℕ) → Left → Type 0
  pub are_whole : Left → ℕ → List ℕ → Left → Type 0
  pub ready : Left → Type 0
  pub item_breaks : Left → List ℕ → ReadFault → Type 0
  pub laws : IsRun run are_whole ready

abbrev pub values_kind : List Node → LimitValues → Node → Kind Value
values_kind nodes limits n = record {
  run = ValuesRun nodes limits n;
  are_whole = ItemsAreWhole nodes limits n;
  ready = λ left. Unit {0};
  item_breaks = value_breaks nodes limits n;
  laws = values_run nodes limits n;
}

abbrev pub entries_kind : List Node → LimitValues → Node → Kind (List ℕ × Value)
entries_kind nodes limits n = record {
  run = EntriesRun nodes limits n;
  are_whole = EntriesAreWhole nodes limits n;
  ready = λ left. are_distinct bytes_eq left.keys ≡ true;
  item_breaks = entry_breaks nodes limits n;
  laws = entries_run nodes limits n;
}
