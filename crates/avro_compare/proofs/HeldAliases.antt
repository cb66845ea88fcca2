-- The sets of types that have an alias, as a type is added.
use Rattle.std.proofs.Common.{◌≡◌, ◌∙◌, ℕ, ◌+◌, ◌<◌, ◌≤◌, Bool, true, false, ◌&&◌, ◌||◌, ◌==◌, cond, List, ◌∷◌, length, Option, Some, None, drop, refl, sym, ap, subst, arith, ⊎_elim}
use Rattle.std.specs.Prelude.{nat_eq, slice_index_or}
use Rattle.std.specs.List.{list_any}
use Rattle.std.specs.BTreeMap.{BTreeMap, get}
use Rattle.std.specs.Cmp.{both_tied, unsigned_ties}
use Rattle.std.specs.Ordering.{is_eq, nat_cmp}
use Rattle.std.proofs.lemmas.Bool.{and_parts, cases_eq, cases_lt, eqb-true, eq-eqb}
use Rattle.std.proofs.Math.ListN.{drop_of_length-le}
use Rattle.indexmap.specs.IndexSet.{IndexSet, contains}
use Rattle.avro_name.specs.Name.{Name}
use Rattle.avro_schema.specs.Node.{Node, node_at}
use Rattle.avro_schema.specs.Fits.{is_some_and}
use Rattle.avro_compare.specs.inside.NamedTypes.{named_type, aliases_of}
use Rattle.avro_compare.specs.inside.TypeNames.{NameKey, key_cmp, holds, HoldsAliases, has_alias, is_name, is_number, is_text}
use Rattle.avro_compare.proofs.public.Lists.{next_in}
use Rattle.avro_compare.proofs.Pairing.{node_past}

pub same_key : (a b : NameKey) → is_eq (key_cmp a b) ≡ (a.0 == b.0 && a.1 == b.1)
same_key a b = sym (both_tied (a.0 == b.0) (a.1 == b.1) (nat_cmp a.0 b.0) (nat_cmp a.1 b.1) (unsigned_ties a.0 b.0) (unsigned_ties a.1 b.1))

and_no : (c : Bool) → (c && false) ≡ false
and_no true = refl
and_no false = refl

-- ---- A type is added for the numbers of an alias

abbrev Sets : Type 0 → Type 0
Sets S = BTreeMap NameKey (IndexSet ℕ S)

module _ {S : Type 0} where
  -- what a key finds once a set is put for another
  put_at : (old : Sets S) (set : IndexSet ℕ S) (key k : NameKey) (id b : ℕ) (same : Bool) → (key.0 == k.0 && key.1 == k.1) ≡ same
      → contains nat_eq set b ≡ cond (nat_eq id b) true (holds old key b)
      → is_some_and (λ (s : IndexSet ℕ S). contains nat_eq s b) (cond same (Some set) (cond same None (get key_cmp old k))) ≡ ((id == b && same) || holds old k b)
  put_at old set key k id b true e more =
      let both = and_parts (key.0 == k.0) (key.1 == k.1) e in
      let here : key ≡ k = λ j. (eqb-true key.0 k.0 both.0 j, eqb-true key.1 k.1 both.1 j) in
      more ∙ ap (λ q. cond (nat_eq id b) true (holds old q b)) here ∙ either (id == b) (holds old k b)
    where
      either : (t o : Bool) → cond t true o ≡ ((t && true) || o)
      either true o = refl
      either false o = refl
  put_at old set key k id b false e more = sym (ap (λ c. c || holds old k b) (and_no (id == b)))

  pub put_id : (old mid new : Sets S) (set more : IndexSet ℕ S) (key : NameKey) (id : ℕ) → ((b : ℕ) → contains nat_eq set b ≡ holds old key b)
      → ((k : NameKey) → get key_cmp mid k ≡ cond (is_eq (key_cmp key k)) None (get key_cmp old k))
      → ((b : ℕ) → contains nat_eq more b ≡ cond (nat_eq id b) true (contains nat_eq set b))
      → ((k : NameKey) → get key_cmp new k ≡ cond (is_eq (key_cmp key k)) (Some more) (get key_cmp mid k))
      → (k : NameKey) (b : ℕ) → holds new k b ≡ ((id == b && (key.0 == k.0 && key.1 == k.1)) || holds old k b)
  put_id old mid new set more key id taken others added put k b =
      ap (is_some_and (λ (s : IndexSet ℕ S). contains nat_eq s b))
      (put k ∙ ap (cond (is_eq (key_cmp key k)) (Some more)) (others k) ∙ ap (λ c. cond c (Some more) (cond c None (get key_cmp old k))) (same_key key k))
      ∙ put_at old more key k id b (key.0 == k.0 && key.1 == k.1) refl (added b ∙ ap (cond (nat_eq id b) true) (taken b))

-- ---- A type is added for an alias

module _ (texts : List (List ℕ)) (name : Name) (key : NameKey) (id b : ℕ) (old : Bool) where
  pub not_simple : is_number key.0 None ≡ is_text texts key.0 name.simple → old ≡ ((id == b && is_name texts key name) || old)
  not_simple e = sym (ap (λ c. (id == b && (c && is_text texts key.1 name.namespace)) || old) (sym e) ∙ ap (λ c. c || old) (and_no (id == b)))

  pub not_space : is_number key.1 None ≡ is_text texts key.1 name.namespace → old ≡ ((id == b && is_name texts key name) || old)
  not_space e = sym (ap (λ c. (id == b && (is_text texts key.0 name.simple && c)) || old) (sym e) ∙ ap (λ c. (id == b && c) || old) (and_no (is_text texts key.0 name.simple)) ∙ ap (λ c. c || old) (and_no (id == b)))

  pub both_numbered : (simple space : ℕ) (new : Bool) → is_number key.0 (Some simple) ≡ is_text texts key.0 name.simple → is_number key.1 (Some space) ≡ is_text texts key.1 name.namespace
      → new ≡ ((id == b && (simple == key.0 && space == key.1)) || old) → new ≡ ((id == b && is_name texts key name) || old)
  both_numbered simple space new e f put = put ∙ ap (λ c. (id == b && (c && space == key.1)) || old) e ∙ ap (λ c. (id == b && (is_text texts key.0 name.simple && c)) || old) f

-- ---- A type is added for some aliases

or_more : (here first more : Bool) (before after old : Bool) → before ≡ ((here && more) || old) → after ≡ ((here && first) || before) → after ≡ ((here && (first || more)) || old)
or_more here first more before after old known put = put ∙ ap (λ o. (here && first) || o) known ∙ by here first
  where
    by : (here first : Bool) → ((here && first) || ((here && more) || old)) ≡ ((here && (first || more)) || old)
    by false first = refl
    by true true = refl
    by true false = refl

pub alias_next : (texts : List (List ℕ)) (aliases : List Name) (n : ℕ) (alias : Name) (key : NameKey) (here before after old : Bool) → n < length aliases → alias ≡ slice_index_or aliases n alias
    → before ≡ ((here && has_alias texts key (drop (n + 1) aliases)) || old) → after ≡ ((here && is_name texts key alias) || before)
    → after ≡ ((here && has_alias texts key (drop n aliases)) || old)
alias_next texts aliases n alias key here before after old low is known put =
    let split : drop n aliases ≡ alias ∷ drop (n + 1) aliases = next_in aliases n alias low ∙ ap (λ (a : Name). a ∷ drop (n + 1) aliases) (sym is) in
    or_more here (is_name texts key alias) (has_alias texts key (drop (n + 1) aliases)) before after old known put
    ∙ ap (λ (ns : List Name). (here && has_alias texts key ns) || old) (sym split)

pub alias_none : (texts : List (List ℕ)) (aliases : List Name) (n : ℕ) (key : NameKey) (here old : Bool) → length aliases ≤ n → old ≡ ((here && has_alias texts key (drop n aliases)) || old)
alias_none texts aliases n key here old high = sym (ap (λ (ns : List Name). (here && has_alias texts key ns) || old) (drop_of_length-le aliases high) ∙ ap (λ c. c || old) (and_no here))

pub no_aliases : (here old : Bool) → old ≡ ((here && false) || old)
no_aliases here old = sym (ap (λ c. c || old) (and_no here))

-- ---- A node is added

-- what the sets hold once this many nodes are added
abbrev pub HoldsUpTo : ℕ → (ℕ → Bool) → (ℕ → Bool) → Type 0
HoldsUpTo n at held = (b : ℕ) → ((b < n → held b ≡ at b) × (n ≤ b → held b ≡ false))

pub one_more : (n : ℕ) (at before after : ℕ → Bool) → HoldsUpTo n at before → ((b : ℕ) → after b ≡ ((n == b && at n) || before b)) → HoldsUpTo (n + 1) at after
one_more n at before after h put b = by (n == b) refl
  where
    held : (here : Bool) → (n == b) ≡ here → after b ≡ ((here && at n) || before b)
    held here e = put b ∙ ap (λ c. (c && at n) || before b) e

    or_no : (c : Bool) → (c || false) ≡ c
    or_no true = refl
    or_no false = refl

    by : (here : Bool) → (n == b) ≡ here → ((b < n + 1 → after b ≡ at b) × (n + 1 ≤ b → after b ≡ false))
    by true e =
        let same : n ≡ b = eqb-true n b e in (
          λ low. held true e ∙ ap (λ c. at n || c) ((h b).1 (omega (arith, same))) ∙ or_no (at n) ∙ ap at same,
          λ high. absurd (omega (arith, high, same)),
        )
    by false e =
        let other : n ≡ b → ⊥ = λ same. apart (sym (eq-eqb n b same) ∙ e) in (
          λ low. held false e ∙ (h b).0 (⊎_elim (λ less. less) (λ more. absurd (other (omega (arith, low, more)))) (cases_lt b n)),
          λ high. held false e ∙ (h b).1 (omega (arith, high)),
        )
      where
        apart : true ≡ false → ⊥
        apart f = cc

pub none_held : {S : Type 0} (texts : List (List ℕ)) (reader : List Node) (key : NameKey) (sets : BTreeMap NameKey (IndexSet ℕ S)) → get key_cmp sets key ≡ None
    → HoldsUpTo 0 (λ b. has_alias texts key (aliases_of (named_type (node_at reader b)))) (holds sets key)
none_held {S = S} texts reader key sets none b = (λ low. absurd (omega (arith, low)), λ high. ap (is_some_and (λ (s : IndexSet ℕ S). contains nat_eq s b)) none)

pub all_held : {S : Type 0} (texts : List (List ℕ)) (reader : List Node) (key : NameKey) (sets : BTreeMap NameKey (IndexSet ℕ S)) (n : ℕ) → length reader ≤ n
    → HoldsUpTo n (λ b. has_alias texts key (aliases_of (named_type (node_at reader b)))) (holds sets key) → (b : ℕ) → holds sets key b ≡ has_alias texts key (aliases_of (named_type (node_at reader b)))
all_held texts reader key sets n all h b =
    ⊎_elim
    (λ low. (h b).0 low)
    (λ high. (h b).1 high ∙ sym (ap (λ (m : Node). has_alias texts key (aliases_of (named_type m))) (node_past reader b (λ low. omega (low, high, all, arith)))))
    (cases_lt b n)
