-- Texts by number.
use Rattle.std.proofs.Common.{◌≡◌, ◌↔◌, ◌∙◌, ℕ, Bool, true, false, ◌&&◌, ◌||◌, List, [], ◌∷◌, Option, Some, None, refl, sym, ap}
use Rattle.std.specs.Prelude.{bytes_eq, option_copied, slice_get}
use Rattle.std.specs.Option.{IfSome}
use denote.Ref.{Bor}
use Rattle.std.specs.List.{list_any}
use Rattle.std.specs.Cmp.{both_ways}
use Rattle.std.proofs.lemmas.Bool.{eqb-true, eq-eqb}
use Rattle.std.proofs.lemmas.Slice.Eq.{bytes_eq-Decides}
use Rattle.avro_name.specs.Name.{Name, same_name}
use Rattle.avro_schema.specs.Fits.{is_some_and}
use Rattle.avro_texts.specs.Texts.{KeepsNumbers}
use Rattle.avro_compare.specs.inside.NamedTypes.{NamedType, aliases_of, types_alike}
use Rattle.avro_compare.specs.inside.TypeNames.{NameKey, IsFull, IsNamed, IsSimple, is_number, is_text, is_name, has_alias, has_own}

never : false ≡ true → ⊥
never e = cc

is_here : (k : ℕ) (o : Option ℕ) → is_number k o ≡ true → o ≡ Some k
is_here k None h = absurd (never h)
is_here k (Some j) h = ap (λ (n : ℕ). Some n) (eqb-true j k h)

is_there : (o : Option (List ℕ)) (t : List ℕ) → is_some_and (λ u. bytes_eq u t) o ≡ true → o ≡ Some t
is_there None t h = absurd (never h)
is_there (Some u) t h = ap (λ (v : List ℕ). Some v) ((bytes_eq-Decides u t).0 h)

-- the number that a look-up returns is that of the text
pub number_is : (texts : List (List ℕ)) (text : List ℕ) (o : Option ℕ) → ((i : ℕ) → (o ≡ Some i) ↔ (slice_get texts i ≡ Some text)) → (i : ℕ) → is_number i o ≡ is_text texts i text
number_is texts text o h i =
    both_ways (is_number i o) (is_text texts i text)
    (λ yes. ap (is_some_and (λ u. bytes_eq u text)) ((h i).0 (is_here i o yes)) ∙ (bytes_eq-Decides text text).1 refl)
    (λ yes. ap (is_number i) ((h i).1 (is_there (slice_get texts i) text yes)) ∙ eq-eqb i i refl)

-- a text that has this number is another one just where it is the same
pub same_text : (texts : List (List ℕ)) (i : ℕ) (a b : List ℕ) → slice_get texts i ≡ Some a → is_text texts i b ≡ bytes_eq a b
same_text texts i a b at = ap (is_some_and (λ u. bytes_eq u b)) at

module _ (texts : List (List ℕ)) (key : NameKey) (name : Name) (simple : slice_get texts key.0 ≡ Some name.simple) (space : slice_get texts key.1 ≡ Some name.namespace) where
  is_same : (other : Name) → is_name texts key other ≡ same_name name other
  is_same other =
      ap (λ same. same && is_text texts key.1 other.namespace) (same_text texts key.0 name.simple other.simple simple)
      ∙ ap (λ same. bytes_eq name.simple other.simple && same) (same_text texts key.1 name.namespace other.namespace space)

  -- a name is one of some aliases by number just where it is by text
  pub same_alias : (names : List Name) → has_alias texts key names ≡ list_any (same_name name) names
  same_alias [] = refl
  same_alias (n ∷ names) = ap (λ same. same || has_alias texts key names) (is_same n) ∙ ap (λ any. same_name name n || any) (same_alias names)

-- the numbers of a type stay as texts are added
pub full_kept : (old new : List (List ℕ)) → KeepsNumbers old new → (t : Option NamedType) (found : Option NameKey) → IsFull old t found → IsFull new t found
full_kept old new kept t None h = tt
full_kept old new kept t (Some key) h = record { type = h.type; is = h.is; simple = kept key.0 _ h.simple; space = kept key.1 _ h.space }

-- a type is named alike where its simple name or one of its aliases has the numbers
pub alike_is : (texts : List (List ℕ)) (w u : Option NamedType) (full : NameKey) → IsNamed texts w full → (simple : Option ℕ) → IsSimple texts u simple → (held : Bool) → held ≡ has_alias texts full (aliases_of u)
    → (is_number full.0 simple || held) ≡ types_alike w u
alike_is texts w u full named simple is held held_is =
    ap (λ c. c || held) (is full.0) ∙ ap (λ c. has_own texts full.0 u || c) (held_is ∙ same_alias texts full named.type.name named.simple named.space (aliases_of u))
    ∙ by u ∙ ap (λ (o : Option NamedType). types_alike o u) (sym named.is)
  where
    by : (u : Option NamedType) → (has_own texts full.0 u || list_any (same_name named.type.name) (aliases_of u)) ≡ types_alike (Some named.type) u
    by None = refl
    by (Some t) = ap (λ c. c || list_any (same_name named.type.name) t.aliases) (same_text texts full.0 named.type.name.simple t.name.simple named.simple)

-- what holds of a value, if there is one, holds of a reference to it
pub borrowed : {T : Type 0} (P : T → Type 0) (o : Option (Bor T)) → IfSome (option_copied o) P → IfSome o (λ n. P n.now)
borrowed P None h = tt
borrowed P (Some n) h = h
