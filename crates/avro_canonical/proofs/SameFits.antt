-- Data that fit related nodes are the same, where what is related asks the same of a datum and has related parts.
use Rattle.std.proofs.Common.{◌≡◌, ℕ, zero, suc, Bool, ◌&&◌, List, [], ◌∷◌, Option, Some, None, refl, ◌∙◌, ap, length, slice_get, option_and_then, bytes_eq, nat_lt, ◌==◌}
use Rattle.std.specs.List.{list_all}
use Rattle.avro_schema.specs.Value.{Value, Values, Entries, no_values, value, no_entries, entry, values_count, entries_count, keys_of}
use Rattle.avro_schema.specs.Node.{Node, FieldNode, node_at, items_node, values_node, branches_of, fields_of, symbols_of, fixed_length, field_ids}
use Rattle.avro_schema.specs.Fits.{fits, each_fits, entries_fit, fields_fit, is_some_and, is_count, is_text, is_int, is_long, are_bytes, is_null_node, is_boolean_node, is_int_node, is_long_node, is_bytes_node, is_string_node}
use Rattle.avro_schema.specs.Distinct.{are_distinct}

-- two ids, or none
pub data BothAt (P : ℕ → ℕ → Type 0) : Option ℕ → Option ℕ → Type 0 where
  neither : BothAt P None None
  both : {p q : ℕ} → P p q → BothAt P (Some p) (Some q)

pub data Each (P : ℕ → ℕ → Type 0) : List ℕ → List ℕ → Type 0 where
  no_pairs : Each P [] []
  pairs : {p q : ℕ} {ps qs : List ℕ} → P p q → Each P ps qs → Each P (p ∷ ps) (q ∷ qs)

pub data EachAt {A : Type 0} (P : ℕ → ℕ → Type 0) (seen : A → List ℕ) : Option A → Option A → Type 0 where
  none_each : EachAt P seen None None
  each : {x y : A} → Each P (seen x) (seen y) → EachAt P seen (Some x) (Some y)

abbrev pub Asked : Type 0
Asked = Bool × Bool × Bool × Bool × Bool × Bool × Option (List (List ℕ)) × Option ℕ

-- what a node asks of a datum, except for its parts
abbrev pub asked_of : Node → Asked
asked_of n = (is_null_node n, is_boolean_node n, is_int_node n, is_long_node n, is_bytes_node n, is_string_node n, symbols_of n, fixed_length n)

-- Two nodes ask the same of a datum, except for its parts, and their parts are related.
pub record Matching (P : ℕ → ℕ → Type 0) (m n : Node) : Type 0 where
  pub same : asked_of m ≡ asked_of n
  pub items : BothAt P (items_node m) (items_node n)
  pub values : BothAt P (values_node m) (values_node n)
  pub branches : EachAt P (λ ps. ps) (branches_of m) (branches_of n)
  pub fields : EachAt P field_ids (fields_of m) (fields_of n)

pub by_both : {P : ℕ → ℕ → Type 0} {o u : Option ℕ} (f g : ℕ → Bool) → ((p q : ℕ) → P p q → f p ≡ g q) → BothAt P o u → is_some_and f o ≡ is_some_and g u
by_both f g same neither = refl
by_both f g same (both {p = p} {q = q} r) = same p q r

pub by_id : {P : ℕ → ℕ → Type 0} {ps qs : List ℕ} (f g : ℕ → Bool) → ((p q : ℕ) → P p q → f p ≡ g q) → (k : ℕ) → Each P ps qs
    → is_some_and f (slice_get ps k) ≡ is_some_and g (slice_get qs k)
by_id f g same k no_pairs = refl
by_id f g same zero (pairs {p = p} {q = q} r rs) = same p q r
by_id f g same (suc k) (pairs r rs) = by_id f g same k rs

pub by_branch : {P : ℕ → ℕ → Type 0} {o u : Option (List ℕ)} (f g : ℕ → Bool) → ((p q : ℕ) → P p q → f p ≡ g q) → (k : ℕ) → EachAt P (λ ps. ps) o u
    → is_some_and f (option_and_then (λ ps. slice_get ps k) o) ≡ is_some_and g (option_and_then (λ ps. slice_get ps k) u)
by_branch f g same k none_each = refl
by_branch f g same k (each rs) = by_id f g same k rs

pub by_fields : {P : ℕ → ℕ → Type 0} {o u : Option (List FieldNode)} (f g : List ℕ → Bool) → ((ps qs : List ℕ) → Each P ps qs → f ps ≡ g qs) → EachAt P field_ids o u
    → is_some_and (λ xs. f (field_ids xs)) o ≡ is_some_and (λ xs. g (field_ids xs)) u
by_fields f g same none_each = refl
by_fields f g same (each {x = x} {y = y} rs) = same (field_ids x) (field_ids y) rs

-- a relation of ids whose parts are related again
abbrev pub Closed : List Node → List Node → (ℕ → ℕ → Type 0) → Type 0
Closed a b P = (p q : ℕ) → P p q → Matching P (node_at a p) (node_at b q)

mutual
  pub same_fit : (a b : List Node) {P : ℕ → ℕ → Type 0} → Closed a b P → (v : Value) (p q : ℕ) → P p q → fits a (node_at a p) v ≡ fits b (node_at b q) v
  same_fit a b closed Value.null p q r = ap (λ (t : Asked). t.0) (closed p q r).same
  same_fit a b closed (Value.boolean truth) p q r = ap (λ (t : Asked). t.1) (closed p q r).same
  same_fit a b closed (Value.int i) p q r = ap (λ (t : Asked). t.2 && is_int i) (closed p q r).same
  same_fit a b closed (Value.long i) p q r = ap (λ (t : Asked). t.3 && is_long i) (closed p q r).same
  same_fit a b closed (Value.bytes content) p q r = ap (λ (t : Asked). t.4 && are_bytes content) (closed p q r).same
  same_fit a b closed (Value.string text) p q r = ap (λ (t : Asked). t.5 && is_text text) (closed p q r).same
  same_fit a b closed (Value.array vs) p q r =
      ap (λ t. is_count (values_count vs) && t)
      (by_both (λ id. each_fits a (node_at a id) vs) (λ id. each_fits b (node_at b id) vs) (λ x y s. same_each a b closed vs x y s) (closed p q r).items)
  same_fit a b closed (Value.map_of es) p q r =
      ap (λ t. is_count (entries_count es) && list_all is_text (keys_of es) && are_distinct bytes_eq (keys_of es) && t)
      (by_both (λ id. entries_fit a (node_at a id) es) (λ id. entries_fit b (node_at b id) es) (λ x y s. same_entries a b closed es x y s) (closed p q r).values)
  same_fit a b closed (Value.union k v) p q r =
      by_branch (λ id. fits a (node_at a id) v) (λ id. fits b (node_at b id) v) (λ x y s. same_fit a b closed v x y s) k (closed p q r).branches
  same_fit a b closed (Value.record_of vs) p q r =
      by_fields (λ ps. fields_fit a ps vs) (λ ps. fields_fit b ps vs) (λ xs ys s. same_fields a b closed vs xs ys s) (closed p q r).fields
  same_fit a b closed (Value.enum k) p q r = ap (λ (t : Asked). is_some_and (λ symbols. nat_lt k (length symbols)) t.6) (closed p q r).same
  same_fit a b closed (Value.fixed content) p q r = ap (λ (t : Asked). are_bytes content && is_some_and (λ count. length content == count) t.7) (closed p q r).same

  same_each : (a b : List Node) {P : ℕ → ℕ → Type 0} → Closed a b P → (vs : Values) (p q : ℕ) → P p q → each_fits a (node_at a p) vs ≡ each_fits b (node_at b q) vs
  same_each a b closed no_values p q r = refl
  same_each a b closed (value v vs) p q r =
      ap (λ t. t && each_fits a (node_at a p) vs) (same_fit a b closed v p q r) ∙ ap (λ t. fits b (node_at b q) v && t) (same_each a b closed vs p q r)

  same_entries : (a b : List Node) {P : ℕ → ℕ → Type 0} → Closed a b P → (es : Entries) (p q : ℕ) → P p q → entries_fit a (node_at a p) es ≡ entries_fit b (node_at b q) es
  same_entries a b closed no_entries p q r = refl
  same_entries a b closed (entry k v es) p q r =
      ap (λ t. t && entries_fit a (node_at a p) es) (same_fit a b closed v p q r) ∙ ap (λ t. fits b (node_at b q) v && t) (same_entries a b closed es p q r)

  same_fields : (a b : List Node) {P : ℕ → ℕ → Type 0} → Closed a b P → (vs : Values) (ps qs : List ℕ) → Each P ps qs → fields_fit a ps vs ≡ fields_fit b qs vs
  same_fields a b closed no_values ps qs no_pairs = refl
  same_fields a b closed no_values ps qs (pairs r rs) = refl
  same_fields a b closed (value v vs) ps qs no_pairs = refl
  same_fields a b closed (value v vs) _ _ (pairs {p = p} {q = q} {ps = ps} {qs = qs} r rs) =
      ap (λ t. t && fields_fit a ps vs) (same_fit a b closed v p q r) ∙ ap (λ t. fits b (node_at b q) v && t) (same_fields a b closed vs ps qs rs)
