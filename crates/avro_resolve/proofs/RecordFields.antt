-- Each field of a reader's record gets a value that fits it: that of its source, or its default.
use Rattle.std.proofs.Common.{◌≡◌, ℕ, zero, suc, ◌<◌, ◌≤◌, Bool, true, false, cond, ◌||◌, List, [], ◌∷◌, length, drop, Option, Some, None, Result, refl, sym, subst, ⊎_elim, arith}
use Rattle.std.specs.Prelude.{IfOk, is_some, slice_get, unwrap_or, bytes_eq, ◌==◌}
use Rattle.std.specs.List.{list_all, flat_map}
use Rattle.std.proofs.lemmas.Bool.{and_parts, and_from, cond-true, cond-false, eq-eqb, ne_eqb, cases_eq}
use Rattle.std.proofs.lemmas.Result.{IfOk-weaker}
use Rattle.avro_schema.specs.Value.{Value}
use Rattle.avro_schema.specs.Node.{Node, FieldNode, node_at, field_ids}
use Rattle.avro_schema.specs.Distinct.{are_distinct}
use Rattle.avro_schema.specs.Fits.{fits, fields_fit}
use Rattle.avro_schema.specs.WellFormed.{field_names, has_good_default, are_fields}
use Rattle.avro_compare.specs.Source.{source_of, reader_field, missing_field, missing_field_from}
use Rattle.avro_compare.specs.Fault.{ResolutionFault}
use Rattle.avro_compare.specs.Resolve.{Resolved, Sourced, inside, with_sourced, sourced_at, field_value, field_values}
use Rattle.avro_compare.specs.Fields.{IsField, here, later}
use Rattle.avro_compare.proofs.public.Sources.{first_index-named, reader_field-source}
use Rattle.avro_resolve.proofs.Outcomes.{IfOk-inside, IfOk-both}
use Rattle.avro_resolve.proofs.AtMatch.{FitsAt}

-- where a writer's index in a range is some reader's source, what is found there fits that reader's field
abbrev pub AreSourced : List Node → List FieldNode → List FieldNode → ℕ → ℕ → Sourced → Type 0
AreSourced reader ws rs from to found =
    (k : ℕ) (f : FieldNode) → from ≤ k → k < to → reader_field ws rs k ≡ Some f → FitsAt reader (node_at reader f.node) (sourced_at found k)

-- the index before, which is no reader's source
sourced-none : (reader : List Node) (ws rs : List FieldNode) (index to : ℕ) (found : Sourced) → reader_field ws rs index ≡ None
    → AreSourced reader ws rs (suc index) to found → AreSourced reader ws rs index to found
sourced-none reader ws rs index to found none more k f low high is =
    ⊎_elim
    (λ e. absurd (apart k e is))
    (λ ne. more k f (omega arith) high is)
    (cases_eq index k)
  where
    apart : (j : ℕ) → index ≡ j → reader_field ws rs j ≡ Some f → ⊥
    apart j e some = let here-none : reader_field ws rs j ≡ None = subst (λ (i : ℕ). reader_field ws rs i ≡ None) e none in cc

-- the index before, which is the source of a reader's field
sourced-some : (reader : List Node) (ws rs : List FieldNode) (index to : ℕ) (found : Sourced) (g : FieldNode) (v : Value) → reader_field ws rs index ≡ Some g
    → FitsAt reader (node_at reader g.node) v → AreSourced reader ws rs (suc index) to found → AreSourced reader ws rs index to ((index, v) ∷ found)
sourced-some reader ws rs index to found g v some fit more k f low high is =
    ⊎_elim
    (λ e. first e)
    (λ ne. subst (λ (u : Value). FitsAt reader (node_at reader f.node) u) (sym (cond-false (index == k) v (sourced_at found k) (ne_eqb index k ne))) (more k f (omega arith) high is))
    (cases_eq index k)
  where
    same_field : index ≡ k → g ≡ f
    same_field e = let at-k : reader_field ws rs k ≡ Some g = subst (λ (i : ℕ). reader_field ws rs i ≡ Some g) e some in cc

    first : index ≡ k → FitsAt reader (node_at reader f.node) (cond (index == k) v (sourced_at found k))
    first e =
        subst (λ (u : Value). FitsAt reader (node_at reader f.node) u) (sym (cond-true (index == k) v (sourced_at found k) (eq-eqb index k e)))
        (subst (λ (h : FieldNode). FitsAt reader (node_at reader h.node) v) (same_field e) fit)

-- one step over the writer's fields
pub with_sourced-fits : (reader : List Node) (ws rs : List FieldNode) (index to : ℕ) (found : Option FieldNode) (resolve : FieldNode → Resolved)
    (others : Result Sourced ResolutionFault) → reader_field ws rs index ≡ found
    → ((f : FieldNode) → IfOk (resolve f) (FitsAt reader (node_at reader f.node))) → IfOk others (AreSourced reader ws rs (suc index) to)
    → IfOk (with_sourced found index resolve others) (AreSourced reader ws rs index to)
with_sourced-fits reader ws rs index to None resolve others e each more =
    IfOk-weaker others (AreSourced reader ws rs (suc index) to) (AreSourced reader ws rs index to) (λ found h. sourced-none reader ws rs index to found e h) more
with_sourced-fits reader ws rs index to (Some g) resolve others e each more =
    IfOk-both (FitsAt reader (node_at reader g.node)) (AreSourced reader ws rs (suc index) to) (AreSourced reader ws rs index to)
    (λ v found. (index, v) ∷ found) (inside index (resolve g)) others
    (IfOk-inside (FitsAt reader (node_at reader g.node)) index (resolve g) (each g)) more
    (λ v found fit rest. sourced-some reader ws rs index to found g v e fit rest)

-- the first of what is left of some ids, and what is left after it
pub id_at : (ids : List ℕ) (i p : ℕ) (ps : List ℕ) → drop i ids ≡ p ∷ ps → (unwrap_or (slice_get ids i) 0 ≡ p) × (drop (suc i) ids ≡ ps)
id_at [] zero p ps e = absurd (cc)
id_at [] (suc i) p ps e = absurd (cc)
id_at (q ∷ ids) zero p ps e = (cc, cc)
id_at (q ∷ ids) (suc i) p ps e = id_at ids i p ps e

-- each reader's field has a source or a default, where none is missing
present : (index : ℕ) (ws rs : List FieldNode) (g : FieldNode) → missing_field_from index ws rs ≡ None → IsField g rs → (is_some (source_of ws g) || is_some g.default) ≡ true
present index ws rs g e (here {fs = fs}) = present_first (is_some (source_of ws g) || is_some g.default) (missing_field_from (suc index) ws fs) e
  where
    present_first : (test : Bool) (rest : Option ℕ) → cond test rest (Some index) ≡ None → test ≡ true
    present_first true rest is = refl
    present_first false rest is = absurd (cc)
present index ws rs g e (later {g = f} {fs = fs} is) = present (suc index) ws fs g (present_later (is_some (source_of ws f) || is_some f.default) (missing_field_from (suc index) ws fs) e) is
  where
    present_later : (test : Bool) (rest : Option ℕ) → cond test rest (Some index) ≡ None → rest ≡ None
    present_later true rest none = none
    present_later false rest none = absurd (cc)

-- each default fits
default-good : (reader : List Node) (rs : List FieldNode) (g : FieldNode) → list_all (has_good_default reader) rs ≡ true → IsField g rs → has_good_default reader g ≡ true
default-good reader rs g h (here {fs = fs}) = (and_parts (has_good_default reader g) (list_all (has_good_default reader) fs) h).0
default-good reader rs g h (later {g = f} {fs = fs} is) = default-good reader fs g (and_parts (has_good_default reader f) (list_all (has_good_default reader) fs) h).1 is

-- what a field takes
value-found : (reader : List Node) (ws rs : List FieldNode) (found : Sourced) (g : FieldNode) (k : ℕ) → IsField g rs
    → are_distinct bytes_eq (flat_map field_names rs) ≡ true → AreSourced reader ws rs 0 (length ws) found → source_of ws g ≡ Some k
    → FitsAt reader (node_at reader g.node) (sourced_at found k)
value-found reader ws rs found g k is distinct all e =
    let reads = reader_field-source ws rs k g is distinct e in
    let named = first_index-named ws g (field_names g) k e in
    subst (λ (id : ℕ). FitsAt reader (node_at reader id) (sourced_at found k)) reads.2 (all k reads.0 (omega arith) named.0 reads.1)

value-default : (reader : List Node) (g : FieldNode) → has_good_default reader g ≡ true → is_some g.default ≡ true
    → FitsAt reader (node_at reader g.node) (unwrap_or g.default Value.null)
value-default reader g good there = from_default g.default refl
  where
    from_default : (default : Option Value) → g.default ≡ default → FitsAt reader (node_at reader g.node) (unwrap_or default Value.null)
    from_default None e = absurd (cc)
    from_default (Some v) e = rw e at good

value-fits : (reader : List Node) (ws rs : List FieldNode) (found : Sourced) (g : FieldNode) → missing_field ws rs ≡ None → are_fields reader rs ≡ true
    → AreSourced reader ws rs 0 (length ws) found → IsField g rs → FitsAt reader (node_at reader g.node) (field_value ws found g)
value-fits reader ws rs found g none good all is = by_source (source_of ws g) refl
  where
    distinct : are_distinct bytes_eq (flat_map field_names rs) ≡ true
    distinct = grind arith

    defaults : list_all (has_good_default reader) rs ≡ true
    defaults = grind arith

    by_source : (source : Option ℕ) → source_of ws g ≡ source → FitsAt reader (node_at reader g.node) (field_value ws found g)
    by_source None e =
        let there : (is_some (source_of ws g) || is_some g.default) ≡ true = present 0 ws rs g none is in
        rw e (value-default reader g (default-good reader rs g defaults is) (rw e at there))
    by_source (Some k) e = rw e (value-found reader ws rs found g k is distinct all e)

values-fit : (reader : List Node) (ws : List FieldNode) (found : Sourced) (gs : List FieldNode)
    → ((g : FieldNode) → IsField g gs → FitsAt reader (node_at reader g.node) (field_value ws found g))
    → fields_fit reader (field_ids gs) (field_values ws found gs) ≡ true
values-fit reader ws found [] each = refl
values-fit reader ws found (g ∷ gs) each =
    and_from (fits reader (node_at reader g.node) (field_value ws found g)) (fields_fit reader (field_ids gs) (field_values ws found gs))
    (each g here) (values-fit reader ws found gs (λ f is. each f (later is)))

-- the reader's fields fit, where the writer's indices are sourced
pub field_values-fit : (reader : List Node) (ws rs : List FieldNode) (found : Sourced) → missing_field ws rs ≡ None → are_fields reader rs ≡ true
    → AreSourced reader ws rs 0 (length ws) found → fields_fit reader (field_ids rs) (field_values ws found rs) ≡ true
field_values-fit reader ws rs found none good all = values-fit reader ws found rs (λ g is. value-fits reader ws rs found g none good all is)
