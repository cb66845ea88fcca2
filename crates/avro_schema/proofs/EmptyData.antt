-- The data that take no bytes, by the levels that they are looked for in.
use Rattle.std.proofs.Common.{◌≡◌, ℕ, zero, suc, ◌+◌, ◌-◌, ◌≤◌, max, true, List, [], ◌∷◌, Option, Some, None, refl, sym, subst, arith}
use Rattle.std.proofs.Math.Nat.{le-max_left, le-max_right}
use Rattle.avro_name.specs.Name.{Name}
use Rattle.std.specs.Prelude.{◌==◌, option_map}
use Rattle.std.proofs.lemmas.Bool.{and_parts, false≢true}
use Rattle.std.proofs.lemmas.Bool.Decides.{nat_tests}
use Rattle.avro_schema.specs.Value.{Value, Values, no_values, value, size, depth, values_size, values_depth}
use Rattle.avro_schema.specs.Node.{Node, FieldNode, node_at, field_ids}
use Rattle.avro_schema.specs.Fits.{fits, fields_fit}
use Rattle.avro_schema.specs.Empty.{is_empty, are_empty, IsEmptyDatum}
use Rattle.avro_schema.specs.Empties.{before, empty_parts, empty_inside, empty_datum, has_measure, have_measure}
use Rattle.avro_schema.specs.declared.empties.Empty.{Empty}

-- what a part is found to be, it is in more levels
abbrev Stays : (ℕ → Option Value) → (ℕ → Option Value) → Type 0
Stays part deeper = (id : ℕ) (v : Value) → part id ≡ Some v → deeper id ≡ Some v

parts-stay : (part deeper : ℕ → Option Value) → Stays part deeper → (ids : List ℕ) (vs : Values) → empty_parts part ids ≡ Some vs → empty_parts deeper ids ≡ Some vs
parts-stay part deeper stays [] vs h = h
parts-stay part deeper stays (id ∷ ids) vs h = both (part id) refl (empty_parts part ids) refl (parts-stay part deeper stays ids) h
  where
    both : (o : Option Value) → part id ≡ o → (os : Option Values) → empty_parts part ids ≡ os → ((ws : Values) → empty_parts part ids ≡ Some ws → empty_parts deeper ids ≡ Some ws)
        → before o os ≡ Some vs → empty_parts deeper (id ∷ ids) ≡ Some vs
    both (Some v) first (Some ws) others rest k = rw (stays id v first, rest ws others) k
    both (Some v) first None others rest k = cc
    both None first os others rest k = cc

inside-stays : (part deeper : ℕ → Option Value) → Stays part deeper → (n : Node) (v : Value) → empty_inside part n ≡ Some v → empty_inside deeper n ≡ Some v
inside-stays part deeper stays (Node.record_of name aliases fields) v h = of (empty_parts part (field_ids fields)) refl h
  where
    of : (os : Option Values) → empty_parts part (field_ids fields) ≡ os → option_map Value.record_of os ≡ Some v → option_map Value.record_of (empty_parts deeper (field_ids fields)) ≡ Some v
    of (Some vs) found k = rw (parts-stay part deeper stays (field_ids fields) vs found) k
    of None found k = cc
inside-stays part deeper stays Node.null v h = h
inside-stays part deeper stays (Node.fixed name aliases count) v h = h
inside-stays part deeper stays _ v h = cc

one-deeper : (levels : ℕ) (nodes : List Node) (n : Node) (v : Value) → empty_datum levels nodes n ≡ Some v → empty_datum (suc levels) nodes n ≡ Some v
one-deeper zero nodes n v h = cc
one-deeper (suc levels) nodes n v h =
    inside-stays (λ id. empty_datum levels nodes (node_at nodes id)) (λ id. empty_datum (suc levels) nodes (node_at nodes id))
    (λ id w found. one-deeper levels nodes (node_at nodes id) w found) n v h

deeper : (more levels most : ℕ) → most ≡ more + levels → (nodes : List Node) (n : Node) (v : Value) → empty_datum levels nodes n ≡ Some v → empty_datum most nodes n ≡ Some v
deeper zero levels most e nodes n v h =
    let same : levels ≡ most = omega (arith, e) in
    subst (λ (m : ℕ). empty_datum m nodes n ≡ Some v) same h
deeper (suc more) levels most e nodes n v h =
    let next : suc (more + levels) ≡ most = omega (arith, e) in
    subst (λ (m : ℕ). empty_datum m nodes n ≡ Some v) next (one-deeper (more + levels) nodes n v (deeper more levels (more + levels) refl nodes n v h))

at_most : (levels most : ℕ) → levels ≤ most → (nodes : List Node) (n : Node) (v : Value) → empty_datum levels nodes n ≡ Some v → empty_datum most nodes n ≡ Some v
at_most levels most low nodes n v h =
    deeper (most - levels) levels most (omega (arith, low)) nodes n v h

-- what a measure says
same : (a b : ℕ) → (a == b) ≡ true → a ≡ b
same a b h = grind (arith, nat_tests)

is_same : (a b : ℕ) → a ≡ b → (a == b) ≡ true
is_same a b h = grind (arith, nat_tests)

record Measured (count levels : ℕ) (o : Option Value) : Type 0 where
  datum : Value
  found : o ≡ Some datum
  many : size datum ≡ count
  deep : depth datum ≡ levels

measured : (count levels : ℕ) (o : Option Value) → has_measure count levels o ≡ true → Measured count levels o
measured count levels None h = absurd (false≢true h)
measured count levels (Some v) h =
    let parts = and_parts (size v == count) (depth v == levels) h in
    record { datum = v; found = refl; many = same (size v) count parts.0; deep = same (depth v) levels parts.1 }

pub record AllMeasured (count levels : ℕ) (o : Option Values) : Type 0 where
  pub data_are : Values
  pub found : o ≡ Some data_are
  pub many : values_size data_are ≡ count
  pub deep : values_depth data_are ≡ levels

pub all_measured : (count levels : ℕ) (o : Option Values) → have_measure count levels o ≡ true → AllMeasured count levels o
all_measured count levels None h = absurd (false≢true h)
all_measured count levels (Some vs) h =
    let parts = and_parts (values_size vs == count) (values_depth vs == levels) h in
    record { data_are = vs; found = refl; many = same (values_size vs) count parts.0; deep = same (values_depth vs) levels parts.1 }

-- one more before others
pub one_more : (nodes : List Node) (id : ℕ) (ids : List ℕ) (count levels counts deepest sum most : ℕ)
    → has_measure count levels (empty_datum levels nodes (node_at nodes id)) ≡ true
    → have_measure counts deepest (empty_parts (λ i. empty_datum deepest nodes (node_at nodes i)) ids) ≡ true
    → sum ≡ count + counts → most ≡ max levels deepest
    → have_measure sum most (empty_parts (λ i. empty_datum most nodes (node_at nodes i)) (id ∷ ids)) ≡ true
one_more nodes id ids count levels counts deepest sum most first others sums deeper =
    let m = measured count levels (empty_datum levels nodes (node_at nodes id)) first in
    let a = all_measured counts deepest (empty_parts (λ i. empty_datum deepest nodes (node_at nodes i)) ids) others in
    let one = at_most levels most (subst (λ (k : ℕ). levels ≤ k) (sym deeper) (le-max_left levels deepest)) nodes (node_at nodes id) m.datum m.found in
    let low = subst (λ (k : ℕ). deepest ≤ k) (sym deeper) (le-max_right levels deepest) in
    let all = parts-stay (λ i. empty_datum deepest nodes (node_at nodes i)) (λ i. empty_datum most nodes (node_at nodes i))
    (λ i v found. at_most deepest most low nodes (node_at nodes i) v found) ids a.data_are a.found in
    rw (one, all, m.many, m.deep, a.many, a.deep, is_same (count + counts) sum (sym sums), is_same (max levels deepest) most (sym deeper)) refl

-- a record of such data
pub record_around : (nodes : List Node) (name : Name) (aliases : List Name) (fields : List FieldNode) (count levels : ℕ)
    → have_measure count levels (empty_parts (λ i. empty_datum levels nodes (node_at nodes i)) (field_ids fields)) ≡ true
    → has_measure (suc count) (suc levels) (empty_datum (suc levels) nodes (Node.record_of name aliases fields)) ≡ true
record_around nodes name aliases fields count levels h =
    let a = all_measured count levels (empty_parts (λ i. empty_datum levels nodes (node_at nodes i)) (field_ids fields)) h in
    rw (a.found, a.many, a.deep, is_same (suc count) (suc count) refl, is_same (suc levels) (suc levels) refl) refl

-- What is found fits, and takes no bytes.
abbrev Fit : List Node → (ℕ → Option Value) → Type 0
Fit nodes part = (id : ℕ) (v : Value) → part id ≡ Some v → (fits nodes (node_at nodes id) v ≡ true) × (is_empty v ≡ true)

parts-fit : (nodes : List Node) (part : ℕ → Option Value) → Fit nodes part → (ids : List ℕ) (vs : Values) → empty_parts part ids ≡ Some vs
    → (fields_fit nodes ids vs ≡ true) × (are_empty vs ≡ true)
parts-fit nodes part fit [] no_values h = (refl, refl)
parts-fit nodes part fit [] (value v vs) h = cc
parts-fit nodes part fit (id ∷ ids) vs h = both (part id) refl (empty_parts part ids) refl (parts-fit nodes part fit ids) h
  where
    both : (o : Option Value) → part id ≡ o → (os : Option Values) → empty_parts part ids ≡ os
        → ((ws : Values) → empty_parts part ids ≡ Some ws → (fields_fit nodes ids ws ≡ true) × (are_empty ws ≡ true))
        → before o os ≡ Some vs → (fields_fit nodes (id ∷ ids) vs ≡ true) × (are_empty vs ≡ true)
    both (Some v) first (Some ws) others rest k =
        let one = fit id v first in
        let all = rest ws others in
        let whole : value v ws ≡ vs = cc in
        subst (λ (us : Values). (fields_fit nodes (id ∷ ids) us ≡ true) × (are_empty us ≡ true)) whole
        (rw (one.0, all.0) refl, rw (one.1, all.1) refl)
    both (Some v) first None others rest k = cc
    both None first os others rest k = cc

inside-fit : (nodes : List Node) (part : ℕ → Option Value) → Fit nodes part → (n : Node) (v : Value) → empty_inside part n ≡ Some v
    → (fits nodes n v ≡ true) × (is_empty v ≡ true)
inside-fit nodes part fit Node.null v h =
    let whole : Value.null ≡ v = cc in
    subst (λ (u : Value). (fits nodes Node.null u ≡ true) × (is_empty u ≡ true)) whole (refl, refl)
inside-fit nodes part fit (Node.fixed name aliases zero) v h =
    let whole : Value.fixed [] ≡ v = cc in
    subst (λ (u : Value). (fits nodes (Node.fixed name aliases zero) u ≡ true) × (is_empty u ≡ true)) whole (refl, refl)
inside-fit nodes part fit (Node.fixed name aliases (suc count)) v h = cc
inside-fit nodes part fit (Node.record_of name aliases fields) v h = of (empty_parts part (field_ids fields)) refl h
  where
    of : (os : Option Values) → empty_parts part (field_ids fields) ≡ os → option_map Value.record_of os ≡ Some v
        → (fits nodes (Node.record_of name aliases fields) v ≡ true) × (is_empty v ≡ true)
    of (Some vs) found k =
        let all = parts-fit nodes part fit (field_ids fields) vs found in
        let whole : Value.record_of vs ≡ v = cc in
        subst (λ (u : Value). (fits nodes (Node.record_of name aliases fields) u ≡ true) × (is_empty u ≡ true)) whole (all.0, all.1)
    of None found k = cc
inside-fit nodes part fit _ v h = cc

datum-fits : (levels : ℕ) (nodes : List Node) (n : Node) (v : Value) → empty_datum levels nodes n ≡ Some v → (fits nodes n v ≡ true) × (is_empty v ≡ true)
datum-fits zero nodes n v h = cc
datum-fits (suc levels) nodes n v h =
    inside-fit nodes (λ id. empty_datum levels nodes (node_at nodes id)) (λ id w found. datum-fits levels nodes (node_at nodes id) w found) n v h

pub parts_shown : (levels : ℕ) (nodes : List Node) (ids : List ℕ) (vs : Values) → empty_parts (λ id. empty_datum levels nodes (node_at nodes id)) ids ≡ Some vs
    → (fields_fit nodes ids vs ≡ true) × (are_empty vs ≡ true)
parts_shown levels nodes ids vs h =
    parts-fit nodes (λ id. empty_datum levels nodes (node_at nodes id)) (λ id w found. datum-fits levels nodes (node_at nodes id) w found) ids vs h

-- an entry is of a datum without bytes
pub entry_shown : (nodes : List Node) (n : Node) (e : Empty) → has_measure e.nodes e.depth (empty_datum e.depth nodes n) ≡ true → IsEmptyDatum nodes n e.nodes e.depth
entry_shown nodes n e h =
    let m = measured e.nodes e.depth (empty_datum e.depth nodes n) h in
    let f = datum-fits e.depth nodes n m.datum m.found in
    record { datum = m.datum; fitting = f.0; empty = f.1; counted = m.many; deep = m.deep }
