-- The test of a match looks deep enough: arrays and maps in a row go to later nodes.
use Rattle.std.proofs.Common.{◌≡◌, ℕ, zero, suc, ◌+◌, ◌<◌, ◌≤◌, ◌⊎◌, true, ◌&&◌, ◌||◌, List, [], ◌∷◌, length, refl, sym, subst, inl, inr, ⊎_elim, arith}
use Rattle.std.specs.Prelude.{◌==◌, ◌↔◌, is_some, nat_lt}
use Rattle.std.specs.List.{list_all}
use Rattle.std.proofs.lemmas.Bool.{and_parts, and_from, or_cases, eq-eqb, ltb-true}
use Rattle.avro_name.specs.Name.{Name}
use Rattle.avro_schema.specs.Node.{Node, node_at, node_name, edges_of}
use Rattle.avro_schema.specs.WellFormed.{is_schema, is_edge}
use Rattle.avro_compare.specs.Match.{are_alike, Matches, match_within, is_match, writer_union, reader_union, nulls, booleans, ints, longs, int_to_long, bytes_alike, strings, string_to_bytes, bytes_to_string, arrays, maps, records, enums, fixeds}
use Rattle.avro_compare.proofs.public.MatchTest.{match_within-sound}
use Rattle.avro_compare.proofs.public.Rules.{edges-at}

-- a reader's union passes the test against any node
to_union : (steps : ℕ) (writer reader : List Node) (w : Node) (ids : List ℕ) → match_within steps writer reader w (Node.union ids) ≡ true
to_union steps writer reader (Node.union others) ids = refl
to_union steps writer reader w ids = refl

fixed-passes : (writer reader : List Node) (a b : Name) (b_aliases : List Name) (n : ℕ) → are_alike a b b_aliases ≡ true → (are_alike a b b_aliases && n == n) ≡ true
fixed-passes writer reader a b b_aliases n h = and_from (are_alike a b b_aliases) (n == n) h (eq-eqb n n refl)

-- a named writer's node that matches passes the test, at any depth
named-passes : (writer reader : List Node) (steps : ℕ) {w r : Node} → Matches writer reader w r → is_some (node_name w) ≡ true → match_within steps writer reader w r ≡ true
named-passes writer reader steps (reader_union {w = w} {ids = ids}) named = to_union steps writer reader w ids
named-passes writer reader steps (records alike) named = alike
named-passes writer reader steps (enums alike) named = alike
named-passes writer reader steps (fixeds {a = a} {b = b} {b_aliases = b_aliases} {n = n} alike) named = fixed-passes writer reader a b b_aliases n alike
named-passes writer reader steps _ named = absurd (cc)

-- the one edge of an array or a map
edge-at : (nodes : List Node) (i to : ℕ) (n : Node) → is_schema nodes ≡ true → n ≡ node_at nodes i → edges_of n ≡ to ∷ []
    → (to < length nodes) × ((i < to) ⊎ (is_some (node_name (node_at nodes to)) ≡ true))
edge-at nodes i to n formed is one =
    let edges : list_all (is_edge nodes i) (edges_of n) ≡ true = subst (λ (m : Node). list_all (is_edge nodes i) (edges_of m) ≡ true) (sym is) (edges-at nodes i formed) in
    let first : list_all (is_edge nodes i) (to ∷ []) ≡ true = subst (λ (ids : List ℕ). list_all (is_edge nodes i) ids ≡ true) one edges in
    let edge = and_parts (is_edge nodes i to) true first in
    let parts = and_parts (nat_lt to (length nodes)) (nat_lt i to || is_some (node_name (node_at nodes to))) edge.0 in (
      ltb-true to (length nodes) parts.0,
      ⊎_elim (λ e. inl (ltb-true i to e)) (λ e. inr e) (or_cases (nat_lt i to) (is_some (node_name (node_at nodes to))) parts.1),
    )

-- a match passes the test, where it looks as deep as there are nodes from this id on
passes : (writer reader : List Node) → is_schema writer ≡ true → {w r : Node} → Matches writer reader w r → (i steps : ℕ) → w ≡ node_at writer i
    → i < length writer → length writer ≤ i + steps → match_within steps writer reader w r ≡ true
passes writer reader formed writer_union i steps e low enough = refl
passes writer reader formed (reader_union {w = w} {ids = ids}) i steps e low enough = to_union steps writer reader w ids
passes writer reader formed nulls i steps e low enough = refl
passes writer reader formed booleans i steps e low enough = refl
passes writer reader formed ints i steps e low enough = refl
passes writer reader formed longs i steps e low enough = refl
passes writer reader formed int_to_long i steps e low enough = refl
passes writer reader formed bytes_alike i steps e low enough = refl
passes writer reader formed strings i steps e low enough = refl
passes writer reader formed string_to_bytes i steps e low enough = refl
passes writer reader formed bytes_to_string i steps e low enough = refl
passes writer reader formed (arrays m) i zero e low enough = absurd (omega arith)
passes writer reader formed (arrays {a = a} {b = b} m) i (suc steps) e low enough =
    let edge = edge-at writer i a (Node.array a) formed e refl in
    ⊎_elim (λ after. passes writer reader formed m a steps refl edge.0 (omega arith)) (λ named. named-passes writer reader steps m named) edge.1
passes writer reader formed (maps m) i zero e low enough = absurd (omega arith)
passes writer reader formed (maps {a = a} {b = b} m) i (suc steps) e low enough =
    let edge = edge-at writer i a (Node.map_of a) formed e refl in
    ⊎_elim (λ after. passes writer reader formed m a steps refl edge.0 (omega arith)) (λ named. named-passes writer reader steps m named) edge.1
passes writer reader formed (records alike) i steps e low enough = alike
passes writer reader formed (enums alike) i steps e low enough = alike
passes writer reader formed (fixeds {a = a} {b = b} {b_aliases = b_aliases} {n = n} alike) i steps e low enough = fixed-passes writer reader a b b_aliases n alike

-- the test is the relation
pub is_match-Matches : (writer reader : List Node) (i : ℕ) (r : Node) → is_schema writer ≡ true → i < length writer
    → (is_match writer reader (node_at writer i) r ≡ true) ↔ Matches writer reader (node_at writer i) r
is_match-Matches writer reader i r formed low = (
  (λ h. match_within-sound (length writer) writer reader (node_at writer i) r h),
  (λ m. passes writer reader formed m i (length writer) refl low (omega arith)),
)
