-- Where a pair of nodes leads, and what resolution makes of it.
use Rattle.std.proofs.Common.{◌≡◌, ◌⊎◌, ℕ, suc, ◌+◌, Bool, true, false, cond, List, [], ◌∷◌, Option, Some, None, Err, length, refl, sym, ap, ◌∙◌, subst, arith}
use Rattle.std.proofs.lemmas.Bool.{cond-true}
use Rattle.avro_schema.specs.Node.{Node, FieldNode, node_at}
use Rattle.avro_schema.specs.Value.{Value}
use Rattle.avro_schema.specs.declared.schema.NodeId.{NodeId}
use Rattle.avro_compare.specs.Children.{first_lacking}
use Rattle.avro_compare.specs.Fault.{fault_here, no_match}
use Rattle.avro_compare.specs.Match.{is_match, first_match, first_match_from}
use Rattle.avro_compare.specs.inside.NameTables.{symbols_at}
use Rattle.avro_compare.specs.Pairs.{IsTarget, target_at, target_of, targeted, branch_target}
use Rattle.avro_compare.specs.Planned.{AreFor, AreInside, AreSources, AreSymbols}
use Rattle.avro_compare.specs.Resolve.{Resolved, branch_node, fields_at, into_branch, result_map}
use Rattle.avro_compare.specs.Source.{missing_field}
use Rattle.avro_compare.specs.declared.comparison.Target.TheVariants.{Fault, To}
use Rattle.avro_compare.specs.declared.error.FaultKind.TheVariants.{NoMatch}
use Rattle.avro_compare.specs.declared.comparison.Comparison.{Comparison}

-- the first branch that matches, from an index on, does
first_matches : (index : ℕ) (writer reader : List Node) (w : Node) (bs : List ℕ) (k : ℕ) → first_match_from index writer reader w bs ≡ Some k
    → (i : ℕ) × (k ≡ index + i) × (is_match writer reader w (branch_node reader bs i) ≡ true)
first_matches index writer reader w [] k h = absurd cc
first_matches index writer reader w (b ∷ bs) k h = step (is_match writer reader w (node_at reader b)) refl h (first_matches (suc index) writer reader w bs k)
  where
    step : (t : Bool) → is_match writer reader w (node_at reader b) ≡ t → cond t (Some index) (first_match_from (suc index) writer reader w bs) ≡ Some k
        → (first_match_from (suc index) writer reader w bs ≡ Some k → (i : ℕ) × (k ≡ suc index + i) × (is_match writer reader w (branch_node reader bs i) ≡ true))
        → (i : ℕ) × (k ≡ index + i) × (is_match writer reader w (branch_node reader (b ∷ bs) i) ≡ true)
    step true m e later = let same : index ≡ k = cc in (0, omega (arith, same), m)
    step false m e later = let found = later e in (suc found.0, omega (arith, found.1), found.2)

pub first_match_matches : (writer reader : List Node) (w : Node) (ids : List ℕ) (k : ℕ) → first_match writer reader w ids ≡ Some k
    → is_match writer reader w (branch_node reader ids k) ≡ true
first_match_matches writer reader w ids k h =
    let found = first_matches 0 writer reader w ids k h in
    let same : found.0 ≡ k = omega (arith, found.1) in
    subst (λ (i : ℕ). is_match writer reader w (branch_node reader ids i) ≡ true) same found.2

pub target_leads : (writer reader : List Node) (w : Node) (r : NodeId) (q : Node) → node_at reader r.0 ≡ q → IsTarget writer reader w q (target_of writer reader w r q)
target_leads writer reader w r (Node.union ids) here = λ resolve. chosen resolve (first_match writer reader w ids) refl
  where
    chosen : (resolve : Node → Resolved) (o : Option ℕ) → first_match writer reader w ids ≡ o → into_branch writer reader w ids o resolve ≡ targeted reader (branch_target ids o) resolve
    chosen resolve None e = refl
    chosen resolve (Some k) e =
        ap (result_map (Value.union k))
        (cond-true (is_match writer reader w (branch_node reader ids k)) (resolve (branch_node reader ids k)) (Err (fault_here no_match)) (first_match_matches writer reader w ids k e))
target_leads writer reader w r q here = λ resolve. chosen resolve (is_match writer reader w q)
  where
    chosen : (resolve : Node → Resolved) (t : Bool) → cond t (resolve q) (Err (fault_here no_match)) ≡ targeted reader (cond t (To None r) (Fault NoMatch)) resolve
    chosen resolve true = ap resolve (sym here)
    chosen resolve false = refl

-- the same of the nodes of two ids
pub pair_leads : (writer reader : List Node) (w r : NodeId) → IsTarget writer reader (node_at writer w.0) (node_at reader r.0) (target_at writer reader w r)
pair_leads writer reader w r = target_leads writer reader (node_at writer w.0) r (node_at reader r.0) refl

-- what is kept inside, at equal nodes
pub inside_by : (writer reader : List Node) {w v r q : NodeId} (p : Comparison) → w ≡ v → r ≡ q → AreInside (node_at writer w.0) (node_at reader r.0) p → AreInside (node_at writer v.0) (node_at reader q.0) p
inside_by writer reader {v = v} {r = r} p e f h =
    subst (λ (n : NodeId). AreInside (node_at writer v.0) (node_at reader n.0) p) f (subst (λ (n : NodeId). AreInside (node_at writer n.0) (node_at reader r.0) p) e h)

-- what is found of the fields and the symbols of two nodes is what is inside
pub inside_found : (w q : Node) (ws rs : List FieldNode) (p : Comparison) → ws ≡ fields_at w → rs ≡ fields_at q
    → p.missing ≡ missing_field ws rs → p.lacking ≡ first_lacking w q
    → AreFor ws rs p.fields.items → AreSources ws rs p.sources.items
    → AreSymbols w q p.symbols.items → (p.symbols.items ≡ []) ⊎ (length p.symbols.items ≡ length (symbols_at w)) → AreInside w q p
inside_found w q ws rs p e f missing lacking fields sources symbols all_symbols = record {
  complete = missing ∙ ap (λ xs. missing_field xs rs) e ∙ ap (missing_field (fields_at w)) f;
  lacking = lacking;
  fields = subst (λ ys. AreFor (fields_at w) ys p.fields.items) f (subst (λ xs. AreFor xs rs p.fields.items) e fields);
  sources = subst (λ ys. AreSources (fields_at w) ys p.sources.items) f (subst (λ xs. AreSources xs rs p.sources.items) e sources);
  symbols = symbols;
  all_symbols = all_symbols;
}
