-- What is built is least.
use Rattle.std.proofs.Common.{◌≡◌, ℕ, suc, ◌^◌, ◌≤◌, ◌<◌, true, List, [], ◌∷◌, ◌++◌, Option, Some, None, length, refl, sym, ◌∙◌, ap, subst, arith, slice_get, is_some, max}
use Rattle.std.proofs.lemmas.Bool.{and_from}
use Rattle.avro_schema.specs.Value.{Value, size, depth, values_size, values_depth}
use Rattle.avro_schema.specs.Seen.{values_from, node_of}
use Rattle.avro_schema.specs.declared.schema.Node.{Node as KeptNode}
use Rattle.avro_schema.specs.declared.schema.NodeId.{NodeId}
use Rattle.avro_schema.specs.declared.schema.RecordNode.{RecordNode}
use Rattle.std.specs.Global.{Vec}
use Rattle.avro_schema.specs.Node.{Node, FieldNode, node_at, branches_of, fields_of, field_ids}
use Rattle.avro_schema.specs.Fits.{fits, fields_fit}
use Rattle.avro_schema.specs.WellFormed.{is_schema, meets_its_rules}
use Rattle.avro_least.specs.Tables.{Least, LeastTable, IsLowForData, AreDataShown, IsLeastOf, IsWithin, count_of, Exactly, best_of, all_of, least_datum, no_parts}
use Rattle.avro_least.specs.inside.Leaf.{leaf_value}
use Rattle.avro_least.specs.inside.Built.{Builds, BuildsAt, BuildsAll, BuildsRecord}
use Rattle.avro_certificate.proofs.public.Shapes.{meets_rules_at}
use Rattle.avro_least.proofs.public.ShownData.{leaf_fits}
use Rattle.avro_least.proofs.Building.{around_is, together_is}
use Rattle.avro_schema.proofs.public.Choices.{HasFewChoices, HasFewChoices-from_is_schema}
use Rattle.std.proofs.lemmas.Option.{slice_get_within}
use Rattle.avro_least.proofs.Choosing.{leaf_least, branch_least, step_is}
use Rattle.avro_least.proofs.public.Keys.{some_same}
use Rattle.avro_schema.proofs.public.Parts.{size-positive}

-- a schema's union has few branches
pub few_branches : (nodes : List Node) → is_schema nodes ≡ true → (p : ℕ) (ids : List ℕ) → node_at nodes p ≡ Node.union ids → length ids ≤ 2 ^ 31
few_branches nodes formed p ids here = subst (λ (n : Node). HasFewChoices n) here (HasFewChoices-from_is_schema nodes formed p)

module _ (nodes : List Node) (table : LeastTable) (left : ℕ) where
  -- a node without parts
  leaf_at : (limit p : ℕ) (n : Node) → branches_of n ≡ None → fields_of n ≡ None → meets_its_rules nodes n ≡ true → IsLowForData nodes limit table → AreDataShown nodes limit table
      → IsWithin limit (table p) → node_at nodes p ≡ n → IsLeastOf nodes table p (leaf_value n)
  leaf_at limit p (Node.union ps) plain flat rules low shown within here = absurd (grind arith)
  leaf_at limit p (Node.record_of a xs fs) plain flat rules low shown within here = absurd (grind arith)
  leaf_at limit p n plain flat rules low shown within here = leaf_least nodes limit table low shown p n (leaf_value n) within here refl (leaf_fits nodes n refl refl rules) refl refl

  pub leaf_builds : (n : Node) (v : Value) → branches_of n ≡ None → fields_of n ≡ None → v ≡ leaf_value n → BuildsAt nodes table left n v
  leaf_builds n v plain flat is limit p formed low shown within here few =
      subst (λ (x : Value). IsLeastOf nodes table p x) (sym is)
      (leaf_at limit p n plain flat (subst (λ (m : Node). meets_its_rules nodes m ≡ true) here (meets_rules_at nodes p formed)) low shown within here)

  -- an entry of no more nodes
  few_nodes : (p : ℕ) (e : Least) → table p ≡ Some e → count_of (table p) ≤ suc left → e.nodes ≤ suc left
  few_nodes p e is few = subst (λ (o : Option Least). count_of o ≤ suc left) is few

  -- the best branch of a union
  pub branch_builds : (ids : List ℕ) (k : ℕ) (v whole : Value) → (k < 4294967296 → whole ≡ Value.union k v)
      → (is_some (best_of table ids) ≡ true → (q : ℕ) × (slice_get ids k ≡ Some q) × (table q ≡ best_of table ids) × Builds nodes table left q v)
      → BuildsAt nodes table left (Node.union ids) whole
  branch_builds ids k v whole is found limit p formed low shown within here few =
      let step = step_is nodes limit table low shown p within in
      let inside = around_is limit (best_of table ids) step.0 (sym (ap (least_datum limit table) here) ∙ step.3) step.2 in
      let best = found (subst (λ (o : Option Least). is_some o ≡ true) (sym inside.is) refl) in
      let branch = branch_least nodes limit table low shown p k best.0 ids within here best.1 best.2 in
      let small = few_branches nodes formed p ids here in
      subst (λ (x : Value). IsLeastOf nodes table p x) (sym (is (omega (arith, slice_get_within ids k best.0 best.1, small))))
      (branch.whole v (best.3 limit formed low shown branch.within (omega (arith, branch.falls, few))))

  -- the fields of a record
  pub record AreLeast (ps : List ℕ) (vs : List Value) (e : Least) : Type 0 where
    pub fitting : fields_fit nodes ps (values_from vs) ≡ true
    pub nodes_is : values_size (values_from vs) ≡ e.nodes
    pub depth_is : values_depth (values_from vs) ≡ e.depth

  fields_least : (limit : ℕ) → is_schema nodes ≡ true → IsLowForData nodes limit table → AreDataShown nodes limit table → (ps : List ℕ) (vs : List Value)
      → BuildsAll nodes table left ps vs → (e : Least) → all_of limit table ps ≡ Some e → e.nodes ≤ limit → e.nodes ≤ left → AreLeast ps vs e
  fields_least limit formed low shown [] [] h e is within few =
      let same : no_parts ≡ e = some_same no_parts e is in
      record { fitting = refl; nodes_is = ap (λ (l : Least). l.nodes) same; depth_is = ap (λ (l : Least). l.depth) same }
  fields_least limit formed low shown [] (v ∷ vs) h e is within few = absurd h
  fields_least limit formed low shown (p ∷ ps) [] h e is within few = absurd h
  fields_least limit formed low shown (p ∷ ps) (v ∷ vs) h e is within few =
      let both = together_is limit (table p) (all_of limit table ps) e is within in
      let own = h.0 limit formed low shown
      (subst (λ (o : Option Least). IsWithin limit o) (sym both.first_is) (omega (arith, within, both.nodes)))
      (subst (λ (o : Option Least). count_of o ≤ left) (sym both.first_is) (omega (arith, few, both.nodes))) in
      let others = fields_least limit formed low shown ps vs h.1 both.second both.second_is (omega (arith, within, both.nodes)) (omega (arith, few, both.nodes)) in
      let same : record { nodes = size v; depth = depth v } ≡ both.first = some_same (record { nodes = size v; depth = depth v }) both.first (sym own.numbers ∙ both.first_is) in
      let count : size v ≡ both.first.nodes = ap (λ (l : Least). l.nodes) same in
      let level : depth v ≡ both.first.depth = ap (λ (l : Least). l.depth) same in
      record {
        fitting = and_from (fits nodes (node_at nodes p) v) (fields_fit nodes ps (values_from vs)) own.fitting others.fitting;
        nodes_is = omega (arith, count, others.nodes_is, both.nodes);
        depth_is = ap (λ (n : ℕ). max n (values_depth (values_from vs))) level ∙ ap (max both.first.depth) others.depth_is ∙ sym both.depth;
      }

  pub record_builds : (fields : List FieldNode) (vs : List Value) → BuildsAll nodes table left (field_ids fields) vs → BuildsRecord nodes table left fields (Value.record_of (values_from vs))
  record_builds fields vs all name aliases limit p formed low shown within here few =
      let step = step_is nodes limit table low shown p within in
      let inside = around_is limit (all_of limit table (field_ids fields)) step.0 (sym (ap (least_datum limit table) here) ∙ step.3) step.2 in
      let parts = fields_least limit formed low shown (field_ids fields) vs all inside.inner inside.is (omega (arith, step.2, inside.nodes)) (omega (arith, few_nodes p step.0 step.1 few, inside.nodes)) in
      record {
        fitting = subst (λ (m : Node). fits nodes m (Value.record_of (values_from vs)) ≡ true) (sym here) parts.fitting;
        numbers = step.1 ∙ ap Some (numbers step.0 inside.inner parts.nodes_is parts.depth_is inside.nodes inside.depth);
      }
    where
      numbers : (e b : Least) → values_size (values_from vs) ≡ b.nodes → values_depth (values_from vs) ≡ b.depth → e.nodes ≡ suc b.nodes → e.depth ≡ suc b.depth
          → e ≡ record { nodes = suc (values_size (values_from vs)); depth = suc (values_depth (values_from vs)) }
      numbers e b n d m l = λ i. record { nodes = (m ∙ ap suc (sym n)) i; depth = (l ∙ ap suc (sym d)) i }

  pub builds_more : (ps : List ℕ) (vs : List Value) (p : ℕ) (v : Value) → BuildsAll nodes table left ps vs → Builds nodes table left p v
      → BuildsAll nodes table left (ps ++ p ∷ []) (vs ++ v ∷ [])
  builds_more [] [] p v h own = (own, tt)
  builds_more [] (w ∷ vs) p v h own = absurd h
  builds_more (q ∷ ps) [] p v h own = absurd h
  builds_more (q ∷ ps) (w ∷ vs) p v h own = (h.0, builds_more ps vs p v h.1 own)

-- nothing has no nodes
pub none_builds : (nodes : List Node) (table : LeastTable) (left p : ℕ) (v : Value) → left ≡ 0 → Builds nodes table left p v
none_builds nodes table left p v none limit formed low shown within few =
    let step = step_is nodes limit table low shown p within in
    let own = shown p (subst (λ (o : Option Least). is_some o ≡ true) (sym step.1) refl) in
    let exact = subst (λ (o : Option Least). Exactly limit o (size own.datum) (depth own.datum)) step.1 own.exact in
    absurd (omega (arith, none, subst (λ (o : Option Least). count_of o ≤ left) step.1 few, (exact step.2).0, size-positive own.datum))

-- a node that is neither a union nor a record
pub plain_kept : (n : KeptNode) → ((ps : Vec NodeId) → n ≡ KeptNode.Union ps → ⊥) → ((r : RecordNode) → n ≡ KeptNode.Record r → ⊥)
    → (branches_of (node_of n) ≡ None) × (fields_of (node_of n) ≡ None)
plain_kept (KeptNode.Union ps) h k = absurd (h ps refl)
plain_kept (KeptNode.Record r) h k = absurd (k r refl)
plain_kept _ h k = (refl, refl)
