-- Within the limit each entry is what a step gives.
use Rattle.std.proofs.Common.{◌≡◌, ℕ, ◌≤◌, true, List, Option, Some, None, ap, subst, arith}
use Rattle.avro_schema.specs.Value.{size, depth}
use Rattle.avro_schema.specs.Node.{Node, node_at}
use Rattle.avro_schema.specs.WellFormed.{is_schema}
use Rattle.avro_compare.specs.Resolve.{Resolved}
use Rattle.avro_least.specs.Tables.{Least, LeastTable, ErringTable, IsUnder, AtMost, IsLowForData, AreLow, ShowsData, ShowsError, least_datum, err_of}
use Rattle.avro_least.proofs.public.Faults.{OnErr}
use Rattle.avro_least.proofs.LeastData.{step_data}
use Rattle.avro_least.proofs.LeastErrors.{step_errors}

-- two entries of which neither is more
pub same_least : (a b : Least) → IsUnder a b.nodes b.depth → IsUnder b a.nodes a.depth → a ≡ b
same_least a b h k =
    let nodes : a.nodes ≡ b.nodes = omega (arith, h.fewer, k.fewer) in
    let depth : a.depth ≡ b.depth = omega (arith, h.shallower (omega (arith, k.fewer)), k.shallower (omega (arith, h.fewer))) in
    λ i. record { nodes = nodes i; depth = depth i }

-- a step that is no more than an entry which is no more than it
same_step : (step : Option Least) (e : Least) → AtMost step e.nodes e.depth → ((s d : ℕ) → AtMost step s d → IsUnder e s d) → step ≡ Some e
same_step None e h back = absurd h
same_step (Some x) e h back = ap Some (same_least x e h (back x.nodes x.depth (record { fewer = omega arith; shallower = λ k. omega arith })))

pub exact_data : (writer : List Node) (limit : ℕ) (table : LeastTable) → IsLowForData writer limit table → (p : ℕ) (e : Least) → table p ≡ Some e → e.nodes ≤ limit
    → ShowsData writer limit (node_at writer p) (Some e) → least_datum limit table (node_at writer p) ≡ Some e
exact_data writer limit table low p e is within shown =
    let numbers = shown.exact within in
    same_step (least_datum limit table (node_at writer p)) e
    (subst (λ (s : ℕ). AtMost (least_datum limit table (node_at writer p)) s e.depth) numbers.0
    (subst (λ (d : ℕ). AtMost (least_datum limit table (node_at writer p)) (size shown.datum) d) numbers.1
    (step_data writer limit table low shown.datum p shown.fitting)))
    (λ s d h. subst (λ (x : Option Least). AtMost x s d) is (low p s d h))

pub exact_errors : (writer reader : List Node) (limit : ℕ) (table : LeastTable) (erring : ErringTable) → AreLow writer reader limit table erring → is_schema reader ≡ true
    → (w r : ℕ) (e : Least) → erring w r ≡ Some e → e.nodes ≤ limit → ShowsError writer reader limit (node_at writer w) (node_at reader r) (Some e)
    → AtMost (err_of writer reader limit table erring w r (node_at writer w) (node_at reader r)) e.nodes e.depth
exact_errors writer reader limit table erring low formed w r e is within shown =
    let numbers = shown.exact within in
    subst (λ (s : ℕ). AtMost (err_of writer reader limit table erring w r (node_at writer w) (node_at reader r)) s e.depth) numbers.0
    (subst (λ (d : ℕ). AtMost (err_of writer reader limit table erring w r (node_at writer w) (node_at reader r)) (size shown.datum) d) numbers.1
    (subst (λ (x : Resolved). OnErr x (AtMost (err_of writer reader limit table erring w r (node_at writer w) (node_at reader r)) (size shown.datum) (depth shown.datum)))
    shown.faulty (step_errors writer reader limit table erring low formed shown.datum w r shown.fitting)))
