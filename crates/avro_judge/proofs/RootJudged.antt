-- What the entry of the roots decides.
use Rattle.std.proofs.Common.{◌≡◌, ℕ, ◌<◌, ◌≤◌, true, ◌&&◌, List, Option, Some, None, length, refl, sym, ◌∙◌, ap, subst, arith}
use Rattle.std.proofs.lemmas.Bool.{and_from, lt-ltb}
use Rattle.std.specs.Prelude.{is_some, is_none, nat_lt}
use Rattle.avro_schema.specs.Value.{Value, size, depth}
use Rattle.avro_schema.specs.Node.{Node, root_of}
use Rattle.avro_schema.specs.WellFormed.{is_schema}
use Rattle.avro_certificate.specs.Compatible.{AreCompatible, ErrsOnlyAbove, ErrsLeastDeep, IsLeastToErr}
use Rattle.avro_least.specs.Tables.{Least, LeastTable, ShowsError, IsWithin, count_of, erring_of, pair_number}
use Rattle.avro_least.specs.Reached.{is_key}
use Rattle.avro_least.specs.Asked.{is_known}
use Rattle.avro_least.specs.BuiltErrors.{BuildsError}
use Rattle.avro_least.specs.FoundTables.{AreTables}
use Rattle.avro_least.proofs.public.Exact.{tables_exact}
use Rattle.avro_certificate.proofs.public.Tests.{or_from_right}
use Rattle.avro_least.proofs.public.Stepping.{some_nodes}
use Rattle.avro_least.proofs.public.Decided.{none_errs, only_above, least_deep, least_errs}

-- the roots are known
pub root_known : (count : ℕ) (table : LeastTable) (keys : List ℕ) → 0 < count → is_key keys 0 ≡ true → is_known count table keys (record { w = 0; r = 0 }) ≡ true
root_known count table keys some there =
    let zero_is : 0 ≡ pair_number count 0 0 = omega arith in
    or_from_right (is_none (table 0)) (nat_lt 0 count && is_key keys (pair_number count 0 0))
    (and_from (nat_lt 0 count) (is_key keys (pair_number count 0 0)) (lt-ltb 0 count some) (subst (λ (n : ℕ). is_key keys n ≡ true) zero_is there))

module _ (writer reader : List Node) (limit : ℕ) (table : LeastTable) (keys : List ℕ) (entries : List (Option Least))
    (formed : is_schema writer ≡ true) (theirs : is_schema reader ≡ true) (tables : AreTables writer reader limit table keys entries) where
  roots : is_known (length reader) table keys (record { w = 0; r = 0 }) ≡ true
  roots = root_known (length reader) table keys (some_nodes reader theirs) tables.root

  -- the datum of the roots' entry
  pub shown_at : (e : Least) → erring_of (length reader) table keys entries 0 0 ≡ Some e → ShowsError writer reader limit (root_of writer) (root_of reader) (Some e)
  shown_at e is = subst (λ (o : Option Least). ShowsError writer reader limit (root_of writer) (root_of reader) o) is
      (tables.shown 0 0 roots (subst (λ (o : Option Least). is_some o ≡ true) (sym is) refl))

  pub compatible : None ≡ erring_of (length reader) table keys entries 0 0 → AreCompatible writer reader
  compatible none = none_errs writer reader limit table (erring_of (length reader) table keys entries) tables.low theirs (sym none)

  pub above : (e : Least) → Some e ≡ erring_of (length reader) table keys entries 0 0 → limit < e.nodes → ErrsOnlyAbove writer reader limit
  above e is over = only_above writer reader limit table (erring_of (length reader) table keys entries) tables.low theirs e (sym is) (shown_at e (sym is)) over

  pub deep : (e : Least) (deepest : ℕ) → Some e ≡ erring_of (length reader) table keys entries 0 0 → e.nodes ≤ limit → deepest < e.depth → ErrsLeastDeep writer reader limit deepest
  deep e deepest is few over = least_deep writer reader limit table (erring_of (length reader) table keys entries) tables.low theirs e deepest (sym is) (shown_at e (sym is)) few over

  some_same : (a b : Least) → Some a ≡ Some b → a ≡ b
  some_same a b e = cc

  pub refuting : (e : Least) (deepest : ℕ) (v : Value) → Some e ≡ erring_of (length reader) table keys entries 0 0 → e.nodes ≤ limit → e.depth ≤ deepest
      → BuildsError writer reader limit table (erring_of (length reader) table keys entries) e.nodes 0 0 v → IsLeastToErr writer reader v × (size v ≤ limit) × (depth v ≤ deepest)
  refuting e deepest v is few flat built =
      let own = built (is_known (length reader) table keys) (tables_exact writer reader limit table keys entries formed theirs tables) roots
      (subst (λ (o : Option Least). IsWithin limit o) is few) (subst (λ (o : Option Least). count_of o ≤ e.nodes) is (omega arith)) in
      let same : record { nodes = size v; depth = depth v } ≡ e = some_same (record { nodes = size v; depth = depth v }) e (sym own.numbers ∙ sym is) in
      let count : size v ≡ e.nodes = ap (λ (l : Least). l.nodes) same in
      let level : depth v ≡ e.depth = ap (λ (l : Least). l.depth) same in (
        least_errs writer reader limit table (erring_of (length reader) table keys entries) tables.low theirs e (sym is) v own.faulty.0
            (record { fitting = own.fitting; faulty = own.faulty.1 }) count,
        omega (arith, count, few),
        omega (arith, level, flat),
      )
