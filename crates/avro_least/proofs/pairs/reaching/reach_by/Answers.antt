use Rattle.std.proofs.Common.{length-append, ◌||◌, inl, inr, ◌≡◌, ◌≤◌, ◌<◌, ℕ, ◌+◌, ◌-◌, ◌*◌, true, List, [], ◌∷◌, ◌++◌, Some, length, sym, ◌∙◌, ap, subst, arith, nat_lt, slice_get, lt-ltb, ltb-true}
use Rattle.std.specs.List.{list_all}
use Rattle.indexmap.specs.IndexSet.{keys}
use Rattle.avro_schema.specs.SeenSchema.{schema_nodes}
use Rattle.avro_schema.specs.Node.{Node}
use Rattle.avro_schema.specs.WellFormed.{is_schema}
use Rattle.avro_schema.specs.declared.schema.Schema.{Schema}
use Rattle.avro_compare.specs.declared.comparison.Comparison.{Comparison}
use Rattle.avro_least.specs.SeenLeast.{table_of}
use Rattle.avro_least.specs.Reached.{is_key, AreFollowed, IsSteppedTo, from_first, one_step}
use Rattle.avro_least.specs.Asked.{steps_at}
use Rattle.avro_least.specs.Asks.{AreFound, IsFound}
use Rattle.avro_least.proofs.public.Keys.{key_kept, followed_more, few_keys, key_at, only_key}
use Rattle.avro_certificate.proofs.public.Tests.{or_cases, all_at}
use Rattle.avro_least.proofs.PairSteps.{below_at}
use Rattle.avro_least.proofs.public.Stepping.{some_pairs, steps_below, found_compared, found_more}
use Rattle.avro_least.proofs.pairs.reaching.reach_by.Goals as goal

-- a schema that is seen by another name
formed_at : {s t : Schema} → s ≡ t → is_schema (schema_nodes s) ≡ true → is_schema (schema_nodes t) ≡ true
formed_at same formed = subst (λ (u : Schema). is_schema (schema_nodes u) ≡ true) same formed

none_found : (writer reader : List Node) (ks : List ℕ) (found : List Comparison) → found ≡ [] → AreFound writer reader ks found
none_found writer reader ks found e = subst (λ (ps : List Comparison). AreFound writer reader ks ps) (sym e) (λ i k p here got. absurd cc)

-- the keys, and what one of them leads to
more_stepped : (steps : ℕ → List ℕ) (ks : List ℕ) (j k : ℕ) → ((x : ℕ) → is_key ks x ≡ true → IsSteppedTo steps x) → is_key ks j ≡ true
    → (is_key ks k || is_key (steps j) k) ≡ true → IsSteppedTo steps k
more_stepped steps ks j k before there h = elim (or_cases (is_key ks k) (is_key (steps j) k) h) [
  | inl m ↦ before k m
  | inr m ↦ one_step j k (before j there) m
]

pub loop-next-init : goal.loop-next-init
loop-next-init c =
    let total : ℕ = length (schema_nodes c.args.names.now.0) * length (schema_nodes c.args.names.now.1) in
    let known : List ℕ = keys c.in_ok-reached.reached.known in
    let found : List Comparison = c.in_ok-reached.reached.found.items in
    let alone = c.in_ok-reached.ensures in (
      alone.root,
      alone.all (λ x. nat_lt x total) (lt-ltb 0 total (some_pairs (schema_nodes c.args.names.now.0) (schema_nodes c.args.names.now.1) (formed_at c.writer.ensures c.count.ensures.formed) (formed_at c.reader.ensures c.count-2.ensures.formed))),
      λ i k found within. absurd (omega (arith, ltb-true i 0 within)),
      omega arith,
      ap length alone.none,
      none_found (schema_nodes c.args.names.now.0) (schema_nodes c.args.names.now.1) known found alone.none,
      λ P zero step. alone.all P zero,
      λ k m. subst (λ (x : ℕ). IsSteppedTo (steps_at (schema_nodes c.args.names.now.0) (schema_nodes c.args.names.now.1) (table_of c.args.table.now)) x) (sym (only_key 0 k (alone.alone k m))) from_first,
    )

pub visit-requires : goal.visit-requires
visit-requires c = below_at (length (schema_nodes c.args.names.now.0) * length (schema_nodes c.args.names.now.1)) (keys c.loop-next.reached.known) c.loop-next.next c.key_at-key.result
    c.loop-next.invariant.1 (c.key_at-key.ensures)

pub loop-next-smaller : goal.loop-next-smaller
loop-next-smaller c =
    let total : ℕ = length (schema_nodes c.args.names.now.0) * length (schema_nodes c.args.names.now.1) in
    let few = few_keys (keys c.loop-next.reached.known) total c.len.ensures.unique c.loop-next.invariant.1 in
    let low : c.loop-next.next < length (keys c.loop-next.reached.known) = omega (arith, c.loop-next-test.true, c.len.ensures.len) in
    falls total c.loop-next.next (omega (arith, few, low))
  where
    falls : (n i : ℕ) → i < n → n - (i + 1) < n - i
    falls n i h = omega (arith, h)

longer : (ks rest new : List ℕ) (i : ℕ) → new ≡ ks ++ rest → i < length ks → i + 1 ≤ length new
longer ks rest new i is h = omega (arith, ap length is ∙ length-append ks rest, h)

grown : (found new : List Comparison) (p : Comparison) (next : ℕ) → new ≡ found ++ p ∷ [] → length found ≡ next → length new ≡ next + 1
grown found new p next is h = omega (arith, ap length is ∙ length-append found (p ∷ []), h)

more_found : (writer reader : List Node) (ks rest keys : List ℕ) (found new : List Comparison) (p : Comparison) (key next : ℕ) → new ≡ found ++ p ∷ [] → keys ≡ ks ++ rest
    → AreFound writer reader ks found → length found ≡ next → slice_get ks next ≡ Some key → IsFound writer reader key p
    → AreFound writer reader keys new
more_found writer reader ks rest keys found new p key next is all before h here own =
    subst (λ (qs : List ℕ). AreFound writer reader qs new) (sym all)
    (subst (λ (ps : List Comparison). AreFound writer reader (ks ++ rest) ps) (sym is)
    (found_more writer reader ks rest found p key before (ap (slice_get ks) h ∙ here) own))

pub loop-next-preserved : goal.loop-next-preserved
loop-next-preserved c =
    let inv = c.loop-next.invariant in
    let total : ℕ = length (schema_nodes c.args.names.now.0) * length (schema_nodes c.args.names.now.1) in
    let more = c.in_ok-keep.ensures in
    let rest : List ℕ = more.kept.0 in
    let is : keys c.keep.new.reached.known ≡ keys c.loop-next.reached.known ++ rest = more.kept.1 in
    let key : ℕ = c.key_at-key.result in
    let here : slice_get (keys c.loop-next.reached.known) c.loop-next.next ≡ Some key = c.key_at-key.ensures in
    let row : c.deref.result.now ≡ steps_at (schema_nodes c.args.names.now.0) (schema_nodes c.args.names.now.1) (table_of c.args.table.now) key =
    c.deref.ensures.value ∙ c.in_ok-pair.ensures.steps in
    let all : list_all (is_key (keys c.keep.new.reached.known)) (steps_at (schema_nodes c.args.names.now.0) (schema_nodes c.args.names.now.1) (table_of c.args.table.now) key) ≡ true =
    subst (λ (ks : List ℕ). list_all (is_key (keys c.keep.new.reached.known)) ks ≡ true) row more.added in (
      subst (λ (ks : List ℕ). is_key ks 0 ≡ true) (sym is) (key_kept (keys c.loop-next.reached.known) rest 0 inv.0),
      more.all (λ x. nat_lt x total) inv.1
          (subst (λ (ks : List ℕ). list_all (λ x. nat_lt x total) ks ≡ true) (sym row)
          (steps_below (schema_nodes c.args.names.now.0) (schema_nodes c.args.names.now.1) (table_of c.args.table.now) (formed_at c.writer.ensures c.count.ensures.formed) (formed_at c.reader.ensures c.count-2.ensures.formed) key
          (below_at total (keys c.loop-next.reached.known) c.loop-next.next key inv.1 here))),
      subst (λ (ks : List ℕ). AreFollowed (steps_at (schema_nodes c.args.names.now.0) (schema_nodes c.args.names.now.1) (table_of c.args.table.now)) ks (c.loop-next.next + 1)) (sym is)
          (followed_more (steps_at (schema_nodes c.args.names.now.0) (schema_nodes c.args.names.now.1) (table_of c.args.table.now)) (keys c.loop-next.reached.known) rest c.loop-next.next key inv.2 here
          (subst (λ (ks : List ℕ). list_all (is_key ks) (steps_at (schema_nodes c.args.names.now.0) (schema_nodes c.args.names.now.1) (table_of c.args.table.now) key) ≡ true) is all)),
      longer (keys c.loop-next.reached.known) rest (keys c.keep.new.reached.known) c.loop-next.next is (omega (arith, c.loop-next-test.true, c.len.ensures.len)),
      grown c.loop-next.reached.found.items c.keep.new.reached.found.items c.in_ok-pair.pair c.loop-next.next c.in_ok-keep.ensures.found inv.4,
      more_found (schema_nodes c.args.names.now.0) (schema_nodes c.args.names.now.1) (keys c.loop-next.reached.known) rest (keys c.keep.new.reached.known)
          c.loop-next.reached.found.items c.keep.new.reached.found.items c.in_ok-pair.pair key c.loop-next.next c.in_ok-keep.ensures.found is inv.5 inv.4 here c.in_ok-pair.ensures.found,
      λ P zero step. more.all P (inv.6 P zero step) (subst (λ (ks : List ℕ). list_all P ks ≡ true) (sym row)
          (step key (all_at P (keys c.loop-next.reached.known) c.loop-next.next key (inv.6 P zero step) here))),
      λ k m. more_stepped (steps_at (schema_nodes c.args.names.now.0) (schema_nodes c.args.names.now.1) (table_of c.args.table.now)) (keys c.loop-next.reached.known) key k inv.7
          (key_at (keys c.loop-next.reached.known) c.loop-next.next key here)
          (subst (λ (ks : List ℕ). (is_key (keys c.loop-next.reached.known) k || is_key ks k) ≡ true) row (more.old_or_new k m)),
    )

pub returns-clause-found : goal.returns-clause-found
returns-clause-found c = found_compared (schema_nodes c.args.names.now.0) (schema_nodes c.args.names.now.1) (keys c.loop-next.reached.known) c.loop-next.reached.found.items c.loop-next.invariant.5
    (omega (arith, c.loop-next.invariant.4, c.loop-next.invariant.3))

pub returns-clause-closed : goal.returns-clause-closed
returns-clause-closed c = λ i k found within.
    let low : i < length (keys c.loop-next.reached.known) = ltb-true i (length (keys c.loop-next.reached.known)) within in
    c.loop-next.invariant.2 i k found (lt-ltb i c.loop-next.next (omega (arith, low, c.loop-next-test.false, c.len.ensures.len)))
