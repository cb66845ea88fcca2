use Rattle.std.proofs.Common.{◌≡◌, ℕ, ◌+◌, ◌-◌, ◌<◌, List, Option, drop, get_or, length, sym, ◌∙◌, ap, arith}
use Rattle.std.proofs.lemmas.List.{drop_more}
use Rattle.avro_schema.specs.Seen.{ids_of}
use Rattle.avro_schema.specs.declared.schema.NodeId.{NodeId}
use Rattle.avro_least.specs.Tables.{Least, LeastTable, lesser, best_of}
use Rattle.avro_least.specs.SeenLeast.{seen}
use Rattle.avro_least.specs.SeenTables.{erring_in}
use Rattle.avro_least.proofs.datum.selecting.best_branch.Goals as goal

best_more : (f : LeastTable) (ids : List NodeId) (i : ℕ) (id : NodeId) → i < length ids → lesser (f (get_or ids i id).0) (best_of f (ids_of (drop (i + 1) ids))) ≡ best_of f (ids_of (drop i ids))
best_more f ids i id h = sym (ap (λ (xs : List NodeId). best_of f (ids_of xs)) (drop_more ids i id h))

back : (i : ℕ) → 0 < i → i - 1 + 1 ≡ i
back i h = omega (arith, h)

pub loop-i-preserved : goal.loop-i-preserved
loop-i-preserved c = (
  omega (arith, c.loop-i.invariant.0),
  c.lesser-best.ensures ∙ ap (λ (o : Option Least). lesser o (seen c.loop-i.best)) c.erring_entry.ensures
      ∙ ap (lesser _) (c.loop-i.invariant.1 ∙ ap (λ (n : ℕ). best_of (λ p. erring_in c.args.tables.now p c.args.r.0) (ids_of (drop n c.args.ids.now))) (sym (back c.loop-i.i c.loop-i-test.true)))
      ∙ best_more (λ p. erring_in c.args.tables.now p c.args.r.0) c.args.ids.now (c.loop-i.i - 1) _ (omega (arith, c.loop-i.invariant.0, c.loop-i-test.true)),
)
