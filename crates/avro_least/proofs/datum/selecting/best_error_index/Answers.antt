use Rattle.std.proofs.Common.{◌≡◌, ℕ, Some, inl, inr, sym, ◌∙◌, ap, subst, arith, slice_get}
use Rattle.std.proofs.lemmas.Bool.{true≢false, cases_eq}
use Rattle.std.proofs.lemmas.List.{length-map}
use Rattle.std.proofs.lemmas.Option.{slice_get_within}
use Rattle.avro_schema.specs.Seen.{ids_of}
use Rattle.avro_least.specs.Tables.{LeastTable}
use Rattle.avro_least.proofs.public.ShownData.{best_is}
use Rattle.avro_least.specs.SeenTables.{erring_in}
use Rattle.avro_least.proofs.datum.selecting.best_error_index.Goals as goal
use Rattle.avro_least.proofs.Choosing.{id_here}

pub loop-i-preserved : goal.loop-i-preserved
loop-i-preserved c j p below got same =
    let table : LeastTable = λ q. erring_in c.args.tables.now q c.args.r.0 in
    elim (cases_eq j c.loop-i.i) [
      | inl here ↦ absurd (true≢false (sym (c.are_same.ensures.told (c.erring_entry.ensures
          ∙ ap (λ (q : ℕ). erring_in c.args.tables.now q c.args.r.0) (id_here c.args.ids.now c.loop-i.i p _ c.loop-i-test.true (subst (λ (n : ℕ). slice_get (ids_of c.args.ids.now) n ≡ Some p) here got)) ∙ same)) ∙ c.if-are_same.false))
      | inr apart ↦ c.loop-i.invariant j p (omega (arith, below, apart)) got same
    ]

pub returns : goal.returns
returns c h =
    let best = best_is (λ q. erring_in c.args.tables.now q c.args.r.0) (ids_of c.args.ids.now) h in
    absurd (c.loop-i.invariant best.branch best.id
    (omega (arith, slice_get_within (ids_of c.args.ids.now) best.branch best.id best.here, length-map c.args.ids.now (λ id. id.0), c.loop-i-test.false))
    best.here (sym best.is ∙ sym c.best_branch-best.ensures))
