use Rattle.std.proofs.Common.{◌≡◌, ◌+◌, ◌-◌, ◌∙◌, ◌==◌, ℕ, Bool, ap, length, arith}
use Rattle.std.specs.Prelude.{slice_index_or}
use Rattle.std.specs.BTreeMap.{get, is_at}
use Rattle.std.specs.Map.{lookup}
use Rattle.std.specs.Ordering.{nat_cmp}
use Rattle.avro_compare.proofs.PlainBranches.{branch_from, branch_next, branch_none, branch_first, place_put}
use Rattle.avro_compare.proofs.reader_types.branch_places.Goals as goal

pub loop-left-init : goal.loop-left-init
loop-left-init c = (
  omega arith,
  λ b. ap (λ es. lookup (is_at (nat_cmp b)) es) c.new-places.ensures.empty ∙ branch_none (λ k. k == b) c.args.branches.now (length c.args.branches.now) (omega arith),
)

pub loop-left-preserved : goal.loop-left-preserved
loop-left-preserved c =
    let l = c.loop-left in
    let branches = c.args.branches.now in
    let one : l.left ≡ l.left - 1 + 1 = omega (arith, c.loop-left-test.true) in (
      omega (arith, l.invariant.0),
      λ b.
          let test : ℕ → Bool = λ k. k == b in
          let before = get nat_cmp l.places b in
          branch_next test branches (l.left - 1) (record { 0 = 0 }) before (get nat_cmp c.insert.new.self b)
          (omega (arith, c.loop-left-test.true, l.invariant.0)) (l.invariant.1 b ∙ ap (branch_from test branches) one)
          (place_put (slice_index_or branches (l.left - 1) (record { 0 = 0 })).0 b (l.left - 1) before _ (c.in_ok-insert.ensures.updates.0 b)),
    )

pub returns : goal.returns
returns c = λ b.
    branch_first (λ k. k == b) c.args.branches.now c.loop-left.left (get nat_cmp c.loop-left.places b) (omega (arith, c.loop-left-test.false)) (c.loop-left.invariant.1 b)
