use Rattle.std.proofs.Common.{◌≡◌, ◌+◌, ◌-◌, ◌∙◌, ap, length, arith}
use Rattle.std.specs.BTreeMap.{get, is_at}
use Rattle.std.specs.Map.{lookup}
use Rattle.avro_schema.specs.SeenSchema.{schema_nodes}
use Rattle.avro_compare.specs.inside.TypeNames.{key_cmp, passes, is_own}
use Rattle.avro_compare.proofs.PlainBranches.{branch_from, branch_next, branch_none, branch_first}
use Rattle.avro_compare.proofs.reader_types.first_branches.Goals as goal

pub loop-left-init : goal.loop-left-init
loop-left-init c = (
  omega arith,
  λ key. ap (λ es. lookup (is_at (key_cmp key)) es) c.new-firsts.ensures.empty ∙ branch_none (passes (schema_nodes c.args.reader.now) (is_own c.args.texts.now key.0 key.1)) c.args.branches.now (length c.args.branches.now) (omega arith),
)

pub loop-left-preserved : goal.loop-left-preserved
loop-left-preserved c =
    let l = c.loop-left in
    let branches = c.args.branches.now in
    let one : l.left ≡ l.left - 1 + 1 = omega (arith, c.loop-left-test.true) in (
      omega (arith, l.invariant.0),
      λ key.
          let test = passes (schema_nodes c.args.reader.now) (is_own c.args.texts.now key.0 key.1) in
          branch_next test branches (l.left - 1) (record { 0 = 0 }) (get key_cmp l.firsts key) (get key_cmp c.add_branch.new.firsts key)
          (omega (arith, c.loop-left-test.true, l.invariant.0)) (l.invariant.1 key ∙ ap (branch_from test branches) one) (c.in_ok-add_branch.ensures key),
    )

pub returns : goal.returns
returns c = λ key.
    branch_first (passes (schema_nodes c.args.reader.now) (is_own c.args.texts.now key.0 key.1)) c.args.branches.now c.loop-left.left (get key_cmp c.loop-left.firsts key)
    (omega (arith, c.loop-left-test.false)) (c.loop-left.invariant.1 key)
