use Rattle.std.proofs.Common.{◌≡◌, true, nat_lt, length, rules, tests, sym, ◌∙◌}
use Rattle.std.proofs.lemmas.List.{length-map}
use Rattle.avro_schema.specs.Seen.{nodes_of, ids_of}
use Rattle.avro_schema.proofs.BranchKinds.{no_union, union_by_kinds}
use Rattle.avro_schema.proofs.DistinctBranches.{repeated_branch}
use Rattle.avro_schema.proofs.branches.is_union.Goals as goal

pub returns-in-Some : goal.returns-in-Some
returns-in-Some c =
    let some : nat_lt 0 (length (ids_of c.args.branches.now)) ≡ true = rw length-map (search (rules, tests)) in
    let kinds = union_by_kinds (nodes_of c.args.nodes.now) (ids_of c.args.branches.now) c.in_ok-kinds.field-0 c.in-Some.kinds c.in_ok-kinds.ensures c.in-Some.is some in
    rw (← kinds) c.are_unique_kinds.ensures

pub returns-in-None : goal.returns-in-None
returns-in-None c = no_union (nodes_of c.args.nodes.now) (ids_of c.args.branches.now) c.in_ok-kinds.field-0 c.in_ok-kinds.ensures c.in-None.is

pub returns-then-not-branch : goal.returns-then-not-branch
returns-then-not-branch c = repeated_branch (nodes_of c.args.nodes.now) (ids_of c.args.branches.now) (sym c.if-not-branch.true ∙ c.in_ok-are_unique_ids.ensures)
