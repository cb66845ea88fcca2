use Rattle.std.proofs.Common.{◌≡◌, ◌∙◌, None, Some, sym, ap, arith, rules}
use Rattle.avro_schema.specs.Seen.{value_of}
use Rattle.avro_schema.specs.SeenSchema.{schema_nodes}
use Rattle.avro_compare.specs.declared.comparison.Target.TheVariants.{To}
use Rattle.avro_show.specs.Showing.{reader_node, writer_node, resolved_levels, shown}
use Rattle.avro_show.proofs.Objects.{below_more}
use Rattle.avro_show.proofs.Made.{unmapped}
use Rattle.avro_show.specs.Taken.{taken_as}
use Rattle.avro_schema.specs.Value.{Value}
use Rattle.avro_show.proofs.opening.opened_written.Goals as goal

pub returns-in-To-None-default-clause-opens : goal.returns-in-To-None-default-clause-opens
returns-in-To-None-default-clause-opens c = λ u d written shows.
    let s = c.args.plan.now in
    let is : c.target.result ≡ To None c.in-To-None-default.q = search rules in
    let led = rw is at c.target.ensures in
    let taken = led (taken_as (schema_nodes s.0) (schema_nodes s.1) (writer_node s c.out_of_unions.result.0) (value_of c.out_of_unions.result.1.now)) in
    c.opened_targeted.ensures.opens u d (rw (c.targeted.ensures.of_writer, c.targeted.ensures.of_reader, ← taken) (c.out_of_unions.ensures.resolves u written)) shows

pub returns-in-To-Some-default-clause-opens : goal.returns-in-To-Some-default-clause-opens
returns-in-To-Some-default-clause-opens c = λ u d written shows.
    let s = c.args.plan.now in
    let k = c.in-To-Some-default.branch in
    let pair = c.targeted-in-To-Some-default in
    let is : c.target.result ≡ To (Some k) c.in-To-Some-default.q = search rules in
    let led = rw is at c.target.ensures in
    let taken = led (taken_as (schema_nodes s.0) (schema_nodes s.1) (writer_node s c.out_of_unions.result.0) (value_of c.out_of_unions.result.1.now)) in
    let all = unmapped (Value.union k) (taken_as (schema_nodes s.0) (schema_nodes s.1) (writer_node s pair.result) (value_of c.out_of_unions.result.1.now) (reader_node s pair.result)) u
    (rw (pair.ensures.of_writer, pair.ensures.of_reader, ← taken) (c.out_of_unions.ensures.resolves u written)) in
    c.opened_branch.ensures.opens s all.0 d all.1
    (rw (c.branch-node.ensures, c.node.ensures) (shows ∙ ap (shown c.args.table.now c.args.id) (sym all.2)))

pub returns-in-To-Some-default-clause-levels : goal.returns-in-To-Some-default-clause-levels
returns-in-To-Some-default-clause-levels c =
    below_more (resolved_levels c.args.plan.now) _ _ c.opened_branch.result (omega (arith, c.out_of_unions.ensures.depth)) (c.opened_branch.ensures.levels c.args.plan.now)
