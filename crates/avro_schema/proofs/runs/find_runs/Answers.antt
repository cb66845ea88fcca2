use Rattle.std.proofs.Common.{List, sym, subst, ◌∙◌, ap, arith}
use Rattle.std.specs.Global.{Vec}
use Rattle.avro_schema.specs.Node.{Node as SeenNode, node_at}
use Rattle.avro_schema.specs.Runs.{AreAllRuns, AreRuns, ids_at}
use Rattle.avro_schema.specs.Seen.{node_of, nodes_of}
use Rattle.avro_schema.specs.declared.runs.EmptyFields.{EmptyFields}
use Rattle.avro_schema.proofs.RunData.{list_behind, node_here}
use Rattle.avro_schema.proofs.runs.find_runs.Goals as goal

pub loop-i-preserved : goal.loop-i-preserved
loop-i-preserved c = record {
  count = omega (arith, c.in_ok-push.ensures.len, c.loop-i.invariant.count);
  found = λ are.
      let nodes : List SeenNode = nodes_of c.args.nodes.now in
      let same = ap node_of c.index-nodes-i.is ∙ node_here c.args.nodes.now c.loop-i.i c.index-nodes-i.result c.loop-i-test.true ∙ ap (node_at nodes) (sym c.loop-i.invariant.count) in
      subst (λ (lists : List (Vec EmptyFields)). AreAllRuns nodes lists) (sym c.in_ok-push.ensures.items)
      (list_behind nodes c.loop-i.lists.items c.in_ok-runs.runs (c.loop-i.invariant.found are)
      (subst (λ (n : SeenNode). AreRuns nodes (ids_at n) c.in_ok-runs.runs.items) same (c.in_ok-runs.ensures nodes are)));
}
