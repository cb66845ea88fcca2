use Rattle.std.proofs.Common.{◌≡◌, subst}
use Rattle.avro_schema.specs.Node.{Node, node_at}
use Rattle.avro_schema.specs.Seen.{node_of}
use Rattle.avro_schema.specs.SeenSchema.{schema_nodes}
use Rattle.avro_least.specs.Asked.{asked}
use Rattle.avro_least.specs.Asks.{IsKept, view_of}
use Rattle.avro_least.specs.inside.Parts.{nodes_of}
use Rattle.avro_least.proofs.KeptParts.{kept_of_view}
use Rattle.avro_least.proofs.pairs.asking.ask_of_pair.Goals as goal

pub returns-clause-shown : goal.returns-clause-shown
returns-clause-shown c =
    let writer = schema_nodes c.args.writer.now in
    let reader = schema_nodes c.args.reader.now in
    subst (λ (n : Node). view_of (nodes_of n) c.ask_nodes.result ≡ asked writer reader n (node_at reader c.args.pair.now.r.0)) c.get-from.ensures.node
    (subst (λ (q : Node). view_of (nodes_of (node_of c.get-from.result.now)) c.ask_nodes.result ≡ asked writer reader (node_of c.get-from.result.now) q) c.get-to.ensures.node
    c.ask_nodes.ensures.shown)

pub returns-clause-kept : goal.returns-clause-kept
returns-clause-kept c =
    let writer = schema_nodes c.args.writer.now in
    let reader = schema_nodes c.args.reader.now in
    let n = node_of c.get-from.result.now in
    let q = node_of c.get-to.result.now in
    subst (λ (m : Node). IsKept c.ask_nodes.result (asked writer reader m (node_at reader c.args.pair.now.r.0))) c.get-from.ensures.node
    (subst (λ (m : Node). IsKept c.ask_nodes.result (asked writer reader n m)) c.get-to.ensures.node
    (kept_of_view n q c.ask_nodes.result (asked writer reader n q) c.ask_nodes.ensures.shown c.ask_nodes.ensures.taken))
