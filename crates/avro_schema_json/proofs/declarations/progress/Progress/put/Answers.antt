use Rattle.avro_schema_json.proofs.Words.{map-set, raw_node_of}
use Rattle.avro_schema_json.proofs.declarations.progress.Progress.put.Goals as goal

pub returns-clause-nodes : goal.returns-clause-nodes
returns-clause-nodes c = map-set raw_node_of c.args.self.now.nodes.items c.args.id.0 c.args.node
