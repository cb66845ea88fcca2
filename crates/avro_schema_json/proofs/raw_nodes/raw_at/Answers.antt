use Rattle.avro_schema_json.proofs.Words.{◌≡◌, Option, Bor, arith, option_map, unwrap_or, KeptNode as RawNode, without_defaults, node_or_null}
use Rattle.avro_schema_json.proofs.DefaultsSeen.{node_at-raws}
use Rattle.avro_schema_json.proofs.raw_nodes.raw_at.Goals as goal

behind : (found : Option (Bor RawNode)) → node_or_null found ≡ without_defaults (unwrap_or (option_map (λ x. x.now) found) RawNode.Null)
behind found = grind arith

pub returns : goal.returns
returns c = grind (arith, behind, node_at-raws)
