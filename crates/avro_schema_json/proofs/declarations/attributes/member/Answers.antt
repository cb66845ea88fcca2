use Rattle.avro_schema_json.proofs.Words.{option_map, ap, ◌∙◌, view, view_of_ref, view-lookup}
use Rattle.avro_schema_json.proofs.declarations.attributes.member.Goals as goal

pub returns : goal.returns
returns c = view_of_ref c.get.result ∙ ap (option_map view) c.get.ensures.value ∙ view-lookup c.args.key.now c.args.members.now.entries
