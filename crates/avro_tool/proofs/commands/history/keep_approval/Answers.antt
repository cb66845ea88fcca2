use Rattle.avro_schema.specs.SeenSchema.{schema_nodes}
use Rattle.avro_tool.proofs.Kept.{adds_one}
use Rattle.avro_tool.proofs.commands.history.keep_approval.Goals as goal

pub returns : goal.returns
returns c =
    adds_one (schema_nodes c.args.approved.now.0) (schema_nodes c.args.approved.now.1) c.args.certificates.now.items c.push.new.self.items
    c.in_ok-certificate.certificate c.in_ok-push.ensures.items c.in_ok-certificate.ensures.confirmed
