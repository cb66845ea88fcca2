use Rattle.avro_tool.proofs.commands.history.keep_certificate.Goals as goal

pub returns-in-Approved : goal.returns-in-Approved
returns-in-Approved c = rw c.in-Approved.is c.keep_approval.ensures
