-- By the clause `refused` of the block's reading.
use Rattle.avro_migration.proofs.ReadData.{read-resolves-at}
use Rattle.avro_migration.proofs.migrating.read_after_a_yes.Goals as goal

pub returns-clause-resolves : goal.returns-clause-resolves
returns-clause-resolves g c =
    read-resolves-at c.args.block.now.limits c.args.plan.now c.args.approved.now c.args.block.now.header.now.sync c.args.block.now.number c.args.block.now.count
    c.args.block.now.body.items c.read_by.result c.requires.same c.schemas.ensures.compatible c.read_by.ensures.refused
