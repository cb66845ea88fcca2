use Rattle.avro_schema.specs.Node.{node_at}
use Rattle.avro_packed.proofs.IntoBranches.{holds_union}
use Rattle.avro_packed.proofs.putting.AppendingMake.branch.Goals as goal

pub returns-clause-stands : goal.returns-clause-stands
returns-clause-stands c = λ nodes ids id at v named none holds.
    holds_union c.args.self.now.bytes c.args.value (node_at nodes id) ids c.args._branch id at v none holds
