use Rattle.avro_show.proofs.Opened.{branch_stands}
use Rattle.avro_show.proofs.displaying.DisplayingMake.branch.Goals as goal

pub returns-clause-stands : goal.returns-clause-stands
returns-clause-stands c = λ nodes ids id at v got apart stands.
    branch_stands c.args.self.now.table.now c.args.self.now.scratch.now.text at nodes ids c.args._branch id v c.args.value got apart stands
