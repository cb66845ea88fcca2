use Rattle.std.proofs.Common.{rules}
use Rattle.avro_schema_json.proofs.MarksSeen.{steps-stay, stays-appended, whole-marked}
use Rattle.avro_schema_json.proofs.defaults.marks.mark_whole.Goals as goal

pub returns-clause-steps : goal.returns-clause-steps
returns-clause-steps c = steps-stay c.args.tables.now.parents c.args.marks.now.memo c.number_of.new.sets c.in_ok-set.ensures.kept c.requires.steps

pub returns-clause-stays : goal.returns-clause-stays
returns-clause-stays c = stays-appended c.args.marks.now _ c.args.parts.now c.in_ok-set.ensures.kept c.in_ok-extend_from_slice.ensures.items

pub returns-clause-marked : goal.returns-clause-marked
returns-clause-marked c = λ nodes last d covers parts.
    whole-marked nodes last c.args.marks.now _ d c.args.row.now.words c.args.parts.now _
    (stays-appended c.args.marks.now _ c.args.parts.now c.in_ok-set.ensures.kept c.in_ok-extend_from_slice.ensures.items) c.in_ok-extend_from_slice.ensures.items
    c.in_ok-set.ensures.found (search rules) (search rules) covers parts
