use Rattle.avro_schema_json.proofs.ParentsSeen.{word-added, words-added}
use Rattle.avro_schema_json.proofs.defaults.parents.put_parents.Goals as goal

pub loop-word-preserved : goal.loop-word-preserved
loop-word-preserved c =
    word-added c.args.words.now c.loop-word.word-index _ c.args.row.now.words c.loop-word.row.words c.put_bits.new.row.words c.loop-word-test.true c.put_bits.ensures.kept
    c.put_bits.ensures.added c.loop-word.invariant

pub returns-clause-added : goal.returns-clause-added
returns-clause-added c =
    words-added c.args.words.now c.loop-word.word-index c.args.row.now.words c.loop-word.row.words c.loop-word-test.false c.loop-word.invariant
