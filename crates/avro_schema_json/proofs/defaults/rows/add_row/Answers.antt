use Rattle.std.proofs.Common.{arith}
use Rattle.avro_schema_json.proofs.RowsSeen.{or-within}
use Rattle.avro_schema_json.proofs.defaults.rows.add_row.Goals as goal

pub returns-clause-kept : goal.returns-clause-kept
returns-clause-kept c =
    (or-within c.loop-i.row.words c.args.row.now.words c.args.other.now.words
    (λ k below. (c.loop-i.invariant k).0 (omega (arith, c.loop-i-test.false, below)))).0

pub returns-clause-added : goal.returns-clause-added
returns-clause-added c =
    (or-within c.loop-i.row.words c.args.row.now.words c.args.other.now.words
    (λ k below. (c.loop-i.invariant k).0 (omega (arith, c.loop-i-test.false, below)))).1
