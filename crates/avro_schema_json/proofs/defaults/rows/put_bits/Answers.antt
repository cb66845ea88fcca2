use Rattle.std.proofs.Common.{arith, rules}
use Rattle.avro_schema_json.proofs.RowsSeen.{put-within, put-added}
use Rattle.avro_schema_json.proofs.defaults.rows.put_bits.Goals as goal

pub returns-then-word-lt64-clause-kept : goal.returns-then-word-lt64-clause-kept
returns-then-word-lt64-clause-kept c = put-within c.args.row.now.words c.args.word _ (search (rules, c.if-word-lt64.true))

pub returns-then-word-lt64-clause-added : goal.returns-then-word-lt64-clause-added
returns-then-word-lt64-clause-added c = grind (arith, put-added)
