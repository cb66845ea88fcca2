use Rattle.std.proofs.Common.{refl, arith, ◌%◌}
use Rattle.avro_schema_json.proofs.RowsSeen.{bit-itself}
use Rattle.avro_schema_json.proofs.defaults.rows.put.Goals as goal

pub returns-clause-added : goal.returns-clause-added
returns-clause-added c = c.put_bits.ensures.added c.args.place refl (bit-itself (c.args.place % 64) (omega arith))
