use Rattle.std.proofs.Common.{refl}
use Rattle.avro_schema.proofs.DatumRanges.{are_bytes-items}
use Rattle.avro_schema.proofs.fitting.fits_bytes.Goals as goal

pub returns-in-Bytes : goal.returns-in-Bytes
returns-in-Bytes c = λ nodes. rw (c.in-Bytes.is, are_bytes-items c.args.bytes.now c.type_inv.bytes) refl
