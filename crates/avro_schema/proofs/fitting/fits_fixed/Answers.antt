use Rattle.std.proofs.Common.{refl}
use Rattle.avro_schema.proofs.DatumRanges.{are_bytes-items}
use Rattle.avro_schema.proofs.fitting.fits_fixed.Goals as goal

pub returns-in-Fixed : goal.returns-in-Fixed
returns-in-Fixed c = λ nodes. rw (c.in-Fixed.is, are_bytes-items c.args.bytes.now c.type_inv.bytes, c.len.ensures, c.args.bytes.now.ok.0) refl
