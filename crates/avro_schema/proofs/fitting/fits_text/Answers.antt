use Rattle.std.proofs.Common.{refl}
use Rattle.avro_schema.proofs.DatumRanges.{is_text-string}
use Rattle.avro_schema.proofs.fitting.fits_text.Goals as goal

pub returns-in-Str : goal.returns-in-Str
returns-in-Str c = λ nodes. rw (c.in-Str.is, is_text-string c.args.text.now) refl
