use Rattle.std.proofs.Common.{rules}
use Rattle.avro_binary.proofs.public.Zipped.{zipped-push}
use Rattle.avro_binary.proofs.wrapping.WrappingMake.field.Goals as goal

pub returns-clause-stands : goal.returns-clause-stands
returns-clause-stands g c = λ nodes fs id at vs v stand under is.
    let more = zipped-push g.B.Build.stands_for c.args.fields.now.items vs c.args.value v stand is in search rules
