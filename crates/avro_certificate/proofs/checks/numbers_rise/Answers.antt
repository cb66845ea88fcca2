use Rattle.avro_certificate.proofs.public.Rising.{numbers_rise}
use Rattle.avro_certificate.proofs.checks.numbers_rise.Goals as goal

pub loop-number-init : goal.loop-number-init
loop-number-init c = numbers_rise c.args.numbers.now
