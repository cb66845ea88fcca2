use Rattle.avro_certificate.specs.SeenPair.{pairs_of}
use Rattle.avro_certificate.proofs.public.Rising.{pairs_rise}
use Rattle.avro_certificate.proofs.checks.pairs_rise.Goals as goal

pub loop-pair-init : goal.loop-pair-init
loop-pair-init c = pairs_rise (pairs_of c.args.pairs.now)
