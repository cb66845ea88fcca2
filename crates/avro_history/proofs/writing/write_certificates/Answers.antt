use Rattle.std.proofs.Common.{◌∙◌}
use Rattle.avro_history.proofs.Written.{text_more, rising_more}
use Rattle.avro_history.proofs.writing.write_certificates.Goals as goal

pub loop-certificate-preserved : goal.loop-certificate-preserved
loop-certificate-preserved c =
    let so_far = c.loop-certificate.invariant in
    let told = c.in_ok-write_certificate.ensures in record {
      written = text_more c.args.certificates.now c.loop-certificate.certificate-index c.certificate-item.result c.loop-certificate.text.items c.write_certificate.new.text.items
          c.loop-certificate-test.true c.certificate-item.is told.written ∙ so_far.written;
      rising = λ h. so_far.rising (rising_more c.args.certificates.now c.loop-certificate.certificate-index c.certificate-item.result c.loop-certificate-test.true
          c.certificate-item.is told.rising h);
    }
