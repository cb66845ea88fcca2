use Rattle.std.proofs.Common.{◌∙◌}
use Rattle.avro_history.specs.HistoryText.{sets_text}
use Rattle.avro_history.proofs.Fronts.{parted_at}
use Rattle.avro_history.proofs.cutting.split_certificate.Goals as goal

pub returns-clause-parted : goal.returns-clause-parted
returns-clause-parted c = λ s more e.
    let parts = parted_at c.args.text.now (sets_text s) more c.certificate_len.result (c.certificate_len.ensures.exact s more e) e in
    (c.split_at.ensures.front ∙ parts.0, c.split_at.ensures.back ∙ parts.1)
