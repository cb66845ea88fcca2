use Rattle.std.proofs.Common.{flat_map}
use Rattle.std.specs.Prelude.{codes}
use Rattle.avro_certificate.specs.CertificateText.{dead_line, pair_line}
use Rattle.avro_certificate.specs.SeenPair.{pairs_of}
use Rattle.avro_certificate.proofs.LineTexts.{joined}
use Rattle.avro_certificate.proofs.writing.write_text.Goals as goal

pub returns : goal.returns
returns c =
    joined c.args.text.now.items c.extend_from_slice.new.self.items c.write_dead.new.text.items c.write_pairs.new.text.items c.extend_from_slice-2.new.self.items
    (codes "approval 1\n") (flat_map dead_line c.args.dead.now) (flat_map pair_line (pairs_of c.args.pairs.now)) (codes "end\n")
    c.in_ok-extend_from_slice.ensures.items c.in_ok-write_dead.ensures c.in_ok-write_pairs.ensures c.in_ok-extend_from_slice-2.ensures.items
