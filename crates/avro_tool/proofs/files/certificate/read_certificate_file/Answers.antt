use Rattle.std.proofs.Common.{◌≡◌, ℕ, List, subst, sym}
use Rattle.std.specs.Option.{IfSome}
use Rattle.avro_certificate.specs.CertificateText.{CertText}
use Rattle.avro_certificate.specs.SeenCertificate.{dead_of, pairs_in}
use Rattle.avro_tool.proofs.KnownTexts.{so_of_known}
use Rattle.avro_tool.proofs.Refusing.{certificate_refused}
use Rattle.avro_tool.proofs.files.certificate.read_certificate_file.Goals as goal

pub returns-in-Ok-clause-found : goal.returns-in-Ok-clause-found
returns-in-Ok-clause-found g c =
    let read = c.in-Ok.certificate in
    let known = g.T.Texts.known c.args.texts.now c.args.word.now in
    so_of_known (λ (text : List ℕ). CertText (dead_of read) (pairs_in read) text) known c.deref.result.now
    (subst (λ (b : List ℕ). IfSome known (λ (all : List ℕ). b ≡ all)) (sym c.deref.ensures.value) c.in_ok-bytes.ensures.found) c.in-Ok.ensures.found

pub returns-clause-refused : goal.returns-clause-refused
returns-clause-refused g c =
    let known = g.T.Texts.known c.args.texts.now in
    certificate_refused known c.args.word c.deref.result.now c.in-Err.e c.of_certificate.result
    (subst (λ (b : List ℕ). IfSome (known c.args.word.now) (λ (all : List ℕ). b ≡ all)) (sym c.deref.ensures.value) c.in_ok-bytes.ensures.found)
    c.in-Err.ensures.refused c.of_certificate.ensures.memory c.of_certificate.ensures.refused
