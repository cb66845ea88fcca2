use Rattle.std.proofs.Common.{◌≡◌, length, rules, arith}
use Rattle.std.proofs.lemmas.Result.{err_from_is_err_and}
use Rattle.std.specs.Vec.{vec_len}
use Rattle.avro_tool.proofs.KnownTexts.{whole_known}
use Rattle.avro_tool.proofs.Refusing.{certificate_too_long, nothing_certificate}
use Rattle.avro_tool.proofs.files.certificate.bytes_of_certificates.Goals as goal

pub returns-clause-found : goal.returns-clause-found
returns-clause-found g c =
    let bytes = c.in_ok-bytes.bytes in
    let counted : vec_len bytes ≡ length bytes.items = search rules in
    let few = c.if-len-gt-MAX_LEN.false in
    let is = c.len.ensures in
    whole_known 268435456 (g.T.Texts.known c.args.texts.now c.args.word.now) bytes.items c.in_ok-bytes.ensures.found (omega (arith, few, is, counted))

pub returns-then-len-gt-MAX_LEN-clause-refused : goal.returns-then-len-gt-MAX_LEN-clause-refused
returns-then-len-gt-MAX_LEN-clause-refused g c =
    let bytes = c.in_ok-bytes.bytes in
    let counted : vec_len bytes ≡ length bytes.items = search rules in
    let long = c.if-len-gt-MAX_LEN.true in
    let is = c.len.ensures in
    rw (c.of_certificate.ensures.refused (λ h. absurd cc)) (certificate_too_long (g.T.Texts.known c.args.texts.now) c.args.word bytes.items c.in_ok-bytes.ensures.found (omega (arith, long, is, counted)))

pub returns-in_err-bytes-clause-refused : goal.returns-in_err-bytes-clause-refused
returns-in_err-bytes-clause-refused g c =
    let p = err_from_is_err_and c.from_residual.result c.from_residual.ensures.1 in
    rw (p.1, p.2) (nothing_certificate (g.T.Texts.known c.args.texts.now) c.args.word.now c.in_err-bytes.field-0.0 c.in_err-bytes.ensures.fails)
