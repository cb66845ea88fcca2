use Rattle.std.proofs.Common.{ℕ, List}
use Rattle.std.proofs.lemmas.Result.{IfErr-weaker, IfOk-weaker}
use Rattle.avro_schema.specs.SeenSchema.{schema_nodes}
use Rattle.avro_certificate.specs.CertificateText.{CertText}
use Rattle.avro_certificate.specs.SeenCertificate.{dead_of, pairs_in}
use Rattle.avro_tool.proofs.KnownTexts.{known_is}
use Rattle.avro_tool.proofs.Refusing.{nothing_certificate, put_nothing}
use Rattle.avro_tool.proofs.commands.confirm.confirm_pair.Goals as goal

pub returns-clause-answered : goal.returns-clause-answered
returns-clause-answered g c = λ form.
    let given = c.in_ok-certificate.certificate in
    IfOk-weaker c.tell_confirmed.result _ _ (λ f told. λ w r t is_writer is_reader is_certificate. (
      (told form).0,
      record {
        written = schema_nodes c.args.writer.now;
        read = schema_nodes c.args.reader.now;
        dead = dead_of given;
        pairs = pairs_in given;
        declares_written = is_writer;
        declares_read = is_reader;
        certifies = known_is (λ (b : List ℕ). CertText (dead_of given) (pairs_in given) b) (g.T.Texts.known c.args.texts.now c.args.certificate.now) t is_certificate c.in_ok-certificate.ensures.found;
        small = c.in_ok-certificate.ensures.small;
        answered = (told form).1;
      },
      (told form).2,
    )) c.tell_confirmed.ensures.answered

pub returns-clause-refused : goal.returns-clause-refused
returns-clause-refused g c =
    IfErr-weaker c.tell_confirmed.result _ _ (λ f h. nothing_certificate (g.T.Texts.known c.args.texts.now) c.args.certificate.now f (put_nothing f h)) c.tell_confirmed.ensures.fails.only
