use Rattle.std.proofs.Common.{ℕ, List}
use Rattle.std.proofs.lemmas.Result.{err_from_is_err_and, IfErr-weaker, IfOk-weaker}
use Rattle.avro_schema.specs.SeenSchema.{schema_nodes}
use Rattle.avro_answer.specs.ReadText.{IsReadAs}
use Rattle.avro_tool.proofs.KnownTexts.{known_is}
use Rattle.avro_tool.proofs.Refusing.{certificate_three, is_schema, two_three}
use Rattle.avro_tool.proofs.commands.confirm.confirm_files.Goals as goal

pub returns : goal.returns
returns g c =
    let known = g.T.Texts.known c.args.texts.now in
    let writer = c.args.writer.now in
    let reader = c.args.reader.now in
    let certificate = c.args.certificate.now in
    let written = schema_nodes c.in_ok-writer.writer.1 in
    let read = schema_nodes c.in_ok-writer.reader in
    record {
      answered = λ form. IfOk-weaker c.confirm_pair.result _ _ (λ f told. λ w r t is_written is_read is_certificate. told w r t
          (rw c.schema.ensures.schema (known_is (λ (b : List ℕ). IsReadAs b written) (known writer) w is_written c.in_ok-writer.ensures.written))
          (known_is (λ (b : List ℕ). IsReadAs b read) (known reader) r is_read c.in_ok-writer.ensures.read) is_certificate) (c.confirm_pair.ensures.answered form);
      refused = IfErr-weaker c.confirm_pair.result _ _ (certificate_three known writer reader certificate (is_schema (known writer) written c.in_ok-writer.ensures.written)
          (is_schema (known reader) read c.in_ok-writer.ensures.read)) c.confirm_pair.ensures.refused;
    }

pub returns-in_err-writer : goal.returns-in_err-writer
returns-in_err-writer g c =
    let p = err_from_is_err_and c.from_residual.result c.from_residual.ensures.1 in
    rw (p.1, p.2) (record {
      answered = λ form. tt;
      refused = two_three (g.T.Texts.known c.args.texts.now) c.args.writer.now c.args.reader.now c.args.certificate.now c.in_err-writer.field-0.0 c.in_err-writer.ensures.refused;
    })
