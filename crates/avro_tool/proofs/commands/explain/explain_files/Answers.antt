use Rattle.std.proofs.Common.{ℕ, List}
use Rattle.std.proofs.lemmas.Result.{err_from_is_err_and, IfErr-weaker, IfOk-weaker}
use Rattle.avro_schema.specs.SeenSchema.{schema_nodes}
use Rattle.avro_answer.specs.ReadText.{IsReadAs}
use Rattle.avro_tool.proofs.KnownTexts.{known_is}
use Rattle.avro_tool.proofs.Refusing.{nothing_two, put_nothing}
use Rattle.avro_tool.proofs.commands.explain.explain_files.Goals as goal

pub returns : goal.returns
returns g c =
    let asked = c.args.asked.now in
    let known = g.T.Texts.known c.args.texts.now in
    let written = schema_nodes c.schema.result.now in
    let read = schema_nodes c.in_ok-writer.reader in
    record {
      answered = λ form. IfOk-weaker c.explain_pair.result _ _ (λ f told. λ w r writer reader. (
        (told form).0,
        record {
          written = written;
          read = read;
          declares_written = rw c.schema.ensures.schema (known_is (λ (t : List ℕ). IsReadAs t (schema_nodes c.in_ok-writer.writer.1)) (known asked.writer.now) w writer c.in_ok-writer.ensures.written);
          declares_read = known_is (λ (t : List ℕ). IsReadAs t read) (known asked.reader.now) r reader c.in_ok-writer.ensures.read;
          answered = (told form).1;
        },
        (told form).2,
      )) c.explain_pair.ensures.answered;
      refused = IfErr-weaker c.explain_pair.result _ _ (λ f h. nothing_two known asked.writer.now asked.reader.now f (put_nothing f h)) c.explain_pair.ensures.fails.only;
    }

pub returns-in_err-writer : goal.returns-in_err-writer
returns-in_err-writer g c =
    let p = err_from_is_err_and c.from_residual.result c.from_residual.ensures.1 in
    rw (p.1, p.2) (record { answered = λ form. tt; refused = c.in_err-writer.ensures.refused })
