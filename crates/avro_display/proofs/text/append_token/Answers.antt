use Rattle.std.proofs.Common.{◌∙◌}
use Rattle.json.specs.Reads.{token_of}
use Rattle.avro_display.proofs.public.Putting.{on_ok}
use Rattle.avro_display.proofs.Texts.{one_written}
use Rattle.avro_display.proofs.text.append_token.Goals as goal

pub returns : goal.returns
returns c =
    let wrote = c.in_ok-token.ensures in
    on_ok (one_written c.args.held.now.items c.append_written.new.held.items _ c.writer_in-writer.result.tokens _ (token_of c.args.token) (wrote.room.0 ∙ c.writer_in-writer.ensures.before)
    c.writer_in-writer.ensures.tokens wrote.ok) c.append_written.result c.append_written.ensures
