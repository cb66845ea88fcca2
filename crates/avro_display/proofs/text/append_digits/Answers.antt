use Rattle.std.proofs.Common.{◌∙◌, ◌++◌, ℕ, ℤ, List, ap, of_z, to_z, w64}
use Rattle.std.proofs.lemmas.Int.{to_z-of_z}
use Rattle.std.specs.Fmt.{signed_decimal}
use Rattle.json.specs.Token.{number}
use Rattle.avro_display.proofs.public.Putting.{on_ok}
use Rattle.avro_display.proofs.Texts.{digits_text, one_written}
use Rattle.avro_display.proofs.text.append_digits.Goals as goal

pub returns : goal.returns
returns c =
    let wrote = c.in_ok-i64.ensures in
    let same = to_z-of_z w64 c.args.number c.ranges.number in
    on_ok (λ is. one_written c.args.held.now.items c.append_written.new.held.items _ c.writer_in-writer.result.tokens _ (number (signed_decimal (to_z w64 (of_z w64 c.args.number))))
    (wrote.room.0 ∙ c.writer_in-writer.ensures.before) c.writer_in-writer.ensures.tokens wrote.ok is
    ∙ ap (λ (i : ℤ). c.args.held.now.items ++ signed_decimal i) same ∙ ap (λ (b : List ℕ). c.args.held.now.items ++ b) (digits_text c.args.number))
    c.append_written.result c.append_written.ensures
