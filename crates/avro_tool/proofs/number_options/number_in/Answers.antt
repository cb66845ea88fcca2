use Rattle.std.proofs.Common.{◌∙◌, Ok, Some, None, ap}
use Rattle.std.proofs.lemmas.Option.{none-some}
use Rattle.std.specs.Str.Parse.{ParsesUnsigned, ExplainsUnsignedError, HasUnsignedDigitsIfOk}
use Rattle.clap.specs.Matches.{found_of, one_text}
use Rattle.avro_tool.specs.inside.PlainFound.{default_digits}
use Rattle.avro_tool.proofs.FoundLemmas.{reads_default, some_same}
use Rattle.avro_tool.proofs.number_options.number_in.Goals as goal

pub returns-in-Some : goal.returns-in-Some
returns-in-Some c = λ e.
    let read = c.in-Some.ensures.value (default_digits c.args.option) (ap (one_text (found_of c.args.matches.now)) c.word.ensures ∙ e) in
    ap Ok (some_same _ _ (reads_default (λ bs r. ParsesUnsigned 32 10 bs r × ExplainsUnsignedError 10 bs r × HasUnsignedDigitsIfOk bs r) c.args.option (Some c.in-Some.number) read (λ t x g. g.0)))

pub returns-in-None : goal.returns-in-None
returns-in-None c = λ e.
    let read = c.in-None.ensures.value (default_digits c.args.option) (ap (one_text (found_of c.args.matches.now)) c.word.ensures ∙ e) in
    absurd (none-some _ (reads_default (λ bs r. ParsesUnsigned 32 10 bs r × ExplainsUnsignedError 10 bs r × HasUnsignedDigitsIfOk bs r) c.args.option None read (λ t x g. g.0)))
