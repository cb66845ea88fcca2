use Rattle.std.proofs.Common.{◌∙◌, ap, ap₂}
use Rattle.std.proofs.lemmas.Result.{IfOk-weaker}
use Rattle.clap.specs.Simple.{App, with_subcommand}
use Rattle.avro_tool.proofs.grammar.program_with.Goals as goal

pub returns : goal.returns
returns c =
    IfOk-weaker c.subcommand.result _ _ (λ r h. h.shape c.in_ok-command.ensures.1 ∙ ap₂ with_subcommand c.in_ok-bare_program.ensures (ap (λ (a : App). a.top) c.in_ok-command.ensures.0)) c.subcommand.ensures
