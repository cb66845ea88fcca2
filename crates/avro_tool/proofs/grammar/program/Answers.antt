use Rattle.std.proofs.Common.{◌∙◌, ap}
use Rattle.std.proofs.lemmas.Result.{IfOk-weaker}
use Rattle.avro_tool.specs.inside.Grammar.{app_with}
use Rattle.avro_tool.proofs.grammar.program.Goals as goal

pub returns-in-Some : goal.returns-in-Some
returns-in-Some c = λ plain files e. IfOk-weaker c.program_with.result _ _ (λ r h. h ∙ ap app_with (c.in-Some.ensures plain files e)) c.program_with.ensures

pub returns-in-None : goal.returns-in-None
returns-in-None c = λ plain files e. absurd (c.in-None.ensures plain files e)
