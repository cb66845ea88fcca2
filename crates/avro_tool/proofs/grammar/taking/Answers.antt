use Rattle.std.proofs.Common.{◌∙◌, ap}
use Rattle.clap.specs.Walk.{Rule}
use Rattle.avro_tool.specs.inside.Grammar.{rule_choosing}
use Rattle.avro_tool.proofs.grammar.taking.Goals as goal

pub returns-in-Option : goal.returns-in-Option
returns-in-Option c = rw c.in-Option.is (c.choosing.ensures ∙ ap (λ (r : Rule). rule_choosing r c.in-Option.choice) c.option.ensures)
