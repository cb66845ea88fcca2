use Rattle.std.proofs.Common.{◌≡◌, ◌++◌, drop, map}
use Rattle.clap.specs.Walk.{rule_of}
use Rattle.avro_tool.specs.inside.Grammar.{rule_in}
use Rattle.avro_tool.proofs.grammar.arguments_of.Given as goal

abbrev pub invariant-loop-argument : goal.invariant-loop-argument
invariant-loop-argument l = map rule_of l.args.items ++ map rule_in (drop l.argument-index l.arguments) ≡ map rule_in l.arguments
