use Rattle.std.proofs.Common.{◌≡◌, ◌∙◌, Bool, false, not, ap}
use Rattle.std.proofs.lemmas.Result.{IfOk-weaker}
use Rattle.clap.specs.Simple.{new_rule}
use Rattle.clap.specs.Walk.{Rule, rule_of}
use Rattle.avro_tool.specs.inside.Grammar.{rule_taking}
use Rattle.avro_tool.proofs.GrammarLemmas.{rival_rule, unrivalled}
use Rattle.avro_tool.proofs.grammar.argument_of.Goals as goal

pub returns-in-Some : goal.returns-in-Some
returns-in-Some c =
    let id = c.args.argument.now.0.now in
    let takes = c.args.argument.now.1 in
    let base : rule_of c.help-arg.result ≡ rule_taking (new_rule id) id takes = ap rule_of c.help-arg.ensures ∙ (c.taking.ensures ∙ ap (λ (r : Rule). rule_taking r id takes) c.new.ensures.rule) in
    IfOk-weaker c.conflicts_with.result _ _ (λ r h. rival_rule c.help-arg.result r _ h ∙ (ap (λ (q : Rule). record q { is_free = false }) base
    ∙ ap (λ (b : Bool). record (rule_taking (new_rule id) id takes) { is_free = not b }) c.in-Some.ensures)) c.conflicts_with.ensures

pub returns-in-None : goal.returns-in-None
returns-in-None c =
    let id = c.args.argument.now.0.now in
    let takes = c.args.argument.now.1 in
    let base : rule_of c.help-arg.result ≡ rule_taking (new_rule id) id takes = ap rule_of c.help-arg.ensures ∙ (c.taking.ensures ∙ ap (λ (r : Rule). rule_taking r id takes) c.new.ensures.rule) in
    base ∙ unrivalled id takes _ c.in-None.ensures
