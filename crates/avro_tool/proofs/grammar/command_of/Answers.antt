use Rattle.std.proofs.Common.{◌≡◌, ◌∙◌, false, true, fold, map, ap, ap₂}
use Rattle.std.specs.List.{list_all}
use Rattle.std.proofs.lemmas.Result.{IfOk-weaker}
use Rattle.clap.specs.Simple.{app_of, app_of_fields, new_app, with_rule}
use Rattle.clap.specs.Walk.{Rule, rule_of}
use Rattle.clap.specs.declared.builder.command.Command.TheViews.{out-Command}
use Rattle.avro_tool.proofs.GrammarLemmas.{added_rules, rows_simple}
use Rattle.avro_tool.proofs.grammar.command_of.Goals as goal

pub returns : goal.returns
returns c =
    let about_is : app_of c.about.result ≡ new_app c.args.words.0.now = ap app_of_fields c.about.ensures ∙ c.new.ensures.app in
    let local : (out-Command c.about.result).has_globals ≡ false = ap (λ f. f.has_globals) c.about.ensures ∙ c.new.ensures.local in
    let rows = c.in_ok-args.ensures in
    let simple : list_all (λ (r : Rule). r.is_simple) (map rule_of c.in_ok-args.args.items) ≡ true = ap (list_all (λ (r : Rule). r.is_simple)) rows ∙ rows_simple c.args.words.2.now in
    IfOk-weaker c.args-2.result _ _ (λ r h.
    let added = added_rules c.about.result r c.in_ok-args.args.items h local simple in
    (added.0 ∙ ap₂ (fold with_rule) about_is rows, added.1)) c.args-2.ensures
