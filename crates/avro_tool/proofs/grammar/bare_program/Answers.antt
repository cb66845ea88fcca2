use Rattle.std.proofs.Common.{◌≡◌, ◌∙◌, true, ap, codes}
use Rattle.std.proofs.lemmas.Result.{IfOk-weaker}
use Rattle.clap.specs.Simple.{app_of, app_of_fields, new_app, on_top}
use Rattle.avro_tool.proofs.grammar.bare_program.Goals as goal

pub returns : goal.returns
returns c =
    let about_is : app_of c.about.result ≡ app_of c.new.result = ap app_of_fields c.about.ensures in
    let version_is : app_of c.version.result ≡ on_top (λ s. record s { has_version = true }) (app_of c.about.result) = ap app_of_fields c.version.ensures in
    let no_name_is : app_of c.no_binary_name.result ≡ on_top (λ s. record s { no_binary_name = true }) (app_of c.version.result) = ap app_of_fields c.no_binary_name.ensures in
    let required_is : app_of c.subcommand_required.result ≡ on_top (λ s. record s { subcommand_required = true }) (app_of c.no_binary_name.result) = ap app_of_fields c.subcommand_required.ensures in
    let start : app_of c.about.result ≡ new_app (codes "avro") = about_is ∙ c.new.ensures.app in
    let top = required_is ∙ ap (on_top (λ s. record s { subcommand_required = true })) (no_name_is ∙ ap (on_top (λ s. record s { no_binary_name = true })) (version_is ∙ ap (on_top (λ s. record s { has_version = true })) start)) in
    IfOk-weaker c.bin_name.result _ _ (λ r h. ap app_of_fields h.0 ∙ top) c.bin_name.ensures
