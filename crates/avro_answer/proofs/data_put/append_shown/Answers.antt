use Rattle.std.proofs.Common.{◌∙◌, ◌++◌, List, ℕ, ap}
use Rattle.avro_answer.specs.inside.DatumParts.{text_around}
use Rattle.avro_answer.proofs.data_put.append_shown.Goals as goal

pub returns-in-Ok-clause-appended : goal.returns-in-Ok-clause-appended
returns-in-Ok-clause-appended c = λ display stands.
    c.in-Ok.ensures ∙ ap (λ (d : List ℕ). c.args.text.now.items ++ text_around c.args.form d c.args.len) (c.shown.ensures display stands)
