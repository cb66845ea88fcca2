use Rattle.std.proofs.Common.{Some, refl, sym, ap, ◌∙◌, arith}
use Rattle.std.proofs.lemmas.Option.{slice_get-get_or}
use Rattle.avro_schema.specs.Value.{no_values}
use Rattle.avro_schema.specs.declared.runs.EmptyFields.{EmptyFields}
use Rattle.avro_binary.proofs.reading.fields.run_at.Goals as goal

pub returns-in-Some : goal.returns-in-Some
returns-in-Some c = λ nodes ids tells.
    let run = c.in-Some.run'.now in
    let found = c.in-Some.ensures.lookup in
    tells c.args.index run (slice_get-get_or c.args.runs.now c.args.index run found.3.0 ∙ ap (λ (r : EmptyFields). Some r) (sym found.1))

pub returns-in-None : goal.returns-in-None
returns-in-None c = λ nodes ids tells. record { few = omega arith; data_are = no_values; fitting = refl; empty = refl; counted = refl; deep = refl }
