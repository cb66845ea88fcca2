-- What the metadata say that is wrong.
use Rattle.std.proofs.Common.{sym, subst, ◌∙◌}
use Rattle.std.proofs.lemmas.Option.{same_Some}
use Rattle.avro_file.specs.inside.HeaderEnds.{SayNone}
use Rattle.avro_file.specs.Parts.{properties_of}
use Rattle.avro_file.proofs.HeaderEnds.{schema_stops}
use Rattle.avro_file.proofs.header.schema_and_codec.schema_of.Goals as goal

pub returns-in-None-clause-refused : goal.returns-in-None-clause-refused
returns-in-None-clause-refused c = λ f is. subst (SayNone (properties_of c.args.properties.now)) (same_Some _ _ is) (SayNone.schema_lacks c.in-None.ensures.none)

pub returns-then-not-has_plain_codec-clause-refused : goal.returns-then-not-has_plain_codec-clause-refused
returns-then-not-has_plain_codec-clause-refused c = λ f is.
    subst (SayNone (properties_of c.args.properties.now)) (same_Some _ _ is)
    (SayNone.other_codec c.in-Some.text.now c.in-Some.ensures.some (sym c.has_plain_codec.ensures ∙ c.if-not-has_plain_codec.true))

pub returns-clause-refused : goal.returns-clause-refused
returns-clause-refused c =
    schema_stops c.schema_in.result c.in-Some.text.now (properties_of c.args.properties.now) c.in-Some.ensures.some
    (sym c.has_plain_codec.ensures ∙ c.if-not-has_plain_codec.false) c.schema_in.ensures.refused
