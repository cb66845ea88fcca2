use Rattle.std.proofs.Common.{ap, ◌∙◌, List}
use Rattle.avro_schema.specs.Value.{Value}
use Rattle.avro_schema.specs.Seen.{value_of, values_from}
use Rattle.avro_binary.proofs.DatumParts.{value_of-Record}
use Rattle.avro_binary.proofs.public.Zipped.{zipped-map}
use Rattle.avro_binary.proofs.tree.TreeBuild.fields.Goals as goal

pub returns : goal.returns
returns c = λ vs are. value_of-Record c.args.values ∙ ap (λ (xs : List Value). Value.record_of (values_from xs)) (zipped-map value_of c.args.values.items vs are)
