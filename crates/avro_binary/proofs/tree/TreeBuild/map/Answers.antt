use Rattle.std.proofs.Common.{ap, ◌∙◌, List, ℕ}
use Rattle.avro_schema.specs.Value.{Value}
use Rattle.avro_schema.specs.Seen.{entries_from}
use Rattle.avro_schema.proofs.public.DatumViews.{value_of-Map}
use Rattle.avro_binary.proofs.tree.TreeBuild.map.Goals as goal

pub returns : goal.returns
returns c = λ es is. value_of-Map c.args.entries ∙ ap (λ (xs : List (List ℕ × Value)). Value.map_of (entries_from xs)) is
