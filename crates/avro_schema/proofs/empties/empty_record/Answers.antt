use Rattle.std.proofs.lemmas.Option.{IfSome_then}
use Rattle.avro_schema.specs.Seen.{seen_fields}
use Rattle.avro_schema.proofs.EmptyData.{record_around}
use Rattle.avro_schema.proofs.empties.empty_record.Goals as goal

pub returns-in-Some : goal.returns-in-Some
returns-in-Some c = λ nodes are name aliases.
    IfSome_then c.around.result c.around.ensures (λ e sums.
    rw (sums.0, sums.1) (record_around nodes name aliases (seen_fields c.args.fields.now) c.in-Some.parts.nodes c.in-Some.parts.depth (c.in-Some.ensures nodes are)))
