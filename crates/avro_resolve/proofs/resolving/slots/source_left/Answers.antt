use Rattle.std.proofs.Common.{◌∙◌}
use Rattle.avro_schema.specs.Seen.{field_of, seen_fields}
use Rattle.avro_compare.proofs.public.Entries.{first_source}
use Rattle.avro_resolve.proofs.resolving.slots.source_left.Goals as goal

pub returns-in-Some : goal.returns-in-Some
returns-in-Some c = λ rs kept is.
    c.first_entry.ensures ∙ first_source c.args.index (seen_fields c.args.writes.now) rs c.in-Some.left.now (rw c.in-Some.is at kept) (field_of c.args.f.now) is
