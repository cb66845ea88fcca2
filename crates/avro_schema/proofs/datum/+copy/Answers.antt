use Rattle.std.proofs.Common.{sym, ◌∙◌, ap}
use Rattle.avro_schema.specs.Value.{Value}
use Rattle.avro_schema.specs.Seen.{value_of, entries_of}
use Rattle.avro_schema.proofs.public.DatumViews.{value_of-Map}
use Rattle.avro_schema.proofs.datum.+copy.Goals as goal

pub DatumClone::clone-returns-in_ok-copy_of_entries-in-Map :
    goal.DatumClone::clone-returns-in_ok-copy_of_entries-in-Map
DatumClone::clone-returns-in_ok-copy_of_entries-in-Map t c =
    let original = ap value_of c.in-Map.is ∙ value_of-Map c.in-Map.entries in
    let same = c.in_ok-copy_of_entries-in-Map.ensures ∙ ap entries_of c.deref-in-Map.ensures.value in
    record { cases = value_of-Map c.in_ok-copy_of_entries-in-Map.field-0 ∙ ap Value.map_of same ∙ sym original }
