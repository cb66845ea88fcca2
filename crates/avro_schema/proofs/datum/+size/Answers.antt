use Rattle.std.proofs.Common.{arith}
use Rattle.avro_schema.proofs.public.DatumViews.{value_of-Map}
use Rattle.avro_schema.proofs.datum.+size.Goals as goal

pub size-returns-in-Map : goal.size-returns-in-Map
size-returns-in-Map t c =
    let e = value_of-Map c.in-Map.entries in
    let s = c.deref-in-Map.ensures.value in
    rw (c.in-Map.is, e, ← s) (omega (arith, c.saturating_add-in-Map.ensures, c.size_of_entries.ensures))
