use Rattle.std.proofs.Common.{arith}
use Rattle.avro_schema.proofs.public.DatumViews.{value_of-Map}
use Rattle.avro_schema.proofs.datum.+depth.Goals as goal

pub depth-returns-in-Map : goal.depth-returns-in-Map
depth-returns-in-Map t c =
    let e = value_of-Map c.in-Map.entries in
    let s = c.deref-in-Map.ensures.value in
    rw (c.in-Map.is, e, ← s) (omega (arith, c.saturating_add-in-Map.ensures, c.depth_of_entries.ensures))
