-- How a record is seen.
use Rattle.std.proofs.Common.{◌≡◌, map, sym, ap, ◌∙◌}
use Rattle.std.specs.Global.{Vec}
use Rattle.avro_schema.specs.Value.{Value}
use Rattle.avro_schema.specs.Seen.{value_of, values_from, view_step}
use Rattle.avro_schema.specs.declared.datum.Datum.{Datum}
use Rattle.avro_schema.specs.declared.datum.Datum.TheOpen.{Datum-F}
use Rattle.avro_schema.specs.declared.datum.Datum.TheViews as view
use Rattle.avro_schema.specs.declared.datum.Datum.TheVariants as variants
use Rattle.avro_schema.specs.declared.datum.Datum.TheFolds.{fold-roll-Datum}

pub value_of-Record : (v : Vec Datum) → value_of (view.Record v) ≡ Value.record_of (values_from (map value_of v.items))
value_of-Record v = ap value_of (sym (variants.rolls-Record v)) ∙ fold-roll-Datum Value view_step (Datum-F.Record v)
