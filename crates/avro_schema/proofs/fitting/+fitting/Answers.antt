use Rattle.std.proofs.Common.{ap, ◌∙◌, bytes_eq}
use Rattle.avro_schema.specs.Distinct.{are_distinct}
use Rattle.avro_schema.specs.Value.{keys_of}
use Rattle.avro_schema.specs.Seen.{nodes_of, entries_of}
use Rattle.avro_schema.proofs.public.DatumViews.{value_of-Int, value_of-Long, value_of-Bytes, value_of-Str, value_of-Enum, value_of-Fixed, value_of-Map}
use Rattle.avro_schema.proofs.FitsSeen.{fits-array, fits-map, fields_fit-uneven}
use Rattle.avro_schema.proofs.fitting.+fitting.Goals as goal

pub fits_node-returns-in-Int : goal.fits_node-returns-in-Int
fits_node-returns-in-Int t c = rw (c.in-Int.is, value_of-Int c.in-Int.value) (c.fits_int.ensures (nodes_of c.args.nodes.now))

pub fits_node-returns-in-Long : goal.fits_node-returns-in-Long
fits_node-returns-in-Long t c = rw (c.in-Long.is, value_of-Long c.in-Long.value) (c.fits_long.ensures (nodes_of c.args.nodes.now))

pub fits_node-returns-in-Bytes : goal.fits_node-returns-in-Bytes
fits_node-returns-in-Bytes t c = rw (c.in-Bytes.is, value_of-Bytes c.in-Bytes.bytes) (c.fits_bytes.ensures (nodes_of c.args.nodes.now))

pub fits_node-returns-in-Str : goal.fits_node-returns-in-Str
fits_node-returns-in-Str t c = rw (c.in-Str.is, value_of-Str c.in-Str.text) (c.fits_text.ensures (nodes_of c.args.nodes.now))

pub fits_node-returns-in-Enum : goal.fits_node-returns-in-Enum
fits_node-returns-in-Enum t c = rw (c.in-Enum.is, value_of-Enum c.in-Enum.symbol) (c.fits_enum.ensures (nodes_of c.args.nodes.now))

pub fits_node-returns-in-Fixed : goal.fits_node-returns-in-Fixed
fits_node-returns-in-Fixed t c = rw (c.in-Fixed.is, value_of-Fixed c.in-Fixed.bytes) (c.fits_fixed.ensures (nodes_of c.args.nodes.now))

pub fits_node-returns-in-Map : goal.fits_node-returns-in-Map
fits_node-returns-in-Map t c = rw (c.in-Map.is, value_of-Map c.in-Map.entries) c.fits_map.ensures

pub fits_array-returns-in-Array : goal.fits_array-returns-in-Array
fits_array-returns-in-Array t c =
    rw (c.in-Array.is, fits-array (nodes_of c.args.nodes.now) c.in-Array.id.0 c.args.items.now, ← c.deref.ensures.value) c.each_fits.ensures

pub fields_fit-returns-then-fields-values : goal.fields_fit-returns-then-fields-values
fields_fit-returns-then-fields-values t c =
    fields_fit-uneven (nodes_of c.args.nodes.now) c.args.fields.now c.args.values.now c.if-fields-values.true

pub fits_map-returns-else-not-branch : goal.fits_map-returns-else-not-branch
fits_map-returns-else-not-branch t c =
    let unique = c.in_ok-are_unique_texts-in-Map.ensures ∙ ap (are_distinct bytes_eq) (c.in_ok-keys-in-Map.ensures ∙ ap (λ es. keys_of (entries_of es)) c.deref.ensures.value) in
    let seen = fits-map (nodes_of c.args.nodes.now) c.in-Map.id.0 c.args.entries.now c.in_ok-are_unique_texts-in-Map.field-0 unique c.if-not-branch.false in
    rw (c.in-Map.is, seen, ← c.deref-in-Map.ensures.value) c.entries_fit.ensures
