-- When data of the program fit, by their parts.
use Rattle.std.proofs.Common.{◌≡◌, ℕ, suc, ◌<◌, ◌^◌, Bool, true, false, ◌&&◌, List, [], ◌∷◌, length, refl, ap, arith}
use Rattle.std.specs.Prelude.{String, bytes_eq}
use Rattle.std.specs.Global.{Vec}
use Rattle.std.specs.declared.alloc.Global.{Global}
use Rattle.std.specs.List.{list_all}
use Rattle.avro_schema.specs.Value.{Value, values_count, entries_count, keys_of}
use Rattle.avro_schema.specs.Node.{Node, node_at, field_ids}
use Rattle.avro_schema.specs.Fits.{fits, each_fits, entries_fit, fields_fit, is_count, is_text}
use Rattle.avro_schema.specs.Distinct.{are_distinct}
use Rattle.avro_schema.specs.Seen.{value_of, values_of, entries_of, seen_fields}
use Rattle.avro_schema.specs.declared.datum.Datum.{Datum}
use Rattle.avro_schema.specs.declared.schema.Field.{Field}
use Rattle.avro_schema.proofs.DatumRanges.{is_count-from_below, is_text-string}

values_count-seen : (ds : List Datum) → values_count (values_of ds) ≡ length ds
values_count-seen [] = refl
values_count-seen (d ∷ ds) = ap suc (values_count-seen ds)

entries_count-seen : (es : List (String Global × Datum)) → entries_count (entries_of es) ≡ length es
entries_count-seen [] = refl
entries_count-seen (e ∷ es) = ap suc (entries_count-seen es)

pub is_count-values : (ds : Vec Datum) → is_count (values_count (values_of ds.items)) ≡ true
is_count-values ds =
    let below : length ds.items < 2 ^ 63 = omega (arith, ds.ok.0, ds.ok.1, ds.small) in
    rw values_count-seen (is_count-from_below (length ds.items) below)

pub is_count-entries : (es : Vec (String Global × Datum)) → is_count (entries_count (entries_of es.items)) ≡ true
is_count-entries es =
    let below : length es.items < 2 ^ 63 = omega (arith, es.ok.0, es.ok.1, es.small) in
    rw entries_count-seen (is_count-from_below (length es.items) below)

keys-texts : (es : List (String Global × Datum)) → list_all is_text (keys_of (entries_of es)) ≡ true
keys-texts [] = refl
keys-texts (e ∷ es) = rw (is_text-string e.0, keys-texts es) refl

pub fits-array : (nodes : List Node) (id : ℕ) (ds : Vec Datum)
    → fits nodes (Node.array id) (Value.array (values_of ds.items)) ≡ each_fits nodes (node_at nodes id) (values_of ds.items)
fits-array nodes id ds = rw (is_count-values ds) refl

pub fits-map : (nodes : List Node) (id : ℕ) (es : Vec (String Global × Datum)) (r : Bool) → r ≡ are_distinct bytes_eq (keys_of (entries_of es.items)) → r ≡ true
    → fits nodes (Node.map_of id) (Value.map_of (entries_of es.items)) ≡ entries_fit nodes (node_at nodes id) (entries_of es.items)
fits-map nodes id es r is passes = rw (is_count-entries es, keys-texts es.items, ← is, passes) refl

and-none : (a b : Bool) → false ≡ b → false ≡ (a && b)
and-none false b h = refl
and-none true b h = h

pub fields_fit-uneven : (nodes : List Node) (fs : List Field) (ds : List Datum) → (length fs ≡ length ds → ⊥)
    → false ≡ fields_fit nodes (field_ids (seen_fields fs)) (values_of ds)
fields_fit-uneven nodes [] [] h = absurd (h refl)
fields_fit-uneven nodes [] (d ∷ ds) h = refl
fields_fit-uneven nodes (f ∷ fs) [] h = refl
fields_fit-uneven nodes (f ∷ fs) (d ∷ ds) h =
    and-none (fits nodes (node_at nodes f.node.0) (value_of d)) (fields_fit nodes (field_ids (seen_fields fs)) (values_of ds)) (fields_fit-uneven nodes fs ds (λ e. h (ap suc e)))
