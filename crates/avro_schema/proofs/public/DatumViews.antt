-- How each kind of datum is seen.
use Rattle.std.proofs.Common.{◌≡◌, ℕ, ℤ, Bool, List, [], ◌∷◌, map, refl, ap, ◌∙◌, sym}
use Rattle.std.specs.Prelude.{String, string_bytes}
use Rattle.std.specs.Global.{Vec}
use Rattle.std.specs.declared.alloc.Global.{Global}
use Rattle.avro_schema.specs.Value.{Value, entry}
use Rattle.avro_schema.specs.Seen.{value_of, entries_of, entries_from, view_step}
use Rattle.avro_schema.specs.declared.datum.Datum.{Datum}
use Rattle.avro_schema.specs.declared.datum.Datum.TheOpen.{Datum-F}
use Rattle.avro_schema.specs.declared.datum.Datum.TheViews as view
use Rattle.avro_schema.specs.declared.datum.Datum.TheVariants as variants
use Rattle.avro_schema.specs.declared.datum.Datum.TheFolds.{fold-roll-Datum}
use Rattle.avro_schema.specs.declared.datum.Datum.TheShapes.{former-Datum-Map-0-at-2}

pub value_of-Int : (i : ℤ) → value_of (Datum.Int i) ≡ Value.int i
value_of-Int i = ap value_of (sym (variants.rolls-Int i)) ∙ fold-roll-Datum Value view_step (Datum-F.Int i)

pub value_of-Long : (i : ℤ) → value_of (Datum.Long i) ≡ Value.long i
value_of-Long i = ap value_of (sym (variants.rolls-Long i)) ∙ fold-roll-Datum Value view_step (Datum-F.Long i)

pub value_of-Bytes : (b : Vec ℕ) → value_of (Datum.Bytes b) ≡ Value.bytes b.items
value_of-Bytes b = ap value_of (sym (variants.rolls-Bytes b)) ∙ fold-roll-Datum Value view_step (Datum-F.Bytes b)

pub value_of-Str : (t : String Global) → value_of (Datum.Str t) ≡ Value.string (string_bytes t)
value_of-Str t = ap value_of (sym (variants.rolls-Str t)) ∙ fold-roll-Datum Value view_step (Datum-F.Str t)

pub value_of-Enum : (k : ℕ) → value_of (Datum.Enum k) ≡ Value.enum k
value_of-Enum k = ap value_of (sym (variants.rolls-Enum k)) ∙ fold-roll-Datum Value view_step (Datum-F.Enum k)

pub value_of-Fixed : (b : Vec ℕ) → value_of (Datum.Fixed b) ≡ Value.fixed b.items
value_of-Fixed b = ap value_of (sym (variants.rolls-Fixed b)) ∙ fold-roll-Datum Value view_step (Datum-F.Fixed b)

entries-seen : (es : List (String Global × Datum)) → entries_from (map (λ e. (string_bytes e.0, e.1)) (map (former-Datum-Map-0-at-2.map Datum Value value_of) es)) ≡ entries_of es
entries-seen [] = refl
entries-seen (e ∷ es) = ap (entry (string_bytes e.0) (value_of e.1)) (entries-seen es)

pub value_of-Map : (es : Vec (String Global × Datum)) → value_of (view.Map es) ≡ Value.map_of (entries_of es.items)
value_of-Map es = ap value_of (sym (variants.rolls-Map es)) ∙ fold-roll-Datum Value view_step (Datum-F.Map es) ∙ ap Value.map_of (entries-seen es.items)
