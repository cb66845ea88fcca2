-- What stops the metadata or the marker, as a fault of the header.
use Rattle.std.proofs.Common.{◌≡◌, ℕ, ◌+◌, ◌-◌, max, List, ◌++◌, length, take, drop, refl, sym, ap, subst, ◌∙◌, arith, take_all}
use Rattle.std.proofs.lemmas.List.{take-append-drop, length-drop}
use Rattle.avro_cursor.specs.Fault.{ReadFault, behind}
use Rattle.avro_cursor.specs.Breaks.{all_left}
use Rattle.avro_file.specs.File.{magic}
use Rattle.avro_file.specs.FileFault.{FileFault, invalid_metadata, long_header, cut_header}
use Rattle.avro_file.specs.HeaderFails.{HeaderFails, EndsIn, MetadataBreaks, PropertyWants, entry_limits}
use Rattle.avro_file.specs.inside.HeaderEnds.{BeginsHeader}
use Rattle.avro_file.specs.inside.HeaderParts.{PartStops, PropertyBreaks}
use Rattle.avro_file.specs.HeaderTaken.{IsHeaderFault}
use Rattle.avro_file.specs.inside.MetadataParts.{Blocks}

as_metadata : (bytes : List ℕ) (f : ReadFault) → Blocks PropertyBreaks (all_left entry_limits) bytes f → MetadataBreaks bytes f
as_metadata bytes f b = b

pub header_stops : (limit : ℕ) (ended : Type 0) (bytes : List ℕ) (f : FileFault) → BeginsHeader limit bytes
    → PartStops limit 4 ended bytes (Blocks PropertyBreaks (all_left entry_limits)) (Blocks PropertyWants (all_left entry_limits)) f → IsHeaderFault limit ended bytes f
header_stops limit ended bytes f h (PartStops.broken g b none is) =
    let rest = drop 4 bytes in
    let split : bytes ≡ magic ++ rest = sym (take-append-drop 4 bytes) ∙ ap (λ (front : List ℕ). front ++ rest) h.begins in
    let whole : take (limit - 4) rest ≡ rest = take_all (limit - 4) rest (omega (arith, length-drop 4 bytes, h.fits)) in (
      invalid_metadata (behind 4 g),
      is,
      HeaderFails.metadata_breaks g rest split (subst (λ (r : List ℕ). MetadataBreaks r g) (sym whole) (as_metadata rest g b)) none refl,
    )
header_stops limit ended bytes _ h (PartStops.too_long there w over) =
    let rest = drop 4 bytes in
    let split : bytes ≡ magic ++ rest = sym (take-append-drop 4 bytes) ∙ ap (λ (front : List ℕ). front ++ rest) h.begins in
    let all : take limit bytes ≡ bytes = take_all limit bytes h.fits in
    let ends : EndsIn bytes (max (4 + there) (length bytes + 1)) = EndsIn.in_metadata there rest split w (omega (arith, h.there, length-drop 4 bytes)) in
    (long_header, refl, HeaderFails.too_long (max (4 + there) (length bytes + 1)) (subst (λ (r : List ℕ). EndsIn r (max (4 + there) (length bytes + 1))) (sym all) ends) over)
header_stops limit ended bytes _ h (PartStops.is_cut there w near told) =
    let rest = drop 4 bytes in
    let split : bytes ≡ magic ++ rest = sym (take-append-drop 4 bytes) ∙ ap (λ (front : List ℕ). front ++ rest) h.begins in
    let ends : EndsIn bytes (max (4 + there) (length bytes + 1)) = EndsIn.in_metadata there rest split w (omega (arith, h.there, length-drop 4 bytes)) in
    (cut_header, refl, HeaderFails.cut (max (4 + there) (length bytes + 1)) told ends near)
