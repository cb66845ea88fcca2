-- Heads of the metadata's blocks, and what stops them.
use Rattle.std.proofs.Common.{◌≡◌, ℕ, zero, suc, ◌+◌, ◌-◌, ◌^◌, ◌<◌, ◌≤◌, ℤ, pos, negsuc, true, false, List, ◌++◌, length, take, drop, Some, refl, sym, ap, subst, ◌∙◌, arith, length-take-le}
use Rattle.std.specs.Prelude.{neg_ℤ}
use Rattle.std.proofs.lemmas.List.{length-drop, drop-drop}
use Rattle.std.proofs.lemmas.Option.{same_Some}
use Rattle.avro_zigzag.specs.Number.{SpellsLong}
use Rattle.avro_zigzag.specs.declared.VarError.TheVariants.{EndOfInput}
use Rattle.avro_cursor.specs.BlockHeads.{signed_count}
use Rattle.avro_cursor.specs.Fault.{ReadFault, end_of_input, invalid_length, behind}
use Rattle.avro_cursor.specs.Breaks.{StartsWithLong, HeadBreaks, LongBreaks}
use Rattle.avro_file.specs.FileFault.{FileFault, in_header, invalid_metadata}
use Rattle.avro_file.specs.inside.HeaderParts.{PartStops, LengthBreaks, LengthWants, Stretch}
use Rattle.avro_file.specs.Filled.{GrowsBy}
use Rattle.avro_file.specs.inside.MetadataParts.{TakesHead}
use Rattle.avro_file.specs.declared.header.properties_head.PropertiesHead.{PropertiesHead}
use Rattle.avro_file.proofs.PropertyRuns.{stretch_join, stretch_grown}
use Rattle.avro_file.proofs.Behind.{stops-as, stops-whole}

-- a number that fails is the count's
pub count_stops : (limit at nodes : ℕ) (ended : Type 0) (bytes : List ℕ) (f : FileFault) → PartStops limit at ended bytes LongBreaks LengthWants f
    → PartStops limit at ended bytes (HeadBreaks nodes) (HeadBreaks nodes) f
count_stops limit at nodes ended bytes f stops =
    stops-as limit at ended bytes LongBreaks LengthWants (HeadBreaks nodes) (HeadBreaks nodes) f (λ g b. HeadBreaks.count_fails b) wants stops
  where
    wants : (g : ReadFault) → LengthWants (drop at bytes) g → HeadBreaks nodes (drop at bytes) g
    wants _ (LengthWants.in_number cut) = HeadBreaks.count_fails (EndOfInput, cut, refl)

-- the size after a count
pub size_stops : (limit at middle nodes count : ℕ) (ended : Type 0) (bytes front : List ℕ) (f : FileFault) → Stretch at front middle bytes → SpellsLong (neg_ℤ (pos count)) front
    → 0 < count → count < 2 ^ 63 → 2 ^ 63 ≤ nodes → PartStops limit middle ended bytes LengthBreaks LengthWants f → PartStops limit at ended bytes (HeadBreaks nodes) (HeadBreaks nodes) f
size_stops limit at middle nodes zero ended bytes front f stretch spelled some small many stops = absurd (omega (arith, some))
size_stops limit at middle nodes (suc n) ended bytes front f stretch spelled some small many stops =
    stops-whole limit at middle ended bytes front LengthBreaks LengthWants (HeadBreaks nodes) (HeadBreaks nodes) f stretch.offset stretch.split breaks wants stops
  where
    few : n < nodes
    few = omega (arith, small, many)

    breaks : (rest : List ℕ) (g : ReadFault) → LengthBreaks rest g → HeadBreaks nodes (front ++ rest) (behind (length front) g)
    breaks rest g (LengthBreaks.number_breaks b) =
        HeadBreaks.size_fails n front spelled (omega (arith, small)) few (record { rest = rest; fault = g; split = refl; breaks = b; moved = refl })
    breaks rest _ (LengthBreaks.is_negative m number more starts) =
        subst (λ (k : ℕ). HeadBreaks nodes (front ++ rest) (invalid_length k)) (omega arith)
        (HeadBreaks.size_negative n m front number rest more spelled (omega (arith, small)) few refl starts)

    wants : (rest : List ℕ) (g : ReadFault) → LengthWants rest g → HeadBreaks nodes (front ++ rest) (behind (length front) g)
    wants rest _ (LengthWants.in_number cut) =
        HeadBreaks.size_fails n front spelled (omega (arith, small)) few (record { rest = rest; fault = end_of_input 0; split = refl; breaks = (EndOfInput, cut, refl); moved = refl })

-- the count that is the least of all
pub least_stops : (limit at nodes : ℕ) (ended : Type 0) (bytes : List ℕ) (v : ℤ) (front rest : List ℕ) (f : FileFault) → v ≡ negsuc (2 ^ 63 - 1)
    → StartsWithLong v (drop at bytes) front rest → Some (in_header (invalid_metadata (invalid_length at))) ≡ Some f → PartStops limit at ended bytes (HeadBreaks nodes) (HeadBreaks nodes) f
least_stops limit at nodes ended bytes v front rest f least starts is =
    PartStops.broken (invalid_length 0) (HeadBreaks.count_least front rest (subst (λ w. StartsWithLong w (drop at bytes) front rest) least starts)) (λ place q. cc)
    (sym (same_Some _ _ is) ∙ ap (λ (n : ℕ). in_header (invalid_metadata (invalid_length n))) (omega arith))

-- where a number ends
pub starts_stretch : (at len : ℕ) (v : ℤ) (bytes : List ℕ) → at + len ≤ length bytes → StartsWithLong v (drop at bytes) (take len (drop at bytes)) (drop len (drop at bytes))
    → Stretch at (take len (drop at bytes)) (at + len) bytes
starts_stretch at len v bytes inside s = grind (arith, drop-drop, length-drop, length-take-le)

-- a head without a size, or the end
pub head_plain : (at len count : ℕ) (bytes : List ℕ) (h : PropertiesHead) → h.count ≡ count → h.start ≡ at + len → h.is_sized ≡ false → count < 2 ^ 63 → at + len ≤ length bytes
    → StartsWithLong (signed_count false count) (drop at bytes) (take len (drop at bytes)) (drop len (drop at bytes)) → TakesHead at bytes h
head_plain at len zero bytes h same start plain small inside s =
    TakesHead.at_end (take len (drop at bytes)) same (subst (λ (n : ℕ). Stretch at (take len (drop at bytes)) n bytes) (sym start) (starts_stretch at len (pos 0) bytes inside s)) s.spelled
head_plain at len (suc n) bytes h same start plain small inside s =
    TakesHead.counted (take len (drop at bytes)) (omega (arith, same)) (omega (arith, same, small)) plain
    (subst (λ (n : ℕ). Stretch at (take len (drop at bytes)) n bytes) (sym start) (starts_stretch at len (pos (suc n)) bytes inside s))
    (subst (λ (n : ℕ). SpellsLong (pos n) (take len (drop at bytes))) (sym same) s.spelled)

-- a head with a size
pub head_sized : {I : Type 0} (gives : I → List ℕ → I → Type 0) (a b : I) (mid new : List ℕ) (at len more count size : ℕ) (h : PropertiesHead) → GrowsBy gives a b mid new
    → h.count ≡ count → h.start ≡ at + len + more → h.is_sized ≡ true → h.size ≡ size → h.offset ≡ at + len → 0 < count → count < 2 ^ 63 → size < 2 ^ 63 → at + len ≤ length mid
    → StartsWithLong (signed_count true count) (drop at mid) (take len (drop at mid)) (drop len (drop at mid))
    → at + len + more ≤ length new → StartsWithLong (pos size) (drop (at + len) new) (take more (drop (at + len) new)) (drop more (drop (at + len) new)) → TakesHead at new h
head_sized gives a b mid new at len more count size h grown same start is_sized size_is offset some small short inside s all z =
    let front = take len (drop at mid) in
    let first = starts_stretch at len (neg_ℤ (pos count)) mid inside s in
    let behind = stretch_join at (at + len) (at + len + more) front (take more (drop (at + len) new)) new (stretch_grown gives a b mid new at (at + len) front grown first)
    (starts_stretch (at + len) more (pos size) new all z) in
    TakesHead.sized front (take more (drop (at + len) new)) (omega (arith, same, some)) (omega (arith, same, small)) is_sized
    (subst (λ (n : ℕ). Stretch at (front ++ take more (drop (at + len) new)) n new) (sym start) behind)
    (subst (λ (n : ℕ). SpellsLong (neg_ℤ (pos n)) front) (sym same) s.spelled)
    (subst (λ (n : ℕ). SpellsLong (pos n) (take more (drop (at + len) new))) (sym size_is) z.spelled)
    (omega (arith, size_is, short)) (offset ∙ first.offset)
