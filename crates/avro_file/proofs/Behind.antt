-- Faults after bytes, and parts that are stopped after others.
use Rattle.std.proofs.Common.{◌≡◌, ◌≢◌, ℕ, Bool, ◌+◌, ◌-◌, ◌^◌, ◌<◌, ◌≤◌, max, ℤ, ◌<ℤ◌, pos, List, [], ◌++◌, length, take, drop, Some, append-nil, refl, sym, ap, subst, ◌∙◌, arith, inl, inr, length-take-le}
use Rattle.std.proofs.lemmas.List.{drop-drop, length-drop, take-append-le}
use Rattle.std.proofs.lemmas.Option.{same_Some, none-some}
use Rattle.avro_zigzag.specs.NumberFault.{LongFails}
use Rattle.avro_zigzag.specs.declared.VarError.TheVariants.{EndOfInput, OutOfRange}
use Rattle.avro_cursor.specs.Fault.{ReadFault, end_of_input, invalid_number, invalid_length, behind}
use Rattle.avro_cursor.specs.Breaks.{LongBreaks, StartsWithLong, ContentBreaks}
use Rattle.avro_cursor.proofs.public.Behind.{behind-add}
use Rattle.avro_file.specs.declared.input.PartError.{PartError}
use Rattle.avro_file.specs.declared.error.CopyError.{CopyError}
use Rattle.avro_file.specs.FileFault.{FileFault, in_header, invalid_metadata}
use Rattle.avro_file.specs.FileSeen.{file_fault, header_part_fault}
use Rattle.avro_file.specs.Filled.{GrowsBy, TakesAtMost, UnlessDevice}
use Rattle.avro_file.specs.Named.{IsNamed}
use Rattle.avro_file.specs.HeaderFails.{ContentWants}
use Rattle.avro_file.specs.inside.HeaderParts.{Takes, Refused, PartStops, LengthBreaks, LengthWants, ContentFrom}
use Rattle.avro_file.proofs.Taking.{GrowsBy-chain, TakesAtMost-later, TakesAtMost-from_grown, unless_failed}
use Rattle.avro_file.proofs.Cut.{grown-behind}
use Rattle.avro_file.proofs.Heads.{starts-grown}
use Rattle.avro_file.proofs.Stopping.{below_zero}

-- what is not an end of the input is not one after other bytes
still_no_end : (k : ℕ) (f : ReadFault) → ((place : ℕ) → f ≢ end_of_input place) → (place : ℕ) → behind k f ≢ end_of_input place
still_no_end k f h place e = grind arith

-- ---- Calls, one after another

module _ {I : Type 0} (gives : I → List ℕ → I → Type 0) (failures : I → ℕ) (chain : (s t u : I) (front back : List ℕ) → gives s front t → gives t back u → gives s (front ++ back) u) (limit : ℕ) where
  pub takes_then : (a b c : I) (old mid new : List ℕ) → Takes gives failures limit a b old mid → Takes gives failures limit b c mid new → Takes gives failures limit a c old new
  takes_then a b c old mid new p q = record {
    grown = GrowsBy-chain gives chain a b c old mid new p.grown q.grown;
    limited = omega (arith, p.limited, q.limited);
    works = q.works ∙ p.works;
  }

  pub then_refused : (a b c : I) (old mid new : List ℕ) (e : CopyError) → Takes gives failures limit a b old mid → Refused gives failures limit b c mid new e
      → Refused gives failures limit a c old new e
  then_refused a b c old mid new e p q = record {
    grown = λ other. GrowsBy-chain gives chain a b c old mid new p.grown (q.grown other);
    lost = TakesAtMost-later gives chain a b c old mid limit p.grown q.lost p.limited;
    limited = omega (arith, p.limited, q.limited);
    fails = λ is same. q.fails is (same ∙ sym p.works);
    no_output = q.no_output;
    first = q.first;
    named = q.named;
  }

  -- what was taken is refused
  pub own_refused : (a b : I) (old new : List ℕ) (e : CopyError) → e ≢ CopyError.InputFailed → e ≢ CopyError.OutputFailed → e ≢ CopyError.FailedBefore
      → IsNamed e → Takes gives failures limit a b old new → Refused gives failures limit a b old new e
  own_refused a b old new e no_input no_output first named p = record {
    grown = λ _. p.grown;
    lost = TakesAtMost-from_grown gives a b old new limit p.grown p.limited;
    limited = p.limited;
    fails = λ is. absurd (no_input is);
    no_output = no_output;
    first = first;
    named = named;
  }

  -- memory ran out after it
  pub memory_refused : (a b : I) (old new : List ℕ) → Takes gives failures limit a b old new → Refused gives failures limit a b old new CopyError.OutOfMemory
  memory_refused a b old new p = own_refused a b old new CopyError.OutOfMemory (λ q. cc) (λ q. cc) (λ q. cc) (inr (inr (inl refl))) p

pub part_refused : {I : Type 0} (gives : I → List ℕ → I → Type 0) (failures : I → ℕ) (limit : ℕ) (a b : I) (old new : List ℕ) (e : PartError) (r : CopyError)
    → (e ≡ PartError.Device → r ≡ CopyError.InputFailed) → (r ≡ CopyError.InputFailed → e ≡ PartError.Device) → r ≢ CopyError.OutputFailed → r ≢ CopyError.FailedBefore
    → IsNamed r → UnlessDevice e (GrowsBy gives a b old new) → TakesAtMost gives a b (limit - length old) → length new ≤ max (length old) limit
    → (e ≡ PartError.Device → failures b ≢ failures a) → Refused gives failures limit a b old new r
part_refused gives failures limit a b old new e r failed device no_output first named taken lost limited fails = grind (arith, unless_failed)

-- a greater limit
pub takes_wider : {I : Type 0} (gives : I → List ℕ → I → Type 0) (failures : I → ℕ) (limit wider : ℕ) (a b : I) (old new : List ℕ) → limit ≤ wider
    → Takes gives failures limit a b old new → Takes gives failures wider a b old new
takes_wider gives failures limit wider a b old new more p = record { grown = p.grown; limited = omega (arith, p.limited, more); works = p.works }

pub refused_wider : {I : Type 0} (gives : I → List ℕ → I → Type 0) (failures : I → ℕ) (limit wider : ℕ) (a b : I) (old new : List ℕ) (e : CopyError) → limit ≤ wider
    → Refused gives failures limit a b old new e → Refused gives failures wider a b old new e
refused_wider gives failures limit wider a b old new e more p = grind arith

-- ---- Parts that are stopped

-- a part at the front of a whole, after what stands before it
pub stops-whole : (limit at from : ℕ) (ended : Type 0) (bytes front : List ℕ) (P Q P' Q' : List ℕ → ReadFault → Type 0) (f : FileFault)
    → from ≡ at + length front → drop at bytes ≡ front ++ drop from bytes
    → ((rest : List ℕ) (g : ReadFault) → P rest g → P' (front ++ rest) (behind (length front) g))
    → ((rest : List ℕ) (g : ReadFault) → Q rest g → Q' (front ++ rest) (behind (length front) g))
    → PartStops limit from ended bytes P Q f → PartStops limit at ended bytes P' Q' f
stops-whole limit at from ended bytes front P Q P' Q' f offset split up wup (PartStops.broken g b none is) =
    PartStops.broken (behind (length front) g) (subst (λ (r : List ℕ). P' r (behind (length front) g)) (sym split) (up (drop from bytes) g b))
    (still_no_end (length front) g none)
    (is ∙ ap (λ (n : ℕ). in_header (invalid_metadata (behind n g))) offset ∙ ap (λ (h : ReadFault). in_header (invalid_metadata h)) (behind-add at (length front) g))
stops-whole limit at from ended bytes front P Q P' Q' _ offset split up wup (PartStops.too_long there w over) =
    PartStops.too_long (length front + there) (subst (λ (r : List ℕ). Q' r (end_of_input (length front + there))) (sym split) (wup (drop from bytes) (end_of_input there) w))
    (omega (arith, over, offset))
stops-whole limit at from ended bytes front P Q P' Q' _ offset split up wup (PartStops.is_cut there w fits told) =
    PartStops.is_cut (length front + there) (subst (λ (r : List ℕ). Q' r (end_of_input (length front + there))) (sym split) (wup (drop from bytes) (end_of_input there) w))
    (omega (arith, fits, offset)) told

-- the same offset
pub stops-as : (limit at : ℕ) (ended : Type 0) (bytes : List ℕ) (P Q P' Q' : List ℕ → ReadFault → Type 0) (f : FileFault)
    → ((g : ReadFault) → P (drop at bytes) g → P' (drop at bytes) g) → ((g : ReadFault) → Q (drop at bytes) g → Q' (drop at bytes) g)
    → PartStops limit at ended bytes P Q f → PartStops limit at ended bytes P' Q' f
stops-as limit at ended bytes P Q P' Q' f up wup (PartStops.broken g b none is) = PartStops.broken g (up g b) none is
stops-as limit at ended bytes P Q P' Q' _ up wup (PartStops.too_long there w over) = PartStops.too_long there (wup (end_of_input there) w) over
stops-as limit at ended bytes P Q P' Q' _ up wup (PartStops.is_cut there w fits told) = PartStops.is_cut there (wup (end_of_input there) w) fits told

-- a number that is not taken
pub number_stops : (limit at : ℕ) (ended : Type 0) (bytes : List ℕ) (e : PartError) (f : FileFault) → at ≤ limit
    → (e ≡ PartError.OutOfRange → LongFails (drop at bytes) OutOfRange)
    → (e ≡ PartError.Limit → limit ≤ length bytes) → (e ≡ PartError.Limit → LongFails (drop at bytes) EndOfInput)
    → (e ≡ PartError.Ended → ended) → (e ≡ PartError.Ended → length bytes < limit) → (e ≡ PartError.Ended → LongFails (drop at bytes) EndOfInput)
    → header_part_fault at e ≡ Some f → PartStops limit at ended bytes LongBreaks LengthWants f
number_stops limit at ended bytes PartError.OutOfRange f inside out over over_cut told below cut is =
    PartStops.broken (invalid_number 0) (OutOfRange, out refl, refl) (λ place q. cc)
    (sym (same_Some _ _ is) ∙ ap (λ (n : ℕ). in_header (invalid_metadata (invalid_number n))) (omega arith))
number_stops limit at ended bytes PartError.Limit f inside out over over_cut told below cut is =
    let past = over refl in
    subst (PartStops limit at ended bytes LongBreaks LengthWants) (same_Some _ _ is) (PartStops.too_long 0 (LengthWants.in_number (over_cut refl)) (omega (arith, past)))
number_stops limit at ended bytes PartError.Ended f inside out over over_cut told below cut is =
    let short = below refl in
    subst (PartStops limit at ended bytes LongBreaks LengthWants) (same_Some _ _ is) (PartStops.is_cut 0 (LengthWants.in_number (cut refl)) (omega (arith, short, inside)) (told refl))
number_stops limit at ended bytes PartError.Device f inside out over over_cut told below cut is = absurd (none-some f is)
number_stops limit at ended bytes PartError.OutOfMemory f inside out over over_cut told below cut is = absurd (none-some f is)

pub length_stops : (limit at : ℕ) (ended : Type 0) (bytes : List ℕ) (f : FileFault) → PartStops limit at ended bytes LongBreaks LengthWants f → PartStops limit at ended bytes LengthBreaks LengthWants f
length_stops limit at ended bytes f stops =
    stops-as limit at ended bytes LongBreaks LengthWants LengthBreaks LengthWants f (λ g b. LengthBreaks.number_breaks b) (λ g w. w) stops

-- a length as the first part of a content
pub length_first : (limit at : ℕ) (ended : Type 0) (bytes : List ℕ) (is_content : List ℕ → Bool) (f : FileFault)
    → PartStops limit at ended bytes LengthBreaks LengthWants f → PartStops limit at ended bytes (ContentBreaks is_content (2 ^ 63)) ContentWants f
length_first limit at ended bytes is_content f stops =
    stops-as limit at ended bytes LengthBreaks LengthWants (ContentBreaks is_content (2 ^ 63)) ContentWants f breaks wants stops
  where
    breaks : (g : ReadFault) → LengthBreaks (drop at bytes) g → ContentBreaks is_content (2 ^ 63) (drop at bytes) g
    breaks _ (LengthBreaks.number_breaks b) = ContentBreaks.length_breaks b
    breaks _ (LengthBreaks.is_negative n number rest starts) = ContentBreaks.negative n number rest starts

    wants : (g : ReadFault) → LengthWants (drop at bytes) g → ContentWants (drop at bytes) g
    wants _ (LengthWants.in_number cut) = ContentWants.in_length cut

-- a content after its length
pub content_from : {I : Type 0} (gives : I → List ℕ → I → Type 0) (a b : I) (mid new : List ℕ) (at count len : ℕ) → GrowsBy gives a b mid new → at + len ≤ length mid
    → StartsWithLong (pos count) (drop at mid) (take len (drop at mid)) (drop len (drop at mid)) → StartsWithLong (pos count) (drop at new) (take len (drop at new)) (drop (at + len) new)
content_from gives a b mid new at count len p inside s =
    let behind : drop at new ≡ drop at mid ++ p.bytes = grown-behind gives a b mid new at p (omega (arith, inside)) in
    let left = length-drop at mid in
    let short : len ≤ length (drop at mid) = omega (arith, left, inside) in
    let grown : GrowsBy gives a b (drop at mid) (drop at new) = record { bytes = p.bytes; taken = p.taken; grown = behind } in
    let starts = starts-grown gives a b (drop at mid) (drop at new) (pos count) len grown short s in
    let same : take len (drop at new) ≡ take len (drop at mid) = ap (take len) behind ∙ take-append-le len (drop at mid) p.bytes short in
    let rest : drop len (drop at new) ≡ drop (at + len) new = drop-drop len at new in
    subst (λ (n : List ℕ). StartsWithLong (pos count) (drop at new) n (drop (at + len) new)) (sym same)
    (subst (λ (r : List ℕ). StartsWithLong (pos count) (drop at new) (take len (drop at mid)) r) rest starts)

pub content_stops : (limit at count len : ℕ) (ended : Type 0) (bytes : List ℕ) (is_content : List ℕ → Bool) (e : PartError) (f : FileFault)
    → at + len ≤ length bytes → StartsWithLong (pos count) (drop at bytes) (take len (drop at bytes)) (drop (at + len) bytes) → length bytes ≤ limit
    → e ≢ PartError.OutOfRange → (e ≡ PartError.Limit → limit < at + len + count)
    → (e ≡ PartError.Ended → ended) → (e ≡ PartError.Ended → length bytes < at + len + count) → (e ≡ PartError.Ended → at + len + count ≤ limit)
    → header_part_fault at e ≡ Some f → PartStops limit at ended bytes (ContentBreaks is_content (2 ^ 63)) ContentWants f
content_stops limit at count len ended bytes is_content PartError.OutOfRange f inside starts fits out over told short near is = absurd (out refl)
content_stops limit at count len ended bytes is_content PartError.Limit f inside starts fits out over told short near is =
    let past = over refl in
    let number = take len (drop at bytes) in
    let long : length number ≡ len = length-take-le len (drop at bytes) (omega (arith, length-drop at bytes, inside)) in
    subst (PartStops limit at ended bytes (ContentBreaks is_content (2 ^ 63)) ContentWants) (same_Some _ _ is)
    (PartStops.too_long (length number + count) (ContentWants.in_content count number (drop (at + len) bytes) starts (omega (arith, length-drop (at + len) bytes, past, fits)) refl)
    (omega (arith, past, long)))
content_stops limit at count len ended bytes is_content PartError.Ended f inside starts fits out over told short near is =
    let below = short refl in
    let within = near refl in
    let number = take len (drop at bytes) in
    let long : length number ≡ len = length-take-le len (drop at bytes) (omega (arith, length-drop at bytes, inside)) in
    subst (PartStops limit at ended bytes (ContentBreaks is_content (2 ^ 63)) ContentWants) (same_Some _ _ is)
    (PartStops.is_cut (length number + count) (ContentWants.in_content count number (drop (at + len) bytes) starts (omega (arith, length-drop (at + len) bytes, below)) refl)
    (omega (arith, within, below, long)) (told refl))
content_stops limit at count len ended bytes is_content PartError.Device f inside starts fits out over told short near is = absurd (none-some f is)
content_stops limit at count len ended bytes is_content PartError.OutOfMemory f inside starts fits out over told short near is = absurd (none-some f is)

-- a length below 0
pub negative_length : (limit at : ℕ) (ended : Type 0) (bytes : List ℕ) (v : ℤ) (front rest : List ℕ) (f : FileFault) → v <ℤ pos 0
    → StartsWithLong v (drop at bytes) front rest → Some (in_header (invalid_metadata (invalid_length at))) ≡ Some f
    → PartStops limit at ended bytes LengthBreaks LengthWants f
negative_length limit at ended bytes v front rest f below starts is =
    let n = below_zero v below in
    PartStops.broken (invalid_length 0) (LengthBreaks.is_negative n.0 front rest (subst (λ w. StartsWithLong w (drop at bytes) front rest) n.1 starts)) (λ place q. cc)
    (sym (same_Some _ _ is) ∙ ap (λ (n : ℕ). in_header (invalid_metadata (invalid_length n))) (omega arith))

pub content_starts : (at count len : ℕ) (bytes : List ℕ) → at + len + count ≤ length bytes
    → StartsWithLong (pos count) (drop at bytes) (take len (drop at bytes)) (drop (at + len) bytes) → ContentFrom at (at + len) (at + len + count) bytes
content_starts at count len bytes inside starts = grind arith

-- what reports a fault is not that the input failed
pub reports_not_failed : (e : CopyError) (f : FileFault) → file_fault e ≡ Some f → e ≢ CopyError.InputFailed
reports_not_failed e f is q = none-some f (sym (ap file_fault q) ∙ is)

pub takes_none : {I : Type 0} (gives : I → List ℕ → I → Type 0) (failures : I → ℕ) → ((s : I) → gives s [] s) → (limit : ℕ) (s : I) (bytes : List ℕ)
    → Takes gives failures limit s s bytes bytes
takes_none gives failures none limit s bytes = grind (arith, append-nil)
