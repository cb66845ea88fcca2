-- The parts of a header that were taken, and what stops them, as a fault of the header.
use Rattle.std.proofs.Common.{◌≡◌, ◌≢◌, ℕ, ◌+◌, ◌<◌, ◌≤◌, max, List, [], ◌++◌, length, take, drop, Some, Result, Ok, Err, true, codes, refl, sym, ap, subst, ◌∙◌, arith, append_assoc, length-append, length-take-le, take_all}
use Rattle.std.specs.Result.{IfErr}
use Rattle.std.proofs.lemmas.List.{take-append-drop, length-drop, drop-drop, take-append-le}
use Rattle.std.proofs.lemmas.Option.{same_Some, none-some}
use Rattle.avro_schema.specs.Node.{Node}
use Rattle.avro_file.specs.File.{Property, property, is_plain_codec, IsHeader, magic}
use Rattle.avro_file.specs.FileFault.{FileFault, in_header, no_magic, no_schema, refused_schema, unknown_codec, long_header, cut_header}
use Rattle.avro_file.specs.FileSeen.{file_fault, header_part_fault}
use Rattle.avro_file.specs.Filled.{GrowsBy}
use Rattle.avro_file.specs.inside.HeaderEnds.{BeginsHeader, MarkerStops, FrameStands, SaySchema, IsNoSchema, SayNone}
use Rattle.avro_file.specs.HeaderFails.{HeaderFails, EndsIn, MetadataStands, IsWholeWithin}
use Rattle.avro_file.specs.HeaderTaken.{IsHeaderFault, TakesHeaderFault}
use Rattle.avro_file.specs.inside.MetadataParts.{MetadataEnds}
use Rattle.avro_file.specs.declared.error.CopyError.{CopyError}
use Rattle.avro_file.specs.declared.input.PartError.{PartError}
use Rattle.avro_file.proofs.PropertyRuns.{stretch_grown}

-- ---- The magic

-- the input ends before it
pub magic_stops : (limit : ℕ) (ended : Type 0) (bytes : List ℕ) (e : PartError) (r : CopyError) (f : FileFault) → (e ≡ PartError.OutOfRange → ⊥) → (e ≡ PartError.Limit → ⊥)
    → (e ≡ PartError.Device → r ≡ CopyError.InputFailed) → (e ≡ PartError.OutOfMemory → r ≡ CopyError.OutOfMemory) → (e ≡ PartError.Ended → r ≡ CopyError.NoMagic)
    → (e ≡ PartError.Ended → ended) → (e ≡ PartError.Ended → length bytes < 4) → file_fault r ≡ Some f → IsHeaderFault limit ended bytes f
magic_stops limit ended bytes PartError.OutOfRange r f out over device memory end told short is = absurd (out refl)
magic_stops limit ended bytes PartError.Limit r f out over device memory end told short is = absurd (over refl)
magic_stops limit ended bytes PartError.Device r f out over device memory end told short is = absurd (none-some f (sym (ap file_fault (device refl)) ∙ is))
magic_stops limit ended bytes PartError.OutOfMemory r f out over device memory end told short is = absurd (none-some f (sym (ap file_fault (memory refl)) ∙ is))
magic_stops limit ended bytes PartError.Ended r f out over device memory end told short is =
    (no_magic, sym (same_Some _ _ (sym (ap file_fault (end refl)) ∙ is)), HeaderFails.short_magic (short refl) (told refl))

pub magic_differs : (limit : ℕ) (ended : Type 0) (bytes : List ℕ) (f : FileFault) → 4 ≤ length bytes → take 4 bytes ≢ magic → Some (in_header no_magic) ≡ Some f
    → IsHeaderFault limit ended bytes f
magic_differs limit ended bytes f there other is = (no_magic, sym (same_Some _ _ is), HeaderFails.other_magic there other)

pub magic_long : (limit : ℕ) (ended : Type 0) (bytes : List ℕ) (f : FileFault) → take 4 bytes ≡ magic → limit < 4 → Some (in_header long_header) ≡ Some f
    → IsHeaderFault limit ended bytes f
magic_long limit ended bytes f begins small is = (long_header, sym (same_Some _ _ is), HeaderFails.no_room begins small)

-- it still stands there
pub begins_grown : {I : Type 0} (gives : I → List ℕ → I → Type 0) (s t : I) (old new : List ℕ) (limit : ℕ) → GrowsBy gives s t old new → length new ≤ max (length old) limit
    → BeginsHeader limit old → BeginsHeader limit new
begins_grown gives s t old new limit p limited b = grind (arith, length-append, take-append-le)

-- ---- The marker

pub metadata_grown : {I : Type 0} (gives : I → List ℕ → I → Type 0) (s t : I) (old new : List ℕ) (end : ℕ) (ps : List Property) → GrowsBy gives s t old new
    → MetadataEnds end old ps → MetadataEnds end new ps
metadata_grown gives s t old new end ps p m = record {
  metadata = m.metadata;
  stretch = stretch_grown gives s t old new 4 end m.metadata p m.stretch;
  spelled = m.spelled;
}

metadata_stands : (bytes : List ℕ) (end : ℕ) (ps : List Property) → take 4 bytes ≡ magic → (m : MetadataEnds end bytes ps) → MetadataStands ps bytes m.metadata (drop end bytes)
metadata_stands bytes end ps begins m = grind (arith, take-append-drop)

pub marker_stops : (limit end : ℕ) (ended : Type 0) (bytes : List ℕ) (ps : List Property) (f : FileFault) → BeginsHeader limit bytes → MetadataEnds end bytes ps
    → MarkerStops limit end ended bytes f → IsHeaderFault limit ended bytes f
marker_stops limit end ended bytes ps _ b m (MarkerStops.too_long short over) =
    let offset = m.stretch.offset in
    let ends : EndsIn bytes (end + 16) =
    EndsIn.in_marker ps m.metadata (drop end bytes) (metadata_stands bytes end ps b.begins m) (omega (arith, length-drop end bytes, short)) (omega (arith, offset)) in
    (long_header, refl, HeaderFails.too_long (end + 16) (subst (λ (r : List ℕ). EndsIn r (end + 16)) (sym (take_all limit bytes b.fits)) ends) over)
marker_stops limit end ended bytes ps _ b m (MarkerStops.is_cut short near told) =
    let offset = m.stretch.offset in
    let ends : EndsIn bytes (end + 16) =
    EndsIn.in_marker ps m.metadata (drop end bytes) (metadata_stands bytes end ps b.begins m) (omega (arith, length-drop end bytes, short)) (omega (arith, offset)) in
    (cut_header, refl, HeaderFails.cut (end + 16) told ends near)

-- why the bytes to where it would end are not there
pub marker_part : (limit at : ℕ) (ended : Type 0) (bytes : List ℕ) (e : PartError) (f : FileFault) → length bytes ≤ limit → (e ≡ PartError.OutOfRange → ⊥)
    → (e ≡ PartError.Limit → limit < at + 16) → (e ≡ PartError.Ended → ended) → (e ≡ PartError.Ended → length bytes < at + 16) → (e ≡ PartError.Ended → at + 16 ≤ limit)
    → header_part_fault at e ≡ Some f → MarkerStops limit at ended bytes f
marker_part limit at ended bytes PartError.OutOfRange f fits out over told short near is = absurd (out refl)
marker_part limit at ended bytes PartError.Limit f fits out over told short near is =
    let past = over refl in
    subst (MarkerStops limit at ended bytes) (same_Some _ _ is) (MarkerStops.too_long (omega (arith, past, fits)) past)
marker_part limit at ended bytes PartError.Ended f fits out over told short near is =
    subst (MarkerStops limit at ended bytes) (same_Some _ _ is) (MarkerStops.is_cut (short refl) (near refl) (told refl))
marker_part limit at ended bytes PartError.Device f fits out over told short near is = absurd (none-some f is)
marker_part limit at ended bytes PartError.OutOfMemory f fits out over told short near is = absurd (none-some f is)

-- ---- All three

pub frame_stands : (limit end : ℕ) (bytes sync : List ℕ) (ps : List Property) → BeginsHeader limit bytes → MetadataEnds end bytes ps → end + 16 ≤ length bytes
    → sync ≡ take 16 (drop end bytes) → FrameStands limit bytes ps sync (end + 16)
frame_stands limit end bytes sync ps b m inside is =
    let fits = b.fits in
    let offset = m.stretch.offset in
    let behind : drop end bytes ≡ sync ++ drop (end + 16) bytes =
    sym (take-append-drop 16 (drop end bytes)) ∙ ap (λ (front : List ℕ). front ++ drop 16 (drop end bytes)) (sym is) ∙ ap (λ (rest : List ℕ). sync ++ rest) (drop-drop 16 end bytes) in
    record {
      metadata = m.metadata;
      stands = subst (λ (rest : List ℕ). MetadataStands ps bytes m.metadata rest) behind (metadata_stands bytes end ps b.begins m);
      marker = ap length is ∙ length-take-le 16 (drop end bytes) (omega (arith, length-drop end bytes, inside));
      offset = omega (arith, offset);
      inside = inside;
      within = omega (arith, inside, fits);
    }

whole_within : (limit end : ℕ) (bytes sync : List ℕ) (ps : List Property) → FrameStands limit bytes ps sync end → IsWholeWithin limit ps bytes
whole_within limit end bytes sync ps s = grind arith

-- the text is not a schema
pub schema_stops : {T : Type 0} (r : Result T CopyError) (text : List ℕ) (ps : List Property) → property (codes "avro.schema") ps ≡ Some text
    → is_plain_codec (property (codes "avro.codec") ps) ≡ true → IfErr r (λ e. (f : FileFault) → file_fault e ≡ Some f → IsNoSchema text f)
    → IfErr r (λ e. (f : FileFault) → file_fault e ≡ Some f → SayNone ps f)
schema_stops (Ok x) text ps some plain h = tt
schema_stops (Err e) text ps some plain h = λ f is.
    let none = h f is in
    subst (SayNone ps) (sym none.1) (SayNone.schema_fails text none.0 some plain none.2)

-- what they say is wrong
pub says_none : (limit end : ℕ) (ended : Type 0) (bytes sync : List ℕ) (ps : List Property) (f : FileFault) → FrameStands limit bytes ps sync end → SayNone ps f
    → IsHeaderFault limit ended bytes f
says_none limit end ended bytes sync ps _ s (SayNone.schema_lacks none) = (no_schema, refl, HeaderFails.schema_lacks ps (whole_within limit end bytes sync ps s) none)
says_none limit end ended bytes sync ps _ s (SayNone.other_codec text some other) =
    (unknown_codec, refl, HeaderFails.other_codec ps text (whole_within limit end bytes sync ps s) some other)
says_none limit end ended bytes sync ps _ s (SayNone.schema_fails text e some plain fault) =
    (refused_schema e, refl, HeaderFails.schema_fails ps text e (whole_within limit end bytes sync ps s) some plain fault)

-- they are a header
pub frame_header : (limit end : ℕ) (bytes sync : List ℕ) (ps : List Property) (nodes : List Node) → FrameStands limit bytes ps sync end → SaySchema ps nodes
    → IsHeader (record { nodes = nodes; properties = ps; sync = sync }) (take end bytes)
frame_header limit end bytes sync ps nodes s says =
    let offset = s.offset in
    let marker = s.marker in
    let whole = magic ++ s.metadata ++ sync in
    let long : length whole ≡ end = length-append magic (s.metadata ++ sync) ∙ omega (arith, offset, marker, length-append s.metadata sync) in
    let split : bytes ≡ whole ++ drop end bytes = s.stands.split ∙ ap (λ (r : List ℕ). magic ++ r) (sym (append_assoc s.metadata sync (drop end bytes))) ∙ sym (append_assoc magic (s.metadata ++ sync) (drop end bytes)) in
    let front : take end (whole ++ drop end bytes) ≡ whole = take-append-le end whole (drop end bytes) (omega (arith, long)) ∙ take_all end whole (omega (arith, long)) in
    record {
      text = says.text;
      stands = says.stands;
      declares = says.declares;
      codec = says.codec;
      metadata = s.metadata;
      spelled = s.stands.spelled;
      marker = s.marker;
      split = ap (take end) split ∙ front;
    }

-- ---- Into an empty buffer

pub all_taken : {I : Type 0} (gives : I → List ℕ → I → Type 0) (a b : I) (old new : List ℕ) → old ≡ [] → GrowsBy gives a b old new → gives a new b
all_taken gives a b old new none p = subst (λ (bytes : List ℕ). gives a bytes b) (sym (p.grown ∙ ap (λ (front : List ℕ). front ++ p.bytes) none)) p.taken

pub fault_taken : {I : Type 0} (gives : I → List ℕ → I → Type 0) (ended : I → Type 0) (a b : I) (old new : List ℕ) (limit : ℕ) (f : FileFault) → old ≡ [] → GrowsBy gives a b old new
    → IsHeaderFault limit (ended b) new f → TakesHeaderFault gives ended a b limit f
fault_taken gives ended a b old new limit f none p is = record { bytes = new; taken = all_taken gives a b old new none p; stands = is }
