-- Faults of the magic, the metadata and the marker, and what is left of bytes that are these alone.
use Rattle.std.proofs.Common.{◌≡◌, ℕ, ◌≤◌, List, [], ◌++◌, length, Some, true, subst, ◌∙◌, arith, append-nil}
use Rattle.std.proofs.lemmas.List.{at_drop_all}
use Rattle.std.proofs.lemmas.Option.{same_Some}
use Rattle.avro_cursor.specs.Fault.{ReadFault}
use Rattle.avro_file.specs.File.{Property}
use Rattle.avro_file.specs.FileFault.{FileFault}
use Rattle.avro_file.specs.HeaderFails.{MetadataStands}
use Rattle.avro_file.specs.HeaderTaken.{TakesMetadata, is_of_frame}
use Rattle.avro_file.specs.Filled.{GrowsBy}
use Rattle.avro_file.specs.inside.HeaderEnds.{FrameStands, MarkerStops}
use Rattle.avro_file.specs.inside.HeaderParts.{PartStops}
use Rattle.avro_file.proofs.HeaderEnds.{all_taken}

pub framed : (f g : FileFault) → is_of_frame g ≡ true → Some g ≡ Some f → is_of_frame f ≡ true
framed f g h is = subst (λ (x : FileFault). is_of_frame x ≡ true) (same_Some _ _ is) h

-- what stops the metadata
pub part_framed : (limit at : ℕ) (ended : Type 0) (bytes : List ℕ) (breaks wants : List ℕ → ReadFault → Type 0) (f : FileFault)
    → PartStops limit at ended bytes breaks wants f → is_of_frame f ≡ true
part_framed limit at ended bytes breaks wants f stops = grind arith

-- what stops the marker
pub marker_framed : (limit at : ℕ) (ended : Type 0) (bytes : List ℕ) (f : FileFault) → MarkerStops limit at ended bytes f → is_of_frame f ≡ true
marker_framed limit at ended bytes f stops = grind arith

-- bytes that end where the marker does
pub frame_alone : {I : Type 0} (gives : I → List ℕ → I → Type 0) (a b : I) (old new : List ℕ) (limit end : ℕ) (sync : List ℕ) (ps : List Property) → old ≡ []
    → GrowsBy gives a b old new → FrameStands limit new ps sync end → length new ≤ end → TakesMetadata gives a b limit ps
frame_alone gives a b old new limit end sync ps none p s short =
    let within = s.within in
    record {
      bytes = new;
      metadata = s.metadata;
      sync = sync;
      taken = all_taken gives a b old new none p;
      stands = subst (λ (rest : List ℕ). MetadataStands ps new s.metadata rest) (at_drop_all (λ (rest : List ℕ). sync ++ rest) new end short ∙ append-nil sync) s.stands;
      marker = s.marker;
      within = omega (arith, within, short);
    }
