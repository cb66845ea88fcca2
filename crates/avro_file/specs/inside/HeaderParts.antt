-- What taking a part of a header does, and what stops it.
use Rattle.std.specs.Prelude.{◌≡◌, ◌≢◌, ℕ, ◌+◌, ◌-◌, ◌^◌, ◌<◌, ◌≤◌, max, pos, negsuc, true, false, List, [], ◌∷◌, ◌++◌, length, take, drop, bytes_eq}
use Rattle.std.specs.Prelude.{String}
use Rattle.std.specs.List.{concat, list_any}
use Rattle.std.specs.BTreeSet.{BTreeSet, contains_text}
use Rattle.std.specs.declared.alloc.Global.{Global}
use Rattle.avro_zigzag.specs.NumberFault.{LongFails}
use Rattle.avro_zigzag.specs.declared.VarError.TheVariants.{EndOfInput}
use Rattle.avro_schema.specs.Fits.{are_bytes, is_text}
use Rattle.avro_schema.specs.Distinct.{are_distinct}
use Rattle.avro_cursor.specs.Encoding.{SpellsBytes}
use Rattle.avro_cursor.specs.Fault.{ReadFault, end_of_input, invalid_length, behind}
use Rattle.avro_cursor.specs.Breaks.{LongBreaks, StartsWithLong, Left, BreaksAfter, BreaksWithin, EntryBreaks}
use Rattle.avro_schema.specs.Node.{Node}
use Rattle.avro_file.specs.File.{Property, metadata_nodes}
use Rattle.avro_file.specs.HeaderFails.{entry_limits}
use Rattle.avro_file.specs.FileFault.{FileFault, in_header, invalid_metadata, long_header, cut_header}
use Rattle.avro_file.specs.Filled.{GrowsBy, TakesAtMost}
use Rattle.avro_file.specs.Named.{IsNamed}
use Rattle.avro_file.specs.declared.error.CopyError.{CopyError}

-- A call that takes no failing of the device: the buffer grew by what was taken, and not past the limit.
pub record Takes {I : Type 0} (gives : I → List ℕ → I → Type 0) (failures : I → ℕ) (limit : ℕ) (from to : I) (old new : List ℕ) : Type 0 where
  pub grown : GrowsBy gives from to old new
  pub limited : length new ≤ max (length old) limit
  pub works : failures to ≡ failures from

-- a call that is refused
pub record Refused {I : Type 0} (gives : I → List ℕ → I → Type 0) (failures : I → ℕ) (limit : ℕ) (from to : I) (old new : List ℕ) (e : CopyError) : Type 0 where
  pub grown : e ≢ CopyError.InputFailed → GrowsBy gives from to old new
  pub lost : TakesAtMost gives from to (limit - length old)
  pub limited : length new ≤ max (length old) limit
  pub fails : e ≡ CopyError.InputFailed → failures to ≢ failures from
  pub no_output : e ≢ CopyError.OutputFailed
  pub first : e ≢ CopyError.FailedBefore
  pub named : IsNamed e

-- What keeps a part that should stand after a number of bytes from being taken: it breaks; it goes past the limit; or the
-- input ends in it. How it breaks, and where it would end, is handed in.
pub data PartStops (limit at : ℕ) (ended : Type 0) (bytes : List ℕ) (breaks wants : List ℕ → ReadFault → Type 0) : FileFault → Type 0 where
  broken : {g : FileFault} (f : ReadFault) → breaks (drop at bytes) f → ((place : ℕ) → f ≢ end_of_input place) → g ≡ in_header (invalid_metadata (behind at f))
      → PartStops limit at ended bytes breaks wants g
  too_long : (there : ℕ) → wants (drop at bytes) (end_of_input there) → limit < max (at + there) (length bytes + 1)
      → PartStops limit at ended bytes breaks wants (in_header long_header)
  is_cut : (there : ℕ) → wants (drop at bytes) (end_of_input there) → max (at + there) (length bytes + 1) ≤ limit → ended
      → PartStops limit at ended bytes breaks wants (in_header cut_header)

-- a length that is none: its number fails, or it is negative
pub data LengthBreaks (bytes : List ℕ) : ReadFault → Type 0 where
  number_breaks : {f : ReadFault} → LongBreaks bytes f → LengthBreaks bytes f
  is_negative : (n : ℕ) (number rest : List ℕ) → StartsWithLong (negsuc n) bytes number rest → LengthBreaks bytes (invalid_length 0)

-- a length that ends too early
pub data LengthWants (bytes : List ℕ) : ReadFault → Type 0 where
  in_number : LongFails bytes EndOfInput → LengthWants bytes (end_of_input 0)

-- These bytes stand between two offsets.
pub record Stretch (from : ℕ) (front : List ℕ) (to : ℕ) (bytes : List ℕ) : Type 0 where
  pub offset : to ≡ from + length front
  pub split : drop from bytes ≡ front ++ drop to bytes
  pub inside : to ≤ length bytes

-- After its length, which begins at `at`, a content stands from `start` to `end`.
pub record ContentFrom (at start end : ℕ) (bytes : List ℕ) : Type 0 where
  pub begins : at ≤ start
  pub ordered : start ≤ end
  pub inside : end ≤ length bytes
  pub starts : StartsWithLong (pos (end - start)) (drop at bytes) (take (start - at) (drop at bytes)) (drop start bytes)

-- the names so far, in a set
abbrev pub AreNames : BTreeSet (String Global) → List (List ℕ) → Type 0
AreNames set names = (word : List ℕ) → contains_text set word ≡ list_any (bytes_eq word) names

abbrev pub names_of : List Property → List (List ℕ)
names_of [] = []
names_of (p ∷ ps) = p.name ∷ names_of ps

-- A name stands after its length.
pub record NameStands (name : List ℕ) (bytes : List ℕ) : Type 0 where
  pub spelled : SpellsBytes name bytes
  pub text : is_text name ≡ true

-- The bytes are a property.
pub record IsProperty (p : Property) (bytes : List ℕ) : Type 0 where
  pub name : List ℕ
  pub content : List ℕ
  pub named : NameStands p.name name
  pub spelled : SpellsBytes p.content content
  pub are_bytes : are_bytes p.content ≡ true
  pub split : bytes ≡ name ++ content

abbrev pub EachProperty : List Property → List (List ℕ) → Type 0
EachProperty [] items = items ≡ []
EachProperty (p ∷ ps) items = (first : List ℕ) × (others : List (List ℕ)) × IsProperty p first × EachProperty ps others × (items ≡ first ∷ others)

-- properties, one after another, none of whose names stands twice or before
pub record PropertiesRun (left : Left) (ps : List Property) (bytes : List ℕ) : Type 0 where
  pub items : List (List ℕ)
  pub each : EachProperty ps items
  pub bytes_are : bytes ≡ concat items
  pub distinct : are_distinct bytes_eq (left.keys ++ names_of ps) ≡ true

-- what they leave
abbrev pub left_after : Left → List Property → Left
left_after left ps = record { nodes = left.nodes - length ps; keys = left.keys ++ names_of ps }

-- how a property of the metadata breaks
abbrev pub PropertyBreaks : Left → List ℕ → ReadFault → Type 0
PropertyBreaks left bytes f = EntryBreaks entry_limits (λ count m rest g. BreaksWithin metadata_nodes 1 count (2 ^ 63) m rest g) Node.bytes left bytes f

-- fewer properties than `count` stand whole, and the next is stopped
pub record RunStops (item : Left → List ℕ → ReadFault → Type 0) (left : Left) (count : ℕ) (bytes : List ℕ) (f : ReadFault) : Type 0 where
  pub properties : List Property
  pub front : List ℕ
  pub few : length properties < count
  pub run : PropertiesRun left properties front
  pub next : BreaksAfter (item (left_after left properties)) front bytes f

-- a name that was taken, and is none of those before
pub record TakesName (names_before names_after : BTreeSet (String Global)) (at end : ℕ) (bytes : List ℕ) (name : List ℕ) : Type 0 where
  pub front : List ℕ
  pub stretch : Stretch at front end bytes
  pub stands : NameStands name front
  pub fresh : (names : List (List ℕ)) → AreNames names_before names → list_any (bytes_eq name) names ≡ false
  pub added : (names : List (List ℕ)) → AreNames names_before names → AreNames names_after (names ++ name ∷ [])

-- a property that was taken, after others
pub record TakesProperty (names_before names_after : BTreeSet (String Global)) (at end : ℕ) (bytes : List ℕ) (before after : List Property) : Type 0 where
  pub property : Property
  pub front : List ℕ
  pub stretch : Stretch at front end bytes
  pub is_property : IsProperty property front
  pub pushed : after ≡ before ++ property ∷ []
  pub fresh : (names : List (List ℕ)) → AreNames names_before names → list_any (bytes_eq property.name) names ≡ false
  pub added : (names : List (List ℕ)) → AreNames names_before names → AreNames names_after (names ++ property.name ∷ [])

-- properties that were taken, after others
pub record TakesProperties (left : Left) (names_after : BTreeSet (String Global)) (count at end : ℕ) (bytes : List ℕ) (before after : List Property) : Type 0 where
  pub properties : List Property
  pub front : List ℕ
  pub stretch : Stretch at front end bytes
  pub counted : length properties ≡ count
  pub run : PropertiesRun left properties front
  pub pushed : after ≡ before ++ properties
  pub named : AreNames names_after (left.keys ++ names_of properties)
