-- The blocks of a header's metadata that were taken.
use Rattle.std.specs.Prelude.{◌≡◌, ℕ, ◌+◌, ◌^◌, ◌<◌, ◌≤◌, pos, neg_ℤ, true, false, List, ◌++◌, length, bytes_eq}
use Rattle.std.specs.Prelude.{String}
use Rattle.std.specs.BTreeSet.{BTreeSet}
use Rattle.std.specs.declared.alloc.Global.{Global}
use Rattle.avro_zigzag.specs.Number.{SpellsLong}
use Rattle.avro_schema.specs.Node.{Node, root_of}
use Rattle.avro_schema.specs.Distinct.{are_distinct}
use Rattle.avro_cursor.specs.Blocks.{IsInBlocks}
use Rattle.avro_cursor.specs.Encoding.{Encodes}
use Rattle.avro_cursor.specs.Fault.{ReadFault, behind}
use Rattle.avro_cursor.specs.Breaks.{Left, all_left, Head, head_count, IsHead, HasSize, BlocksBreak, EntriesAreWhole}
use Rattle.avro_file.specs.File.{Property, metadata_nodes, metadata_value}
use Rattle.avro_file.specs.HeaderFails.{PropertyWants, entry_limits}
use Rattle.avro_file.specs.declared.header.properties_head.PropertiesHead.{PropertiesHead}
use Rattle.avro_file.specs.inside.HeaderParts.{AreNames, Stretch, names_of, EachProperty, PropertiesRun, left_after, PropertyBreaks}

abbrev pub Blocks : (Left → List ℕ → ReadFault → Type 0) → Left → List ℕ → ReadFault → Type 0
Blocks item left bytes f = BlocksBreak (EntriesAreWhole metadata_nodes entry_limits Node.bytes) item left bytes f

-- what properties leave of the metadata's limits
abbrev pub metadata_left : List Property → Left
metadata_left ps = left_after (all_left entry_limits) ps

-- a whole block of properties
pub record BlockRun (left : Left) : Type 0 where
  pub head : Head
  pub properties : List Property
  pub body : List ℕ
  pub is_head : IsHead left.nodes head
  pub counted : length properties ≡ head_count head
  pub run : PropertiesRun left properties body
  pub has_size : HasSize head (length body)

-- The blocks so far: what ends the blocks after them ends them all, and what breaks those breaks all.
pub record MetadataRun (ps : List Property) (front : List ℕ) : Type 0 where
  pub items : List (List ℕ)
  pub each : EachProperty ps items
  pub distinct : are_distinct bytes_eq (names_of ps) ≡ true
  pub few : length ps ≤ length front
  pub ends : (later : List (List ℕ)) (bytes : List ℕ) → IsInBlocks later bytes → IsInBlocks (items ++ later) (front ++ bytes)
  pub breaks : (rest : List ℕ) (f : ReadFault) → Blocks PropertyBreaks (metadata_left ps) rest f → Blocks PropertyBreaks (all_left entry_limits) (front ++ rest) (behind (length front) f)
  pub wants : (rest : List ℕ) (f : ReadFault) → Blocks PropertyWants (metadata_left ps) rest f → Blocks PropertyWants (all_left entry_limits) (front ++ rest) (behind (length front) f)

-- The head of a block of the metadata was taken, or the 0 that ends them.
pub data TakesHead (at : ℕ) (bytes : List ℕ) : PropertiesHead → Type 0 where
  at_end : {h : PropertiesHead} (front : List ℕ) → h.count ≡ 0 → Stretch at front h.start bytes → SpellsLong (pos 0) front → TakesHead at bytes h
  counted : {h : PropertiesHead} (front : List ℕ) → 0 < h.count → h.count < 2 ^ 63 → h.is_sized ≡ false → Stretch at front h.start bytes
      → SpellsLong (pos h.count) front → TakesHead at bytes h
  sized : {h : PropertiesHead} (front size : List ℕ) → 0 < h.count → h.count < 2 ^ 63 → h.is_sized ≡ true → Stretch at (front ++ size) h.start bytes
      → SpellsLong (neg_ℤ (pos h.count)) front → SpellsLong (pos h.size) size → h.size < 2 ^ 63 → h.offset ≡ at + length front → TakesHead at bytes h

-- The blocks so far stand after the magic.
pub record MetadataSoFar (at : ℕ) (bytes : List ℕ) (names : BTreeSet (String Global)) (ps : List Property) : Type 0 where
  pub front : List ℕ
  pub run : MetadataRun ps front
  pub stretch : Stretch 4 front at bytes
  pub named : AreNames names (names_of ps)

-- The whole metadata stands after the magic.
pub record MetadataEnds (end : ℕ) (bytes : List ℕ) (ps : List Property) : Type 0 where
  pub metadata : List ℕ
  pub stretch : Stretch 4 metadata end bytes
  pub spelled : Encodes metadata_nodes (root_of metadata_nodes) (metadata_value ps) metadata
