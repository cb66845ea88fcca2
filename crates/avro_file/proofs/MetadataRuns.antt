-- The blocks of a header's metadata, one after another.
use Rattle.std.proofs.Common.{◌≡◌, ℕ, ◌+◌, ◌^◌, ◌<◌, ◌≤◌, pos, true, false, ◌&&◌, List, [], ◌∷◌, ◌++◌, length, refl, sym, ap, subst, ◌∙◌, arith, append_assoc, append-nil, length-append, bytes_eq}
use Rattle.std.specs.List.{concat, list_all}
use Rattle.std.proofs.lemmas.Bool.{and_from}
use Rattle.avro_zigzag.specs.Number.{SpellsLong, AreGroups}
use Rattle.avro_schema.specs.Value.{keys_of, entries_count}
use Rattle.avro_schema.specs.Node.{Node, root_of}
use Rattle.avro_schema.specs.Fits.{is_count, is_text, entries_fit}
use Rattle.avro_schema.specs.Distinct.{are_distinct}
use Rattle.avro_cursor.specs.Blocks.{IsInBlocks, no_more}
use Rattle.avro_cursor.specs.Encoding.{Encodes}
use Rattle.avro_cursor.specs.Fault.{ReadFault, behind}
use Rattle.avro_cursor.specs.Breaks.{Left, all_left, Head, head_count, head_bytes, IsHead, HasSize, BlocksBreak, EntriesAreWhole}
use Rattle.avro_cursor.proofs.public.Behind.{behind-append}
use Rattle.avro_binary.proofs.public.Blocks.{block_first}
use Rattle.avro_cursor.proofs.public.Ranges.{is_count-from_below}
use Rattle.avro_file.specs.File.{Property, property_entries, metadata_nodes, metadata_value}
use Rattle.avro_file.specs.HeaderFails.{PropertyWants, entry_limits}
use Rattle.avro_file.specs.inside.HeaderParts.{EachProperty, PropertiesRun, left_after, PropertyBreaks}
use Rattle.avro_file.specs.inside.MetadataParts.{Blocks, BlockRun, MetadataRun, metadata_left}
use Rattle.avro_file.proofs.PropertyRuns.{names-append, each-append, each-counted, each-spelled, each-texts, each-fit, entries-counted, keys-names, run_whole}

-- ---- Each property has a byte at least

pub groups-some : (most n : ℕ) (bytes : List ℕ) → AreGroups most n bytes → 0 < length bytes
groups-some most n [] g = absurd (false-true g.groups)
  where
    false-true : false ≡ true → ⊥
    false-true e = cc
groups-some most n (b ∷ bytes) g = omega arith

each-long : (ps : List Property) (items : List (List ℕ)) → EachProperty ps items → length ps ≤ length (concat items)
each-long [] items s = omega arith
each-long (p ∷ ps) items s =
    let name = s.2.named.spelled in
    let one = groups-some 10 _ name.0 name.1 in
    let named : length s.2.name ≡ length name.0 + length p.name = ap length name.2 ∙ length-append name.0 p.name in
    let first : length s.0 ≡ length s.2.name + length s.2.content = ap length s.2.split ∙ length-append s.2.name s.2.content in
    let all : length (concat items) ≡ length s.0 + length (concat s.1) = ap (λ (is : List (List ℕ)). length (concat is)) s.4 ∙ length-append s.0 (concat s.1) in
    omega (arith, one, named, first, all, each-long ps s.1 s.3)

-- ---- Blocks

-- the properties of a block are whole
pub block_whole : (left : Left) (head : Head) (ps : List Property) (body : List ℕ) → PropertiesRun left ps body → length ps ≡ head_count head → head_count head ≤ left.nodes
    → EntriesAreWhole metadata_nodes entry_limits Node.bytes left (head_count head) body (left_after left ps)
block_whole left head ps body run same few = grind (arith, run_whole)

pub head_few : (left : ℕ) (head : Head) → IsHead left head → head_count head ≤ left
head_few left head is = grind arith

-- what breaks after a block breaks it and what follows
block_later : (item : Left → List ℕ → ReadFault → Type 0) (left : Left) (b : BlockRun left) (rest : List ℕ) (f : ReadFault)
    → Blocks item (left_after left b.properties) rest f → Blocks item left ((head_bytes b.head ++ b.body) ++ rest) (behind (length (head_bytes b.head ++ b.body)) f)
block_later item left b rest f later =
    BlocksBreak.later_breaks b.head b.body rest (left_after left b.properties) f b.is_head (block_whole left b.head b.properties b.body b.run b.counted (head_few left.nodes b.head b.is_head)) b.has_size
    refl later refl

left_twice : (ps qs : List Property) → left_after (metadata_left ps) qs ≡ metadata_left (ps ++ qs)
left_twice ps qs = grind (arith, length-append, names-append)

module _ (item : Left → List ℕ → ReadFault → Type 0) (ps : List Property) (front : List ℕ) (b : BlockRun (metadata_left ps))
    (so_far : (rest : List ℕ) (f : ReadFault) → Blocks item (metadata_left ps) rest f → Blocks item (all_left entry_limits) (front ++ rest) (behind (length front) f)) where
  lift : (rest : List ℕ) (f : ReadFault) → Blocks item (metadata_left (ps ++ b.properties)) rest f
      → Blocks item (all_left entry_limits) ((front ++ (head_bytes b.head ++ b.body)) ++ rest) (behind (length (front ++ (head_bytes b.head ++ b.body))) f)
  lift rest f later = grind (arith, append_assoc, behind-append, block_later, left_twice)

pub metadata_push : (ps : List Property) (front : List ℕ) (run : MetadataRun ps front) (b : BlockRun (metadata_left ps)) → MetadataRun (ps ++ b.properties) (front ++ (head_bytes b.head ++ b.body))
metadata_push ps front run b =
    let part = head_bytes b.head ++ b.body in
    record {
      items = run.items ++ b.run.items;
      each = each-append ps b.properties run.items b.run.items run.each b.run.each;
      distinct = ap (are_distinct bytes_eq) (names-append ps b.properties) ∙ b.run.distinct;
      few =
          let body : length b.body ≡ length (concat b.run.items) = ap length b.run.bytes_are in
          omega (arith, run.few, each-long b.properties b.run.items b.run.each, body, length-append ps b.properties, length-append front part, length-append (head_bytes b.head) b.body);
      ends = λ later bytes blocks.
          let size : HasSize b.head (length (concat b.run.items)) = subst (λ (r : List ℕ). HasSize b.head (length r)) b.run.bytes_are b.has_size in
          let one = block_first (metadata_left ps).nodes b.head b.run.items later bytes b.is_head (each-counted b.properties b.run.items b.run.each ∙ b.counted) size blocks in
          let same : head_bytes b.head ++ concat b.run.items ≡ part = ap (λ (r : List ℕ). head_bytes b.head ++ r) (sym b.run.bytes_are) in
          let two : IsInBlocks (b.run.items ++ later) (part ++ bytes) = subst (λ (r : List ℕ). IsInBlocks (b.run.items ++ later) (r ++ bytes)) same one in
          subst (λ (q : List ℕ). IsInBlocks ((run.items ++ b.run.items) ++ later) q) (sym (append_assoc front part bytes))
          (subst (λ (is : List (List ℕ)). IsInBlocks is (front ++ (part ++ bytes))) (sym (append_assoc run.items b.run.items later)) (run.ends (b.run.items ++ later) (part ++ bytes) two));
      breaks = lift PropertyBreaks ps front b run.breaks;
      wants = lift PropertyWants ps front b run.wants;
    }

-- the metadata ends
pub metadata_whole : (ps : List Property) (front last : List ℕ) → MetadataRun ps front → SpellsLong (pos 0) last → length ps < 2 ^ 63
    → Encodes metadata_nodes (root_of metadata_nodes) (metadata_value ps) (front ++ last)
metadata_whole ps front last run none few = record {
  fitting =
      let entries = property_entries ps in
      let counted = is_count (entries_count entries) in
      let texts = list_all is_text (keys_of entries) in
      let distinct = are_distinct bytes_eq (keys_of entries) in
      and_from (counted && texts && distinct) (entries_fit metadata_nodes Node.bytes entries)
      (and_from (counted && texts) distinct
      (and_from counted texts (is_count-from_below (entries_count entries) (omega (arith, few, entries-counted ps))) (each-texts ps run.items run.each))
      (ap (are_distinct bytes_eq) (keys-names ps) ∙ run.distinct))
      (each-fit ps run.items run.each);
  spelled = (
    run.items,
    each-spelled ps run.items run.each,
    subst (λ (is : List (List ℕ)). IsInBlocks is (front ++ last)) (append-nil run.items) (run.ends [] last (no_more none)),
  );
}
