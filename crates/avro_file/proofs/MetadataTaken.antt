-- Blocks of the metadata that are taken, and what stops them.
use Rattle.std.proofs.Common.{◌≡◌, ◌≢◌, ℕ, ◌-◌, ◌^◌, ◌<◌, ◌≤◌, true, false, List, [], ◌++◌, length, drop, refl, sym, ap, subst, ◌∙◌, arith, append_assoc, length-append}
use Rattle.std.specs.Prelude.{String}
use Rattle.std.specs.BTreeSet.{BTreeSet, contains_text}
use Rattle.std.specs.declared.alloc.Global.{Global}
use Rattle.avro_cursor.specs.Fault.{ReadFault, wrong_block_size, behind}
use Rattle.avro_cursor.specs.Breaks.{Left, all_left, Head, counted, sized, head_count, head_bytes, IsHead, HasSize, HeadBreaks, BlocksBreak}
use Rattle.avro_cursor.proofs.public.Behind.{behind-append}
use Rattle.avro_file.specs.File.{Property}
use Rattle.avro_file.specs.FileFault.{FileFault, in_header, invalid_metadata}
use Rattle.avro_file.specs.Filled.{GrowsBy}
use Rattle.avro_file.specs.HeaderFails.{PropertyWants, entry_limits}
use Rattle.avro_file.specs.inside.HeaderParts.{Stretch, AreNames, names_of, left_after, PropertyBreaks, RunStops, PartStops, TakesProperties}
use Rattle.avro_file.specs.inside.MetadataParts.{Blocks, BlockRun, MetadataRun, MetadataSoFar, MetadataEnds, TakesHead, metadata_left}
use Rattle.avro_file.specs.declared.header.properties_head.PropertiesHead.{PropertiesHead}
use Rattle.avro_file.proofs.Behind.{stops-whole}
use Rattle.avro_file.proofs.PropertyRuns.{stretch_none, stretch_join, stretch_grown, names-append, run_whole}
use Rattle.avro_file.proofs.MetadataRuns.{metadata_push, metadata_whole, block_whole, head_few, groups-some}

-- the head that was taken, as a head of avro_binary
record HeadAs (left at : ℕ) (bytes : List ℕ) (h : PropertiesHead) : Type 0 where
  head : Head
  is_head : IsHead left head
  count : head_count head ≡ h.count
  stretch : Stretch at (head_bytes head) h.start bytes
  has_size : (n : ℕ) → (h.is_sized ≡ true → h.size ≡ n) → HasSize head n

head_as : (left at : ℕ) (bytes : List ℕ) (h : PropertiesHead) → 2 ^ 63 ≤ left → 0 < h.count → TakesHead at bytes h → HeadAs left at bytes h
head_as left at bytes h many some (TakesHead.at_end front none stretch spelled) = absurd (omega (arith, some, none))
head_as left at bytes h many some (TakesHead.counted front positive small plain stretch spelled) = record {
  head = counted h.count front;
  is_head = (positive, small, omega (arith, small, many), spelled);
  count = refl;
  stretch = stretch;
  has_size = λ n same. tt;
}
head_as left at bytes h many some (TakesHead.sized front size positive small is_sized stretch spelled sizes short offset) = record {
  head = sized h.count h.size front size;
  is_head = (positive, small, omega (arith, small, many), short, spelled, sizes);
  count = refl;
  stretch = stretch;
  has_size = λ n same. same is_sized;
}

-- the head of the next block is stopped
pub next_head_stops : {I : Type 0} (gives : I → List ℕ → I → Type 0) (s t : I) (old new : List ℕ) (limit at : ℕ) (ended : Type 0) (names : BTreeSet (String Global)) (ps : List Property)
    (f : FileFault) → GrowsBy gives s t old new → MetadataSoFar at old names ps → PartStops limit at ended new (HeadBreaks (metadata_left ps).nodes) (HeadBreaks (metadata_left ps).nodes) f
    → PartStops limit 4 ended new (Blocks PropertyBreaks (all_left entry_limits)) (Blocks PropertyWants (all_left entry_limits)) f
next_head_stops gives s t old new limit at ended names ps f grown m stops =
    let nodes = (metadata_left ps).nodes in
    let stretch = stretch_grown gives s t old new 4 at m.front grown m.stretch in
    stops-whole limit 4 at ended new m.front (HeadBreaks nodes) (HeadBreaks nodes) (Blocks PropertyBreaks (all_left entry_limits)) (Blocks PropertyWants (all_left entry_limits)) f
    stretch.offset stretch.split (λ rest g b. m.run.breaks rest g (BlocksBreak.head_breaks b)) (λ rest g b. m.run.wants rest g (BlocksBreak.head_breaks b)) stops

-- a property of a block is stopped
in_block : (item : Left → List ℕ → ReadFault → Type 0) (left : Left) (head : Head) (count : ℕ) → IsHead left.nodes head → head_count head ≡ count
    → (rest : List ℕ) (g : ReadFault) → RunStops item left count rest g → Blocks item left (head_bytes head ++ rest) (behind (length (head_bytes head)) g)
in_block item left head count is same rest g r =
    let few = r.few in
    BlocksBreak.item_fails head (length r.properties) r.front (left_after left r.properties) is (omega (arith, few, same))
    (run_whole left r.properties r.front r.run (omega (arith, few, same, head_few left.nodes head is))) (record {
      rest = r.next.rest;
      fault = r.next.fault;
      split = ap (λ (b : List ℕ). head_bytes head ++ b) r.next.split ∙ sym (append_assoc (head_bytes head) r.front r.next.rest);
      breaks = r.next.breaks;
      moved = ap (behind (length (head_bytes head))) r.next.moved ∙ sym (behind-append (head_bytes head) r.front r.next.fault);
    })

-- the end of the metadata
pub metadata_ended : {I : Type 0} (gives : I → List ℕ → I → Type 0) (s t : I) (old new : List ℕ) (at : ℕ) (names : BTreeSet (String Global)) (ps : List Property) (h : PropertiesHead)
    → GrowsBy gives s t old new → MetadataSoFar at old names ps → TakesHead at new h → h.count ≡ 0 → length ps < 2 ^ 63 → MetadataEnds h.start new ps
metadata_ended gives s t old new at names ps h grown m (TakesHead.at_end front none stretch spelled) is few = record {
  metadata = m.front ++ front;
  stretch = stretch_join 4 at h.start m.front front new (stretch_grown gives s t old new 4 at m.front grown m.stretch) stretch;
  spelled = metadata_whole ps m.front front m.run spelled few;
}
metadata_ended gives s t old new at names ps h grown m (TakesHead.counted front positive small plain stretch spelled) is few = absurd (omega (arith, positive, is))
metadata_ended gives s t old new at names ps h grown m (TakesHead.sized front size positive small is_sized stretch spelled sizes short offset) is few = absurd (omega (arith, positive, is))

-- a property of the next block is stopped
pub next_run_stops : {I : Type 0} (gives : I → List ℕ → I → Type 0) (s t u : I) (old mid new : List ℕ) (limit at : ℕ) (ended : Type 0) (names : BTreeSet (String Global)) (ps : List Property)
    (h : PropertiesHead) (f : FileFault) → GrowsBy gives s t old mid → GrowsBy gives t u mid new → MetadataSoFar at old names ps → TakesHead at mid h → 0 < h.count
    → 2 ^ 63 ≤ (metadata_left ps).nodes
    → PartStops limit h.start ended new (RunStops PropertyBreaks (metadata_left ps) h.count) (RunStops PropertyWants (metadata_left ps) h.count) f
    → PartStops limit 4 ended new (Blocks PropertyBreaks (all_left entry_limits)) (Blocks PropertyWants (all_left entry_limits)) f
next_run_stops gives s t u old mid new limit at ended names ps h f first second m taken some many stops =
    let left = metadata_left ps in
    let a = head_as left.nodes at mid h many some taken in
    let bytes = head_bytes a.head in
    let stretch = stretch_grown gives t u mid new 4 h.start (m.front ++ bytes) second
    (stretch_join 4 at h.start m.front bytes mid (stretch_grown gives s t old mid 4 at m.front first m.stretch) a.stretch) in
    stops-whole limit 4 h.start ended new (m.front ++ bytes) (RunStops PropertyBreaks left h.count) (RunStops PropertyWants left h.count)
    (Blocks PropertyBreaks (all_left entry_limits)) (Blocks PropertyWants (all_left entry_limits)) f stretch.offset stretch.split
    (λ rest g r. lifted PropertyBreaks m.front bytes rest g m.run.breaks (in_block PropertyBreaks left a.head h.count a.is_head a.count rest g r))
    (λ rest g r. lifted PropertyWants m.front bytes rest g m.run.wants (in_block PropertyWants left a.head h.count a.is_head a.count rest g r))
    stops
  where
    lifted : (item : Left → List ℕ → ReadFault → Type 0) (front bytes rest : List ℕ) (g : ReadFault)
        → ((r : List ℕ) (k : ReadFault) → Blocks item (metadata_left ps) r k → Blocks item (all_left entry_limits) (front ++ r) (behind (length front) k))
        → Blocks item (metadata_left ps) (bytes ++ rest) (behind (length bytes) g) → Blocks item (all_left entry_limits) ((front ++ bytes) ++ rest) (behind (length (front ++ bytes)) g)
    lifted item front bytes rest g lift b = grind (arith, append_assoc, behind-append)

-- one more block
pub block_pushed : {I : Type 0} (gives : I → List ℕ → I → Type 0) (s t u : I) (old mid new : List ℕ) (at end : ℕ) (names then_names : BTreeSet (String Global)) (before after : List Property)
    (h : PropertiesHead) → GrowsBy gives s t old mid → GrowsBy gives t u mid new → MetadataSoFar at old names before → TakesHead at mid h → 0 < h.count
    → 2 ^ 63 ≤ (metadata_left before).nodes → TakesProperties (metadata_left before) then_names h.count h.start end new before after
    → (h.is_sized ≡ true → h.size ≡ end - h.start) → MetadataSoFar end new then_names after
block_pushed gives s t u old mid new at end names then_names before after h first second m taken some many p sizes =
    let a = head_as (metadata_left before).nodes at mid h many some taken in
    let b : BlockRun (metadata_left before) = record {
      head = a.head;
      properties = p.properties;
      body = p.front;
      is_head = a.is_head;
      counted = p.counted ∙ sym a.count;
      run = p.run;
      has_size = a.has_size (length p.front) (λ is. sizes is ∙ (let offset = p.stretch.offset in omega (arith, offset)));
    } in
    let head_stretch = stretch_grown gives t u mid new 4 h.start (m.front ++ head_bytes a.head) second
    (stretch_join 4 at h.start m.front (head_bytes a.head) mid (stretch_grown gives s t old mid 4 at m.front first m.stretch) a.stretch) in
    let all = stretch_join 4 h.start end (m.front ++ head_bytes a.head) p.front new head_stretch p.stretch in
    record {
      front = m.front ++ (head_bytes a.head ++ p.front);
      run = subst (λ (ps : List Property). MetadataRun ps (m.front ++ (head_bytes a.head ++ p.front))) (sym p.pushed) (metadata_push before m.front m.run b);
      stretch = subst (λ (front : List ℕ). Stretch 4 front end new) (append_assoc m.front (head_bytes a.head) p.front) all;
      named = subst (AreNames then_names) (sym (names-append before p.properties) ∙ ap names_of (sym p.pushed)) p.named;
    }

-- the size of the next block is another
pub size_stops : {I : Type 0} (gives : I → List ℕ → I → Type 0) (s t u : I) (old mid new : List ℕ) (limit at end : ℕ) (ended : Type 0) (names then_names : BTreeSet (String Global))
    (before after : List Property) (h : PropertiesHead) (f : FileFault) → GrowsBy gives s t old mid → GrowsBy gives t u mid new → MetadataSoFar at old names before → TakesHead at mid h
    → 0 < h.count → h.is_sized ≡ true → 2 ^ 63 ≤ (metadata_left before).nodes → TakesProperties (metadata_left before) then_names h.count h.start end new before after
    → end - h.start ≢ h.size → f ≡ in_header (invalid_metadata (wrong_block_size h.offset))
    → PartStops limit 4 ended new (Blocks PropertyBreaks (all_left entry_limits)) (Blocks PropertyWants (all_left entry_limits)) f
size_stops gives s t u old mid new limit at end ended names then_names before after h f first second m (TakesHead.at_end front none stretch spelled) some is many p other told =
    absurd (omega (arith, some, none))
size_stops gives s t u old mid new limit at end ended names then_names before after h f first second m (TakesHead.counted front positive small plain stretch spelled) some is many p other told =
    absurd (clash (sym plain ∙ is))
  where
    clash : false ≡ true → ⊥
    clash e = cc
size_stops gives s t u old mid new limit at end ended names then_names before after h f first second m (TakesHead.sized front size positive small is_sized stretch spelled sizes short offset) some is many p other told =
    let left = metadata_left before in
    let head : Head = sized h.count h.size front size in
    let whole = block_whole left head p.properties p.front p.run p.counted (omega (arith, small, many)) in
    let body : end - h.start ≡ length p.front = (let q = p.stretch.offset in omega (arith, q)) in
    let later = stretch_grown gives t u mid new 4 h.start (m.front ++ (front ++ size)) second
    (stretch_join 4 at h.start m.front (front ++ size) mid (stretch_grown gives s t old mid 4 at m.front first m.stretch) stretch) in
    let block : Blocks PropertyBreaks left ((front ++ size) ++ (p.front ++ drop end new)) (wrong_block_size (length front)) =
    BlocksBreak.size_differs h.count h.size front size p.front (drop end new) (left_after left p.properties)
    (positive, small, omega (arith, small, many), short, spelled, sizes) whole (sym (append_assoc (front ++ size) p.front (drop end new))) (λ e. other (body ∙ sym e)) in
    let split : drop 4 new ≡ m.front ++ ((front ++ size) ++ (p.front ++ drop end new)) =
    later.split ∙ append_assoc m.front (front ++ size) (drop h.start new) ∙ ap (λ (r : List ℕ). m.front ++ ((front ++ size) ++ r)) p.stretch.split in
    let at_is = m.stretch.offset in
    PartStops.broken (behind (length m.front) (wrong_block_size (length front)))
    (subst (λ (r : List ℕ). Blocks PropertyBreaks (all_left entry_limits) r (behind (length m.front) (wrong_block_size (length front)))) (sym split)
    (m.run.breaks ((front ++ size) ++ (p.front ++ drop end new)) (wrong_block_size (length front)) block))
    (λ q e. cc) (told ∙ ap (λ (n : ℕ). in_header (invalid_metadata (wrong_block_size n))) (omega (arith, offset, at_is)))

-- many nodes are left, whatever fits the limit
pub many_left : (limit at : ℕ) (bytes : List ℕ) (names : BTreeSet (String Global)) (ps : List Property) → MetadataSoFar at bytes names ps → length bytes ≤ limit → limit < 2 ^ 62
    → 2 ^ 63 ≤ (metadata_left ps).nodes
many_left limit at bytes names ps m fits small = grind arith

-- a head has a byte at least
pub head_further : (at : ℕ) (bytes : List ℕ) (h : PropertiesHead) → TakesHead at bytes h → (at < h.start) × (h.start ≤ length bytes)
head_further at bytes h (TakesHead.at_end front none stretch spelled) =
    let some = groups-some 10 _ front spelled in
    let offset = stretch.offset in
    (omega (arith, some, offset), stretch.inside)
head_further at bytes h (TakesHead.counted front positive small plain stretch spelled) =
    let some = groups-some 10 _ front spelled in
    let offset = stretch.offset in
    (omega (arith, some, offset), stretch.inside)
head_further at bytes h (TakesHead.sized front size positive small is_sized stretch spelled sizes short offset) =
    let some = groups-some 10 _ front spelled in
    let to = stretch.offset in
    (omega (arith, some, to, length-append front size), stretch.inside)

-- few properties fit the limit
pub few_so_far : (limit at : ℕ) (bytes : List ℕ) (names : BTreeSet (String Global)) (ps : List Property) → MetadataSoFar at bytes names ps → length bytes ≤ limit → limit < 2 ^ 62
    → length ps < 2 ^ 63
few_so_far limit at bytes names ps m fits small = grind arith

pub head_small : (at : ℕ) (bytes : List ℕ) (h : PropertiesHead) → TakesHead at bytes h → h.count < 2 ^ 63
head_small at bytes h taken = grind arith

-- nothing after the magic yet
pub metadata_start : (bytes : List ℕ) (names : BTreeSet (String Global)) (ps : List Property) → 4 ≤ length bytes → ((word : List ℕ) → contains_text names word ≡ false) → ps ≡ []
    → MetadataSoFar 4 bytes names ps
metadata_start bytes names ps inside none is = grind (arith, stretch_none)
