-- The next block: it is shown, or a part of it, or refused.
use Rattle.std.proofs.Common.{◌≡◌, ◌≢◌, ℕ, zero, pos, ◌+◌, ◌<◌, ◌≤◌, List, [], ◌∷◌, ◌++◌, length, take, drop, suc, Option, Some, None, inl, inr, ⊎_elim, refl, sym, ap, subst, ◌∙◌, arith, append-nil, length-append}
use Rattle.std.specs.Prelude.{◌⊎◌, IfNone}
use Rattle.std.specs.List.{concat}
use Rattle.std.proofs.lemmas.List.{take_at, drop_at}
use Rattle.std.proofs.lemmas.Option.{none-some, same_Some}
use Rattle.avro_schema.specs.Node.{Node}
use Rattle.avro_schema.specs.Value.{Values, values_count}
use Rattle.avro_cursor.specs.Elements.{IsLong}
use Rattle.avro_display.specs.Pieces.{PutsText}
use Rattle.avro_file.specs.BlockFails.{FileLimitValues, BlockFails, DataAreWhole, DataFail, max_blocks}
use Rattle.avro_file.specs.BlockStands.{BlockStands}
use Rattle.avro_file.specs.BlockTaken.{TakesBlock, TakesFault}
use Rattle.avro_file.specs.DataRead.{IsDataFault, read_nodes, reading}
use Rattle.avro_file.specs.File.{HeaderValue}
use Rattle.avro_file.specs.FileFault.{FileFault}
use Rattle.avro_file.specs.FileSeen.{file_fault}
use Rattle.avro_file.specs.Filled.{TakesSome}
use Rattle.avro_file.specs.declared.error.CopyError.{CopyError}
use Rattle.avro_file.specs.declared.header.Header.{Header}
use Rattle.avro_container.specs.Moved.{Moved}
use Rattle.avro_container.specs.Steps.{IsBlockWithin}
use Rattle.avro_lines.specs.Lines.{lines_of, up_to}
use Rattle.avro_lines.specs.inside.BlocksShown.{BlocksShow, IsAll, IsBlockFault, IsFaultNext, IsNext, Shows, Stops}
use Rattle.avro_lines.specs.inside.DataShown.{FirstStops, PutsPart, ShowsFirst, first_of}
use Rattle.avro_lines.specs.inside.OutputTold.{Fails}
use Rattle.avro_lines.proofs.Firsts.{lines-count, made-count}
use Rattle.avro_lines.proofs.Parts.{not-memory, puts-still}

-- the block with its data
block-within : (limits : FileLimitValues) (reader : Option (List Node)) (h : HeaderValue) (count : ℕ) (body bytes : List ℕ) (us : Values)
    → BlockStands limits h.sync count body bytes → (whole : DataAreWhole (reading limits h.nodes h.sync reader) count body us) → IsBlockWithin limits h whole.values bytes
block-within limits reader h count body bytes us stands whole =
    let begins = stands.begins in
    record {
      is_block = record {
        items = whole.items;
        fitting = whole.fitting;
        spelled = whole.spelled;
        count = begins.count_bytes;
        size = begins.size_bytes;
        counted = subst (λ (n : ℕ). IsLong (pos n) begins.count_bytes) (sym whole.counted) (begins.counted.in_range, begins.counted.spelled);
        sized = subst (λ (b : List ℕ). IsLong (pos (length b)) begins.size_bytes) whole.bytes_are (begins.sized.in_range, begins.sized.spelled);
        split = begins.counted.split ∙ ap (λ (rest : List ℕ). begins.count_bytes ++ rest) begins.sized.split
            ∙ ap (λ (b : List ℕ). begins.count_bytes ++ (begins.size_bytes ++ (b ++ h.sync))) whole.bytes_are;
      };
      few = subst (λ (n : ℕ). n ≤ limits.per_block) (sym whole.counted) stands.few;
      short = subst (λ (b : List ℕ). length b ≤ limits.block) whole.bytes_are stands.short;
      data_within = whole.within;
    }

-- it shows its first lines
block-shows : (limits : FileLimitValues) (reader : Option (List Node)) (h : HeaderValue) (left : Option ℕ) (number count wanted : ℕ) (nodes : List Node) (body bytes : List ℕ) (us : Values)
    → number < max_blocks → nodes ≡ read_nodes h.nodes reader → ((lines : List (List ℕ)) → length lines ≡ count → up_to left lines ≡ take wanted lines)
    → BlockStands limits h.sync count body bytes → (whole : DataAreWhole (reading limits h.nodes h.sync reader) count body us)
    → BlocksShow limits reader h left number (whole.values ∷ []) bytes (first_of nodes wanted us)
block-shows limits reader h left number count wanted nodes body bytes us scratch same first stands whole =
    let r = reading limits h.nodes h.sync reader in
    let lines = lines_of (read_nodes h.nodes reader) us in
    let all : length lines ≡ count = lines-count (read_nodes h.nodes reader) us ∙ made-count r.resolve whole.values us whole.resolved ∙ whole.counted in
    record {
      are_blocks = (bytes, [], block-within limits reader h count body bytes us stands whole, refl, sym (append-nil bytes));
      few = omega (arith, scratch);
      shown = record {
        made = us ∷ [];
        resolved = (us, [], whole.resolved, refl, refl);
        lines = ap (λ (ns : List Node). first_of ns wanted us) same ∙ ap concat (sym (first lines all)) ∙ ap (λ (q : List (List ℕ)). concat (up_to left q)) (sym (append-nil lines));
      };
    }

-- no block shows nothing
pub none-show : (limits : FileLimitValues) (reader : Option (List Node)) (h : HeaderValue) (left : Option ℕ) (number : ℕ) → number ≤ max_blocks
    → BlocksShow limits reader h left number [] [] []
none-show limits reader h left number scratch = record {
  are_blocks = refl;
  few = omega (arith, scratch);
  shown = record { made = []; resolved = refl; lines = sym (no-lines left) };
}
  where
    no-lines : (l : Option ℕ) → concat (up_to l []) ≡ []
    no-lines None = refl
    no-lines (Some zero) = refl
    no-lines (Some (suc n)) = refl

-- an error of the output or of memory reports no fault
pub told-none : (e : CopyError) → (e ≡ CopyError.OutputFailed) ⊎ (e ≡ CopyError.OutOfMemory) → file_fault e ≡ None
told-none e = ⊎_elim (ap file_fault) (ap file_fault)

named-of : (e : CopyError) (m : Option FileFault) → (m ≡ None → (e ≡ CopyError.OutputFailed) ⊎ (e ≡ CopyError.OutOfMemory))
    → IfNone m ((e ≡ CopyError.InputFailed) ⊎ (e ≡ CopyError.OutputFailed) ⊎ (e ≡ CopyError.OutOfMemory) ⊎ (e ≡ CopyError.FailedBefore))
named-of e None told = ⊎_elim (λ failed. inr (inl failed)) (λ memory. inr (inr (inl memory))) (told refl)
named-of e (Some f) told = tt

not-before : (e : CopyError) → (e ≡ CopyError.OutputFailed) ⊎ (e ≡ CopyError.OutOfMemory) → e ≢ CopyError.FailedBefore
not-before e (inl failed) is = cc
not-before e (inr memory) is = cc

not-input : (e : CopyError) → (e ≡ CopyError.OutputFailed) ⊎ (e ≡ CopyError.OutOfMemory) → e ≢ CopyError.InputFailed
not-input e (inl failed) is = cc
not-input e (inr memory) is = cc

-- what is said by the limits and the header that blocks are taken by
pub by-header : (P : FileLimitValues → List ℕ → Type 0) (limits limits' : FileLimitValues) (header header' : Header) → header ≡ header' → limits ≡ limits'
    → P limits header.sync → P limits' header'.sync
by-header P limits limits' header header' one other said =
    subst (λ (h : Header). P limits' h.sync) one (subst (λ (l : FileLimitValues). P l header.sync) other said)

module _ {I O : Type 0} (gives : I → List ℕ → I → Type 0) (keeps : O → List ℕ → O → Type 0) (failures : O → ℕ) (limits : FileLimitValues) (reader : Option (List Node)) (h : HeaderValue) (left : Option ℕ) where
  -- nothing was put of what was taken, and nothing more is held
  pub next-none : (i i' : I) (o o' : O) (number : ℕ) (text now bytes : List ℕ) (P : List Values → List ℕ → List ℕ → Type 0) → number ≤ max_blocks → gives i bytes i'
      → PutsText keeps o text [] o' now → P [] bytes [] → Moved gives keeps i i' o o' (Shows limits reader h left number text now P)
  next-none i i' o o' number text now bytes P few took puts is_so = record {
    taken = bytes;
    put = puts.0;
    is_taken = took;
    is_put = puts.1;
    does = record {
      blocks = [];
      front = [];
      rest = bytes;
      lines = [];
      later = [];
      show = none-show limits reader h left number few;
      split = refl;
      puts = puts.2 ∙ sym (append-nil (puts.0 ++ now));
      is_so = is_so;
    };
  }

  -- an error that reports no fault
  no-fault : (number : ℕ) (ended : Type 0) (e : CopyError) (blocks : List Values) (rest later : List ℕ) → file_fault e ≡ None → IsFaultNext limits reader h number ended e blocks rest later
  no-fault number ended e blocks rest later none = λ f is. absurd (none-some f (sym none ∙ is))

  -- a fault of the next block, none of which is shown
  first-fault : (number : ℕ) (ended : Type 0) (e : CopyError) (bytes : List ℕ) → ((f : FileFault) → file_fault e ≡ Some f → IsBlockFault limits reader h number ended f bytes)
      → IsFaultNext limits reader h number ended e [] bytes []
  first-fault number ended e bytes fault = λ f is.
      let at : number ≡ number + 0 = omega arith in
      (refl, subst (λ (n : ℕ). IsBlockFault limits reader h n ended f bytes) at (fault f is))

  -- none was taken, or what stands before its data is refused
  pub next-refused : ((s : O) → keeps s [] s) → (ended : I → Type 0) (i i' : I) (o : O) (number : ℕ) (e : CopyError) (text : List ℕ) → number ≤ max_blocks → TakesSome gives i i'
      → ((f : FileFault) → file_fault e ≡ Some f → TakesFault gives ended i i' limits h.sync number f)
      → Moved gives keeps i i' o o (Shows limits reader h left number text text (IsFaultNext limits reader h number (ended i') e))
  next-refused none ended i i' o number e text few (lost, taken) refused = decided (file_fault e) refl
    where
      still : PutsText keeps o text [] o text
      still = (puts-still keeps failures none o text text refl).puts

      decided : (m : Option FileFault) → file_fault e ≡ m → Moved gives keeps i i' o o (Shows limits reader h left number text text (IsFaultNext limits reader h number (ended i') e))
      decided None is = next-none i i' o o number text text lost (IsFaultNext limits reader h number (ended i') e) few taken still (no-fault number (ended i') e [] lost [] is)
      decided (Some g) is =
          let took = refused g is in
          next-none i i' o o number text text took.bytes (IsFaultNext limits reader h number (ended i') e) few took.taken still
          (first-fault number (ended i') e took.bytes (λ f same.
          subst (λ (f : FileFault). IsBlockFault limits reader h number (ended i') f took.bytes) (same_Some g f (sym is ∙ same))
          (took.stands (reading limits h.nodes h.sync reader) refl refl)))

  module _ (i i' : I) (o o' : O) (number count wanted : ℕ) (nodes : List Node) (body text now : List ℕ) (room : number < max_blocks) (same : nodes ≡ read_nodes h.nodes reader)
      (wants : (lines : List (List ℕ)) → length lines ≡ count → up_to left lines ≡ take wanted lines) (took : TakesBlock gives i i' limits h.sync count body) where
    -- it is whole, and of its first lines a part was put or is held
    next-shows : (made : Values) → DataAreWhole (reading limits h.nodes h.sync reader) count body made → (P : List Values → List ℕ → List ℕ → Type 0)
        → (part : PutsPart keeps o text (first_of nodes wanted made) o' now) → ((values : Values) → values_count values ≡ count → P (values ∷ []) [] part.1)
        → Moved gives keeps i i' o o' (Shows limits reader h left number text now P)
    next-shows made whole P part so = record {
      taken = took.bytes;
      put = part.0;
      is_taken = took.taken;
      is_put = part.2;
      does = record {
        blocks = whole.values ∷ [];
        front = took.bytes;
        rest = [];
        lines = first_of nodes wanted made;
        later = part.1;
        show = block-shows limits reader h left number count wanted nodes body took.bytes made room same wants took.stands whole;
        split = sym (append-nil took.bytes);
        puts = part.3;
        is_so = so whole.values whole.counted;
      };
    }

    -- it was shown
    pub next-shown : (ended : Type 0) → ShowsFirst keeps failures (reading limits h.nodes h.sync reader) nodes count wanted body o text o' now
        → Moved gives keeps i i' o o' (Shows limits reader h left number text now (IsAll (IsNext (Some count) ended)))
    next-shown ended shown =
        let (put, kept, all) = shown.lines.puts in
        next-shows shown.made shown.whole (IsAll (IsNext (Some count) ended)) (put, [], kept, all ∙ sym (append-nil (put ++ now))) (λ values counted. (refl, refl, (values, refl, counted)))

    -- its data are refused
    data-fault : (ended : Type 0) (f : FileFault) → length h.sync ≡ 16 → IsDataFault (reading limits h.nodes h.sync reader) number count body f → IsBlockFault limits reader h number ended f took.bytes
    data-fault ended f marker fault =
        let r = reading limits h.nodes h.sync reader in
        let rest = body ++ h.sync in
        let front : take (length body) rest ≡ body = take_at body h.sync (length body) refl in
        let back : drop (length body) rest ≡ h.sync = drop_at body h.sync (length body) refl in
        let marked : take 16 (drop (length body) rest) ≡ h.sync = ap (take 16) (back ∙ sym (append-nil h.sync)) ∙ take_at h.sync [] 16 marker in
        let long : length rest ≡ length body + length h.sync = length-append body h.sync in (
          fault.0,
          fault.1,
          BlockFails.data_fail count (length body) rest room took.stands.begins took.stands.few took.stands.short
              (omega (arith, long, marker)) marked (subst (λ (b : List ℕ). DataFail r count b fault.0) (sym front) fault.2),
        )

    -- it was not shown
    module _ (lost : I → ℕ) (stuck : O → Type 0) (ended : Type 0) (e : CopyError) (marker : length h.sync ≡ 16) (works : lost i' ≡ lost i) where
      stops-moved : FirstStops keeps failures stuck (reading limits h.nodes h.sync reader) nodes number count wanted body o text o' now e
          → Moved gives keeps i i' o o' (Shows limits reader h left number text now (IsFaultNext limits reader h number ended e))
      stops-moved (FirstStops.not_walked stops still) =
          next-none i i' o o' number text now took.bytes (IsFaultNext limits reader h number ended e) (omega (arith, room)) took.taken still.puts
          (first-fault number ended e took.bytes (λ f is. data-fault ended f marker (stops.refused f is)))
      stops-moved (FirstStops.cut made whole some) =
          next-shows made whole (IsFaultNext limits reader h number ended e) some.part (λ values counted. no-fault number ended e (values ∷ []) [] some.part.1 (told-none e some.told.error))

      stops-error : FirstStops keeps failures stuck (reading limits h.nodes h.sync reader) nodes number count wanted body o text o' now e
          → file_fault e ≡ None → (e ≡ CopyError.OutputFailed) ⊎ (e ≡ CopyError.OutOfMemory)
      stops-error (FirstStops.not_walked stops still) none = inr (stops.memory none)
      stops-error (FirstStops.cut made whole some) none = some.told.error

      stops-told : FirstStops keeps failures stuck (reading limits h.nodes h.sync reader) nodes number count wanted body o text o' now e
          → (e ≢ CopyError.OutputFailed → failures o' ≡ failures o) × (e ≡ CopyError.OutputFailed → Fails failures stuck o o')
      stops-told (FirstStops.not_walked stops still) = (λ _. still.works, λ is. absurd (not-memory (sym (stops.memory (ap file_fault is)) ∙ is)))
      stops-told (FirstStops.cut made whole some) = (some.told.works, some.told.fails)

      pub next-stops : FirstStops keeps failures stuck (reading limits h.nodes h.sync reader) nodes number count wanted body o text o' now e
          → Stops gives lost keeps failures stuck i i' o o' (Shows limits reader h left number text now (IsFaultNext limits reader h number ended e)) e
      next-stops stops = record {
        moved = stops-moved stops;
        named = named-of e (file_fault e) (stops-error stops);
        first = λ is. not-before e (stops-error stops (ap file_fault is)) is;
        input_fails = λ is. absurd (not-input e (stops-error stops (ap file_fault is)) is);
        output_works = (stops-told stops).0;
        output_fails = (stops-told stops).1;
      }
