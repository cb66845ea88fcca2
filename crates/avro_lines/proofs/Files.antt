-- The header, what the blocks after it show, and what is held at the end.
use Rattle.std.proofs.Common.{◌≡◌, ℕ, ◌+◌, List, [], ◌∷◌, ◌++◌, length, Option, Some, inl, inr, refl, sym, ap, subst, ◌∙◌, arith, append_assoc, append-nil}
use Rattle.std.proofs.lemmas.Option.{none-some}
use Rattle.avro_schema.specs.Node.{Node}
use Rattle.avro_schema.specs.Value.{Values}
use Rattle.avro_device.specs.PutFront.{PutsFrontOf}
use Rattle.avro_file.specs.BlockFails.{FileLimitValues}
use Rattle.avro_file.specs.File.{AreBlocks, HeaderValue, IsFile}
use Rattle.avro_file.specs.FileFault.{FileFault}
use Rattle.avro_file.specs.FileSeen.{file_fault}
use Rattle.avro_file.specs.Filled.{TakesSome}
use Rattle.avro_file.specs.HeaderTaken.{TakesHeader, TakesHeaderFault}
use Rattle.avro_file.specs.declared.error.CopyError.{CopyError}
use Rattle.avro_container.specs.Moved.{Moved}
use Rattle.avro_container.specs.Steps.{AreBlocksWithin, BeginsWith}
use Rattle.avro_lines.specs.Shown.{IsShown, ShowsFault, ShowsFront, ShowsWhole}
use Rattle.avro_lines.specs.inside.BlocksShown.{BlocksShow, Goes, IsAll, IsEnd, IsFaultNext, Shows, Stops}
use Rattle.avro_lines.specs.inside.OutputTold.{Fails, PutFails, PutsBefore, PutsFlushed}
use Rattle.avro_lines.proofs.Nexts.{next-none}
use Rattle.avro_lines.proofs.Onward.{Chains}
use Rattle.avro_lines.proofs.Parts.{fails-after}

-- blocks within limits are blocks, and with their header a file
are-blocks : (limits : FileLimitValues) (h : HeaderValue) (blocks : List Values) (bytes : List ℕ) → AreBlocksWithin limits h blocks bytes → AreBlocks h blocks bytes
are-blocks limits h [] bytes e = e
are-blocks limits h (vs ∷ blocks) bytes (first, rest, is, others, e) = (first, rest, is.is_block, are-blocks limits h blocks rest others, e)

is-file : (limits : FileLimitValues) (h : HeaderValue) (blocks : List Values) (bytes : List ℕ) → BeginsWith limits h blocks bytes [] → IsFile h blocks bytes
is-file limits h blocks bytes b = record {
  header = b.header_bytes;
  rest = b.block_bytes;
  is_header = b.is_header;
  are_blocks = are-blocks limits h blocks b.block_bytes b.are_blocks;
  split = b.split ∙ append-nil (b.header_bytes ++ b.block_bytes);
}

module _ {I O : Type 0} (gives : I → List ℕ → I → Type 0) (keeps : O → List ℕ → O → Type 0) (limits : FileLimitValues) (reader : Option (List Node)) (h : HeaderValue) (limit : Option ℕ) where
  -- ---- what is held goes out at the end

  module _ (lost : I → ℕ) (failures : O → ℕ) (after : Chains keeps) (i i' : I) (o o' o'' : O) (text : List ℕ) where
    -- a prefix of it
    cut : (put lines front rest later : List ℕ) → text ≡ front ++ rest → lines ≡ (put ++ text) ++ later → lines ≡ ((put ++ front) ++ []) ++ (rest ++ later)
    cut put lines front rest later is e =
        e ∙ append_assoc put text later ∙ ap (λ (b : List ℕ). put ++ (b ++ later)) is ∙ ap (λ (b : List ℕ). put ++ b) (append_assoc front rest later)
        ∙ sym (append_assoc put front (rest ++ later)) ∙ ap (λ (b : List ℕ). b ++ (rest ++ later)) (sym (append-nil (put ++ front)))

    goes-out : (P Q : List Values → List ℕ → List ℕ → Type 0) → Moved gives keeps i i' o o' (Shows limits reader h limit 0 [] text P) → (f : PutsFrontOf keeps o' o'' text)
        → ((blocks : List Values) (rest later : List ℕ) → P blocks rest later → Q blocks rest (f.later ++ later))
        → Moved gives keeps i i' o o'' (Shows limits reader h limit 0 [] [] Q)
    goes-out P Q had f turn =
        let d = had.does in
        record {
          taken = had.taken;
          put = had.put ++ f.front;
          is_taken = had.is_taken;
          is_put = after o o' o'' had.put f.front had.is_put f.kept;
          does = record {
            blocks = d.blocks;
            front = d.front;
            rest = d.rest;
            lines = d.lines;
            later = f.later ++ d.later;
            show = d.show;
            split = d.split;
            puts = cut had.put d.lines f.front f.later d.later f.split d.puts;
            is_so = turn d.blocks d.rest d.later d.is_so;
          };
        }

    -- all of it, after all blocks
    pub last-goes : (flushed : O → Type 0) (P : List Values → List ℕ → List ℕ → Type 0) → Goes gives lost keeps failures i i' o o' (Shows limits reader h limit 0 [] text P)
        → PutsFlushed keeps flushed failures o' text o'' → Goes gives lost keeps failures i i' o o'' (Shows limits reader h limit 0 [] [] P)
    last-goes flushed P had out = record {
      moved = goes-out P P had.moved (record { front = text; later = []; kept = out.put; split = sym (append-nil text) }) (λ blocks rest later so. so);
      input_works = had.input_works;
      output_works = out.works ∙ had.output_works;
    }

    module _ (stuck : O → Type 0) (ended : Type 0) where
      -- the output fails then
      pub last-fails : (e : CopyError) (P : List Values → List ℕ → List ℕ → Type 0) → Moved gives keeps i i' o o' (Shows limits reader h limit 0 [] text P) → failures o' ≡ failures o
          → PutFails keeps failures stuck o' text o'' e
          → Stops gives lost keeps failures stuck i i' o o'' (Shows limits reader h limit 0 [] [] (IsFaultNext limits reader h 0 ended e)) e
      last-fails e P had works failed = subst (λ (e : CopyError). Stops gives lost keeps failures stuck i i' o o'' (Shows limits reader h limit 0 [] [] (IsFaultNext limits reader h 0 ended e)) e) (sym failed.error)
          (record {
            moved = goes-out P (IsFaultNext limits reader h 0 ended CopyError.OutputFailed) had failed.front (λ blocks rest later so f is. absurd (none-some f is));
            named = inr (inl refl);
            first = λ is. cc;
            input_fails = λ is. absurd cc;
            output_works = λ other. absurd (other refl);
            output_fails = λ _. fails-after failures stuck o o' o'' works failed.fails;
          })

      -- or before an error is told
      pub last-stops : ((s : O) → keeps s [] s) → (e told : CopyError) → Stops gives lost keeps failures stuck i i' o o' (Shows limits reader h limit 0 [] text (IsFaultNext limits reader h 0 ended e)) e
          → PutsBefore keeps failures stuck o' text o'' e told
          → Stops gives lost keeps failures stuck i i' o o'' (Shows limits reader h limit 0 [] [] (IsFaultNext limits reader h 0 ended told)) told
      last-stops none e told had (PutsBefore.failed_before failed same still) =
          subst (λ (e : CopyError). Stops gives lost keeps failures stuck i i' o o'' (Shows limits reader h limit 0 [] [] (IsFaultNext limits reader h 0 ended e)) e) (sym same)
          (record {
            moved = goes-out (IsFaultNext limits reader h 0 ended e) (IsFaultNext limits reader h 0 ended e) had.moved
                (record { front = []; later = text; kept = subst (λ (q : O). keeps o' [] q) (sym still) (none o'); split = refl })
                (λ blocks rest later so f is. absurd (none-some f (sym (ap file_fault failed) ∙ is)));
            named = had.named;
            first = had.first;
            input_fails = had.input_fails;
            output_works = λ other. absurd (other failed);
            output_fails = λ _. subst (λ (q : O). Fails failures stuck o q) (sym still) (had.output_fails failed);
          })
      last-stops none e told had (PutsBefore.all_put other same put works) =
          subst (λ (e : CopyError). Stops gives lost keeps failures stuck i i' o o'' (Shows limits reader h limit 0 [] [] (IsFaultNext limits reader h 0 ended e)) e) (sym same)
          (record {
            moved = goes-out (IsFaultNext limits reader h 0 ended e) (IsFaultNext limits reader h 0 ended e) had.moved
                (record { front = text; later = []; kept = put; split = sym (append-nil text) }) (λ blocks rest later so. so);
            named = had.named;
            first = had.first;
            input_fails = had.input_fails;
            output_works = λ _. works ∙ had.output_works other;
            output_fails = λ failed. absurd (other failed);
          })
      last-stops none e told had (PutsBefore.fails_now other failed) = last-fails told (IsFaultNext limits reader h 0 ended e) had.moved (had.output_works other) failed

  -- memory ran out before anything was taken and put
  pub memory-stops : (lost : I → ℕ) (failures : O → ℕ) (stuck : O → Type 0) → ((s : I) → gives s [] s) → ((s : O) → keeps s [] s) → (ended : Type 0) (i : I) (o : O)
      → Stops gives lost keeps failures stuck i i o o (Shows limits reader h limit 0 [] [] (IsFaultNext limits reader h 0 ended CopyError.OutOfMemory)) CopyError.OutOfMemory
  memory-stops lost failures stuck none still ended i o = record {
    moved = next-none gives keeps failures limits reader h limit i i o o 0 [] [] [] (IsFaultNext limits reader h 0 ended CopyError.OutOfMemory) (omega arith) (none i) ([], still o, refl)
        (λ f is. absurd (none-some f is));
    named = inr (inr (inl refl));
    first = λ is. cc;
    input_fails = λ is. absurd cc;
    output_works = λ _. refl;
    output_fails = λ is. absurd cc;
  }

  -- ---- the header before them

  begins : (blocks : List Values) (front bytes rest : List ℕ) (lines : List ℕ) (i i' : I) → (head : TakesHeader gives i i' limits.header h)
      → BlocksShow limits reader h limit 0 blocks front lines → bytes ≡ front ++ rest → BeginsWith limits h blocks (head.bytes ++ bytes) rest
  begins blocks front bytes rest lines i i' head show e =
      let scratch = show.few in
      record {
        header_bytes = head.bytes;
        block_bytes = front;
        is_header = head.stands;
        within = head.within;
        are_blocks = show.are_blocks;
        few = omega (arith, scratch);
        split = ap (λ (b : List ℕ). head.bytes ++ b) e ∙ sym (append_assoc head.bytes front rest);
      }

  -- all lines were put
  put-all : (put lines later : List ℕ) → later ≡ [] → lines ≡ (put ++ []) ++ later → lines ≡ put
  put-all put lines later none e = e ∙ ap (λ (b : List ℕ). (put ++ []) ++ b) none ∙ append-nil (put ++ []) ∙ append-nil put

  module _ (chain : Chains gives) (i i' i'' : I) (o o' : O) (head : TakesHeader gives i i' limits.header h) where
    pub file-whole : (ended : Type 0) → Moved gives keeps i' i'' o o' (Shows limits reader h limit 0 [] [] (IsAll (IsEnd limit ended)))
        → Moved gives keeps i i'' o o' (ShowsWhole reader limit limits ended)
    file-whole ended had =
        let all = had.does in
        let (none, whole, end) = all.is_so in
        let within = begins all.blocks all.front had.taken [] all.lines i i' head all.show (all.split ∙ ap (λ (b : List ℕ). all.front ++ b) none) in
        record {
          taken = head.bytes ++ had.taken;
          put = had.put;
          is_taken = chain i i' i'' head.bytes had.taken head.taken had.is_taken;
          is_put = had.is_put;
          does = record {
            header = h;
            blocks = all.blocks;
            is_file = is-file limits h all.blocks (head.bytes ++ had.taken) within;
            within = within;
            shown = subst (λ (b : List ℕ). IsShown reader limit h all.blocks b) (put-all had.put all.lines all.later whole all.puts) all.show.shown;
            is_end = end;
          };
        }

    pub file-front : (P : List Values → List ℕ → List ℕ → Type 0) → Moved gives keeps i' i'' o o' (Shows limits reader h limit 0 [] [] P)
        → Moved gives keeps i i'' o o' (ShowsFront reader limit limits)
    file-front P had =
        let some = had.does in
        record {
          taken = head.bytes ++ had.taken;
          put = had.put;
          is_taken = chain i i' i'' head.bytes had.taken head.taken had.is_taken;
          is_put = had.is_put;
          does = ShowsFront.of_blocks h some.blocks some.rest some.lines some.later
              (begins some.blocks some.front had.taken some.rest _ i i' head some.show some.split) some.show.shown
              (some.puts ∙ ap (λ (b : List ℕ). b ++ some.later) (append-nil had.put));
        }

    pub file-fault : (ended : Type 0) (e : CopyError) (f : FileFault) → file_fault e ≡ Some f → Moved gives keeps i' i'' o o' (Shows limits reader h limit 0 [] [] (IsFaultNext limits reader h 0 ended e))
        → Moved gives keeps i i'' o o' (λ taken put. ShowsFault reader limit limits ended taken put f)
    file-fault ended e f is had =
        let it = had.does in
        let (whole, fault) = it.is_so f is in
        let at : length it.blocks ≡ 0 + length it.blocks = omega arith in
        record {
          taken = head.bytes ++ had.taken;
          put = had.put;
          is_taken = chain i i' i'' head.bytes had.taken head.taken had.is_taken;
          is_put = had.is_put;
          does = subst (λ (g : FileFault). ShowsFault reader limit limits ended (head.bytes ++ had.taken) had.put g) (sym fault.1)
              (ShowsFault.of_block h it.blocks it.rest (begins it.blocks it.front had.taken it.rest _ i i' head it.show it.split) at
              (subst (λ (b : List ℕ). IsShown reader limit h it.blocks b) (put-all had.put it.lines it.later whole it.puts) it.show.shown) fault.2);
        }

-- ---- no header

module _ {I O : Type 0} (gives : I → List ℕ → I → Type 0) (keeps : O → List ℕ → O → Type 0) (none : (s : O) → keeps s [] s) (limits : FileLimitValues) (reader : Option (List Node)) (limit : Option ℕ) (i i' : I) (o : O) where
  pub header-lost : TakesSome gives i i' → Moved gives keeps i i' o o (ShowsFront reader limit limits)
  header-lost (bytes, took) = record { taken = bytes; put = []; is_taken = took; is_put = none o; does = ShowsFront.nothing refl }

  pub header-refused : (ended : I → Type 0) (f : FileFault) → TakesHeaderFault gives ended i i' limits.header f
      → Moved gives keeps i i' o o (λ taken put. ShowsFault reader limit limits (ended i') taken put f)
  header-refused ended f took = record {
    taken = took.bytes;
    put = [];
    is_taken = took.taken;
    is_put = none o;
    does = subst (λ (g : FileFault). ShowsFault reader limit limits (ended i') took.bytes [] g) (sym took.stands.1) (ShowsFault.of_header refl took.stands.2);
  }
