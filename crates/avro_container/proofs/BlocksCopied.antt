-- A block that is copied, or refused.
use Rattle.std.proofs.Common.{◌≡◌, ℕ, ◌+◌, ◌-◌, ◌<◌, ◌≤◌, List, [], ◌++◌, length, take, drop, Option, Some, None, Err, refl, sym, ap, subst, ◌∙◌, arith, length-append}
use Rattle.std.proofs.lemmas.List.{take-append-drop}
use Rattle.std.proofs.lemmas.Option.{none-some}
use Rattle.avro_schema.specs.Value.{values_count}
use Rattle.avro_file.specs.declared.error.CopyError.{CopyError}
use Rattle.avro_container.specs.inside.BlockCopied.{CopiesBlock, RefusesWithin}
use Rattle.avro_file.specs.BlockFails.{FileLimitValues, BlockFails, max_blocks}
use Rattle.avro_file.specs.Copied.{Job, IsCopiedBlock, block_bytes, or_else}
use Rattle.avro_container.specs.inside.DataPacked.{IsCopyFault, PacksBlock}
use Rattle.avro_file.specs.File.{HeaderValue}
use Rattle.avro_file.specs.FileFault.{FileFault}
use Rattle.avro_file.specs.FileSeen.{file_fault}
use Rattle.avro_file.specs.Filled.{GrowsBy, TakesAtMost, UnlessFailed}
use Rattle.avro_container.specs.Moved.{Moved}
use Rattle.avro_file.specs.Parts.{block_part}
use Rattle.avro_device.specs.PutFront.{PutsFrontOf}
use Rattle.avro_container.specs.Steps.{HasFault, PutsFront, Stored, reading_of}
use Rattle.avro_file.proofs.public.Small.{no_bytes, not_failed}
use Rattle.avro_container.proofs.ResolvedData.{resolved-count}

-- what is put of a block is its copy
pub block_copied : (job : Job) (limits : FileLimitValues) (h : HeaderValue) (count : ℕ) (bytes packed sync : List ℕ) → sync ≡ or_else job.sync h.sync
    → (p : PacksBlock job limits h count bytes packed) → IsCopiedBlock job h p.values (block_part sync count packed)
block_copied job limits h count bytes packed sync marked p =
    let counted : count ≡ values_count p.made = sym (resolved-count (job.resolve h.nodes) p.values p.made p.resolved ∙ p.counted) in (
      p.made,
      p.resolved,
      ap (λ n. block_part sync n packed) counted ∙ ap (λ b. block_part sync (values_count p.made) b) p.packed_are
          ∙ ap (λ m. block_bytes m p.made) marked,
    )

-- a block was taken and put
pub copies-block : {I O : Type 0} (gives : I → List ℕ → I → Type 0) (keeps : O → List ℕ → O → Type 0) (i i' : I) (o o' : O) (job : Job) (limits : FileLimitValues)
    (h : HeaderValue) (number count n : ℕ) (old mid new packed sync : List ℕ) → sync ≡ or_else job.sync h.sync → number < max_blocks
    → GrowsBy gives i i' old mid → length mid ≤ limits.block + 36 → PacksBlock job limits h count (take n mid) packed → keeps o (block_part sync count packed) o'
    → new ≡ drop n mid
    → Moved gives keeps i i' o o' (CopiesBlock job limits h number count old new)
unfolding block_copied
copies-block gives keeps i i' o o' job limits h number count n old mid new packed sync marked few grown limited p kept passed = record {
  taken = grown.bytes;
  put = block_part sync count packed;
  is_taken = grown.taken;
  is_put = kept;
  does = record {
    values = p.values;
    bytes = take n mid;
    is_block = p.is_block;
    counted = p.counted;
    few = few;
    split = sym grown.grown ∙ sym (take-append-drop n mid) ∙ ap (λ rest. take n mid ++ rest) (sym passed);
    copied = block_copied job limits h count (take n mid) packed sync marked p;
    small = p.small;
    held = omega (arith, ap length grown.grown, limited);
  };
}

copy-fault : (job : Job) (limits : FileLimitValues) (h : HeaderValue) (number : ℕ) (ended : Type 0) (before : Stored) (bytes new : List ℕ) (f : FileFault)
    → before.header ≡ Some h → before.blocks ≡ number → bytes ≡ new → IsCopyFault job limits h number ended new f → HasFault job limits ended before bytes f
copy-fault job limits h number ended before bytes new f is_some is_number all (g, e, fails) =
    subst (HasFault job limits ended before bytes) (sym e)
    (HasFault.of_block h is_some (sym is_number)
    (subst (λ n. BlockFails (reading_of job limits h) n ended bytes g) (sym is_number)
    (subst (λ b. BlockFails (reading_of job limits h) number ended b g) (sym all) fails)))

-- a block was not taken, or its data were refused
pub refuses-block : {I O T : Type 0} (gives : I → List ℕ → I → Type 0) (keeps : O → List ℕ → O → Type 0) → ((s : O) → keeps s [] s) → (i i' : I) (o : O) (job : Job)
    (limits : FileLimitValues) (h : HeaderValue) (number : ℕ) (ended : Type 0) (old new : List ℕ) (e : CopyError) (before : Stored) → before.header ≡ Some h
    → before.blocks ≡ number → before.ahead ≡ old → length old ≤ limits.block + 36 → length new ≤ limits.block + 36
    → TakesAtMost gives i i' (limits.block + 36 - length old) → UnlessFailed {T = T} (Err e) (GrowsBy gives i i' old new)
    → ((f : FileFault) → file_fault e ≡ Some f → IsCopyFault job limits h number ended new f)
    → Moved gives keeps i i' o o (RefusesWithin job limits ended before (file_fault e))
refuses-block {T = T} gives keeps none i i' o job limits h number ended old new e before is_some is_number is_ahead near limited lost grown fails = go (file_fault e) refl
  where
    go : (told : Option FileFault) → file_fault e ≡ told → Moved gives keeps i i' o o (RefusesWithin job limits ended before (file_fault e))
    go None is =
        let sum : length (before.ahead ++ lost.bytes) ≡ length old + length lost.bytes =
        length-append before.ahead lost.bytes ∙ ap (λ b. length b + length lost.bytes) is_ahead in
        record {
          taken = lost.bytes;
          put = [];
          is_taken = lost.taken;
          is_put = none o;
          does = record {
            refusal = record { puts = PutsFront.nothing refl; there = λ f told. absurd (none-some f (sym is ∙ told)) };
            held = omega (arith, sum, near, lost.few);
          };
        }
    go (Some g) is =
        let more = grown (not_failed T e g is) in
        let all : before.ahead ++ more.bytes ≡ new = ap (λ b. b ++ more.bytes) is_ahead ∙ sym more.grown in
        record {
          taken = more.bytes;
          put = [];
          is_taken = more.taken;
          is_put = none o;
          does = record {
            refusal = record {
              puts = PutsFront.nothing refl;
              there = λ f told. (copy-fault job limits h number ended before (before.ahead ++ more.bytes) new f is_some is_number all (fails f told), refl);
            };
            held = omega (arith, ap length all, limited);
          };
        }

-- a prefix of the copy was put
pub refuses-putting : {I O : Type 0} (gives : I → List ℕ → I → Type 0) (keeps : O → List ℕ → O → Type 0) (i i' : I) (o o' : O) (job : Job)
    (limits : FileLimitValues) (h : HeaderValue) (number : ℕ) (ended : Type 0) (count n : ℕ) (old mid packed sync : List ℕ) (e : CopyError) (before : Stored)
    → before.header ≡ Some h → before.blocks < max_blocks → before.ahead ≡ old → length mid ≤ limits.block + 36 → sync ≡ or_else job.sync h.sync → GrowsBy gives i i' old mid
    → PacksBlock job limits h count (take n mid) packed → PutsFrontOf keeps o o' (block_part sync count packed) → file_fault e ≡ None
    → Moved gives keeps i i' o o' (RefusesWithin job limits ended before (file_fault e))
refuses-putting gives keeps i i' o o' job limits h number ended count n old mid packed sync e before is_some few is_ahead limited marked grown p front none =
    let all : before.ahead ++ grown.bytes ≡ mid = ap (λ b. b ++ grown.bytes) is_ahead ∙ sym grown.grown in
    record {
      taken = grown.bytes;
      put = front.front;
      is_taken = grown.taken;
      is_put = front.kept;
      does = record {
        refusal = record {
          puts = PutsFront.of_block h p.values (take n mid) (drop n mid) (block_part sync count packed) front.later is_some few p.is_block
              (all ∙ sym (take-append-drop n mid)) (block_copied job limits h count (take n mid) packed sync marked p) front.split;
          there = λ f told. absurd (none-some f (sym none ∙ told));
        };
        held = omega (arith, ap length all, limited);
      };
    }

-- nothing was taken where nothing is held
pub nothing-taken : {I : Type 0} (gives : I → List ℕ → I → Type 0) (i i' : I) (old new : List ℕ) → GrowsBy gives i i' old new → length new ≡ 0
    → gives i [] i' × (old ≡ []) × (new ≡ [])
nothing-taken gives i i' old new grown empty =
    let sum : length new ≡ length old + length grown.bytes = ap length grown.grown ∙ length-append old grown.bytes in
    let no_more : grown.bytes ≡ [] = no_bytes grown.bytes (omega (arith, sum, empty)) in (
      subst (λ bytes. gives i bytes i') no_more grown.taken,
      no_bytes old (omega (arith, sum, empty)),
      no_bytes new (omega (arith, empty)),
    )
