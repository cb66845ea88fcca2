-- A header that is copied, or refused.
use Rattle.std.proofs.Common.{◌≡◌, ℕ, ◌≤◌, max, List, [], ◌++◌, length, take, drop, Option, Some, None, Err, refl, sym, ap, subst, ◌∙◌, arith}
use Rattle.std.proofs.lemmas.List.{take-append-drop, length-take-le}
use Rattle.std.proofs.lemmas.Option.{none-some}
use Rattle.avro_file.specs.declared.error.CopyError.{CopyError}
use Rattle.avro_container.specs.inside.BlockCopied.{RefusesWithin}
use Rattle.avro_file.specs.BlockFails.{FileLimitValues}
use Rattle.avro_file.specs.Copied.{Job, copied_header}
use Rattle.avro_file.specs.File.{HeaderValue, IsHeader}
use Rattle.avro_file.specs.FileFault.{FileFault}
use Rattle.avro_file.specs.FileSeen.{file_fault}
use Rattle.avro_file.specs.Filled.{GrowsBy, TakesAtMost, UnlessFailed}
use Rattle.avro_device.specs.PutFront.{PutsFrontOf}
use Rattle.avro_container.specs.inside.HeaderCopied.{CopiesHeader}
use Rattle.avro_file.specs.HeaderFails.{HeaderFails}
use Rattle.avro_file.specs.HeaderTaken.{IsHeaderFault}
use Rattle.avro_container.specs.Moved.{Moved}
use Rattle.avro_container.specs.Steps.{HasFault, PutsFront, Stored}
use Rattle.avro_file.proofs.public.Small.{not_failed}

-- a header was taken and put
pub copies-header : {I O : Type 0} (gives : I → List ℕ → I → Type 0) (keeps : O → List ℕ → O → Type 0) (i i' : I) (o o' : O) (job : Job) (limits : FileLimitValues)
    (h : HeaderValue) (len : ℕ) (old mid new : List ℕ) → old ≡ [] → length mid ≤ max 4 limits.header → GrowsBy gives i i' old mid → len ≤ length mid → len ≤ limits.header
    → IsHeader h (take len mid) → keeps o (copied_header job h) o' → new ≡ drop len mid → Moved gives keeps i i' o o' (CopiesHeader job limits h new)
copies-header gives keeps i i' o o' job limits h len old mid new none limited grown inside short stands kept passed =
    let all : grown.bytes ≡ mid = sym (grown.grown ∙ ap (λ b. b ++ grown.bytes) none) in
    let long : length (take len mid) ≡ len = length-take-le len mid inside in
    record {
      taken = grown.bytes;
      put = copied_header job h;
      is_taken = grown.taken;
      is_put = kept;
      does = record {
        bytes = take len mid;
        is_header = stands;
        within = omega (arith, long, short);
        split = all ∙ sym (take-append-drop len mid) ∙ ap (λ rest. take len mid ++ rest) (sym passed);
        copied = refl;
        held = omega (arith, ap length all, limited);
      };
    }

header-fault : (job : Job) (limits : FileLimitValues) (ended : Type 0) (before : Stored) (bytes new : List ℕ) (f : FileFault)
    → before.header ≡ None → bytes ≡ new → IsHeaderFault limits.header ended new f → HasFault job limits ended before bytes f
header-fault job limits ended before bytes new f is_none all (g, e, fails) =
    subst (HasFault job limits ended before bytes) (sym e)
    (HasFault.of_header is_none (subst (λ b. HeaderFails limits.header ended b g) (sym all) fails))

-- a header was not taken
pub refuses-header : {I O T : Type 0} (gives : I → List ℕ → I → Type 0) (keeps : O → List ℕ → O → Type 0) → ((s : O) → keeps s [] s) → (i i' : I) (o : O) (job : Job)
    (limits : FileLimitValues) (ended : Type 0) (old new : List ℕ) (e : CopyError) (before : Stored) → before.header ≡ None → before.ahead ≡ [] → old ≡ []
    → length new ≤ max 4 limits.header → TakesAtMost gives i i' (max 4 limits.header) → UnlessFailed {T = T} (Err e) (GrowsBy gives i i' old new)
    → ((f : FileFault) → file_fault e ≡ Some f → IsHeaderFault limits.header ended new f)
    → Moved gives keeps i i' o o (RefusesWithin job limits ended before (file_fault e))
refuses-header {T = T} gives keeps none i i' o job limits ended old new e before is_none is_ahead is_old limited lost grown fails = go (file_fault e) refl
  where
    go : (told : Option FileFault) → file_fault e ≡ told → Moved gives keeps i i' o o (RefusesWithin job limits ended before (file_fault e))
    go None is =
        let sum : length (before.ahead ++ lost.bytes) ≡ length lost.bytes = ap (λ b. length (b ++ lost.bytes)) is_ahead in
        record {
          taken = lost.bytes;
          put = [];
          is_taken = lost.taken;
          is_put = none o;
          does = record {
            refusal = record { puts = PutsFront.nothing refl; there = λ f told. absurd (none-some f (sym is ∙ told)) };
            held = omega (arith, sum, lost.few);
          };
        }
    go (Some g) is =
        let more = grown (not_failed T e g is) in
        let all : before.ahead ++ more.bytes ≡ new = ap (λ b. b ++ more.bytes) is_ahead ∙ sym (more.grown ∙ ap (λ b. b ++ more.bytes) is_old) in
        record {
          taken = more.bytes;
          put = [];
          is_taken = more.taken;
          is_put = none o;
          does = record {
            refusal = record {
              puts = PutsFront.nothing refl;
              there = λ f told. (header-fault job limits ended before (before.ahead ++ more.bytes) new f is_none all (fails f told), refl);
            };
            held = omega (arith, ap length all, limited);
          };
        }

-- a prefix of the copy was put
pub refuses-putting : {I O : Type 0} (gives : I → List ℕ → I → Type 0) (keeps : O → List ℕ → O → Type 0) (i i' : I) (o o' : O) (job : Job)
    (limits : FileLimitValues) (h : HeaderValue) (ended : Type 0) (len : ℕ) (old mid : List ℕ) (e : CopyError) (before : Stored)
    → before.header ≡ None → before.ahead ≡ [] → old ≡ [] → length mid ≤ max 4 limits.header → GrowsBy gives i i' old mid → len ≤ length mid → len ≤ limits.header
    → IsHeader h (take len mid) → PutsFrontOf keeps o o' (copied_header job h) → file_fault e ≡ None → Moved gives keeps i i' o o' (RefusesWithin job limits ended before (file_fault e))
refuses-putting gives keeps i i' o o' job limits h ended len old mid e before is_none is_ahead is_old limited grown inside short stands front none =
    let all : before.ahead ++ grown.bytes ≡ mid = ap (λ b. b ++ grown.bytes) is_ahead ∙ sym (grown.grown ∙ ap (λ b. b ++ grown.bytes) is_old) in
    record {
      taken = grown.bytes;
      put = front.front;
      is_taken = grown.taken;
      is_put = front.kept;
      does = record {
        refusal = record {
          puts = PutsFront.of_header h (take len mid) (drop len mid) front.later is_none stands (omega (arith, length-take-le len mid inside, short)) (all ∙ sym (take-append-drop len mid)) front.split;
          there = λ f told. absurd (none-some f (sym none ∙ told));
        };
        held = omega (arith, ap length all, limited);
      };
    }
