-- What holds between the steps of a copy, and what each step makes of it.
use Rattle.std.proofs.Common.{◌≡◌, ℕ, ◌+◌, ◌-◌, ◌*◌, ◌≤◌, List, [], ◌∷◌, ◌++◌, Some, None, Ok, Err, refl, sym, ap, subst, ◌∙◌, arith, append-nil}
use Rattle.std.specs.List.{sum}
use Rattle.std.proofs.lemmas.List.Sums.{sum_by_push}
use Rattle.avro_container.specs.declared.copying.copier.Copier.{Copier}
use Rattle.avro_file.specs.declared.error.CopyError.{CopyError}
use Rattle.avro_container.specs.declared.copying.Step.{Step}
use Rattle.avro_file.specs.Copied.{Job}
use Rattle.avro_file.specs.FileFault.{FileFault}
use Rattle.avro_file.specs.FileSeen.{file_fault}
use Rattle.avro_file.specs.BlockFails.{FileLimitValues, max_blocks}
use Rattle.avro_container.specs.Moved.{Moved}
use Rattle.avro_container.specs.Steps.{Stored, Outcome, GoesOn, Steps, Done, PutInAll, CopiedWhole, FaultStands, fresh}
use Rattle.avro_container.specs.CopierSeen.{stored_of, job_in, limits_in}
use Rattle.avro_container.specs.Copying.{Moves, CopiesFile, CopiesFront, CopiesUpTo}
use Rattle.avro_container.proofs.StepLaws.{Done-header, Done-block, CopiedWhole-end, PutInAll-refused, PutInAll-whole, FaultStands-refused}

-- how many steps may still come
abbrev pub steps_left : Stored → ℕ
steps_left s = elim s.header [
  | None ↦ max_blocks + 1
  | Some h ↦ max_blocks - s.blocks
]

-- what has been done by the steps so far
pub record HasRun {I O : Type 0} (gives : I → List ℕ → I → Type 0) (keeps : O → List ℕ → O → Type 0) (input_first input : I) (output_first output : O) (job : Job) (limits : FileLimitValues) (copier : Copier) (items blocks : ℕ) : Type 0 where
  pub counts : List ℕ
  pub taken : List ℕ
  pub put : List ℕ
  pub is_taken : gives input_first taken input
  pub is_put : keeps output_first put output
  pub done : Done job limits (stored_of copier) counts taken put
  pub sum_is : sum counts ≡ items
  pub goes_on : GoesOn (stored_of copier)
  pub same_job : job_in copier ≡ job
  pub same_limits : limits_in copier ≡ limits
  pub blocks_are : (stored_of copier).blocks ≡ blocks
  pub few : blocks ≤ max_blocks
  pub items_few : items ≤ blocks * 16777216

-- nothing yet
pub HasRun-begin : {I O : Type 0} (gives : I → List ℕ → I → Type 0) (keeps : O → List ℕ → O → Type 0) → ((s : I) → gives s [] s) → ((s : O) → keeps s [] s)
    → (i : I) (o : O) (job : Job) (limits : FileLimitValues) (c : Copier) → stored_of c ≡ fresh → job_in c ≡ job → limits_in c ≡ limits
    → HasRun gives keeps i i o o job limits c 0 0
HasRun-begin gives keeps none_i none_o i o job limits c is_fresh same same_limits = record {
  counts = [];
  taken = [];
  put = [];
  is_taken = none_i i;
  is_put = none_o o;
  done = subst (λ s. Done job limits s [] [] []) (sym is_fresh) (Done.none_yet refl refl refl refl refl);
  sum_is = refl;
  goes_on = subst GoesOn (sym is_fresh) (refl, refl);
  same_job = same;
  same_limits = same_limits;
  blocks_are = ap (λ (s : Stored). s.blocks) is_fresh;
  few = omega arith;
  items_few = omega arith;
}

abbrev pub Chains : {D : Type 0} → (D → List ℕ → D → Type 0) → Type 0
Chains {D} gives = (s t u : D) (front back : List ℕ) → gives s front t → gives t back u → gives s (front ++ back) u

-- the step of a run is one of what is asked
step-of : {I O : Type 0} (gives : I → List ℕ → I → Type 0) (keeps : O → List ℕ → O → Type 0) (i0 i i' : I) (o0 o o' : O) (job : Job) (limits : FileLimitValues)
    (ended : Type 0) (c c' : Copier) (items blocks : ℕ) (outcome : Outcome) → HasRun gives keeps i0 i o0 o job limits c items blocks
    → (m : Moved gives keeps i i' o o' (λ taken put. Steps (job_in c) (limits_in c) ended (stored_of c) (stored_of c') taken put outcome))
    → Steps job limits ended (stored_of c) (stored_of c') m.taken m.put outcome
step-of gives keeps i0 i i' o0 o o' job limits ended c c' items blocks outcome r m =
    subst (λ l. Steps job l ended (stored_of c) (stored_of c') m.taken m.put outcome) r.same_limits
    (subst (λ j. Steps j (limits_in c) ended (stored_of c) (stored_of c') m.taken m.put outcome) r.same_job m.does)

-- all that was taken and put, when a step was made after a run
moved-on : {I O : Type 0} (gives : I → List ℕ → I → Type 0) (keeps : O → List ℕ → O → Type 0) → Chains gives → Chains keeps → (i0 i i' : I) (o0 o o' : O)
    (taken put more out : List ℕ) (holds : List ℕ → List ℕ → Type 0) → gives i0 taken i → keeps o0 put o → gives i more i' → keeps o out o'
    → holds (taken ++ more) (put ++ out) → Moved gives keeps i0 i' o0 o' holds
moved-on gives keeps chain_i chain_o i0 i i' o0 o o' taken put more out holds is_taken is_put took puts does = record {
  taken = taken ++ more;
  put = put ++ out;
  is_taken = chain_i i0 i i' taken more is_taken took;
  is_put = chain_o o0 o o' put out is_put puts;
  does = does;
}

pub HasRun-header : {I O : Type 0} (gives : I → List ℕ → I → Type 0) (keeps : O → List ℕ → O → Type 0) → Chains gives → Chains keeps
    → (i0 i i' : I) (o0 o o' : O) (job : Job) (limits : FileLimitValues) (ended : Type 0) (c c' : Copier) (items blocks : ℕ)
    → HasRun gives keeps i0 i o0 o job limits c items blocks → (s : Step) → s ≡ Step.Header → Moves gives keeps ended i i' o o' c c' (Ok s)
    → job_in c' ≡ job_in c → limits_in c' ≡ limits_in c
    → HasRun gives keeps i0 i' o0 o' job limits c' items blocks
HasRun-header gives keeps chain_i chain_o i0 i i' o0 o o' job limits ended c c' items blocks r s which moved same same_limits =
    let m = subst (λ q. Moves gives keeps ended i i' o o' c c' (Ok q)) which moved in
    let does = step-of gives keeps i0 i i' o0 o o' job limits ended c c' items blocks Outcome.header r m in
    let step = does.gives r.goes_on.0 r.goes_on.1 in
    record {
      counts = r.counts;
      taken = r.taken ++ m.taken;
      put = r.put ++ m.put;
      is_taken = chain_i i0 i i' r.taken m.taken r.is_taken m.is_taken;
      is_put = chain_o o0 o o' r.put m.put r.is_put m.is_put;
      done = Done-header job limits (stored_of c) (stored_of c') r.counts r.taken r.put m.taken m.put r.done step;
      sum_is = r.sum_is;
      goes_on = step.goes_on;
      same_job = same ∙ r.same_job;
      same_limits = same_limits ∙ r.same_limits;
      blocks_are = step.count ∙ r.blocks_are;
      few = r.few;
      items_few = r.items_few;
    }

pub HasRun-block : {I O : Type 0} (gives : I → List ℕ → I → Type 0) (keeps : O → List ℕ → O → Type 0) → Chains gives → Chains keeps
    → (i0 i i' : I) (o0 o o' : O) (job : Job) (limits : FileLimitValues) (ended : Type 0) (c c' : Copier) (items blocks n : ℕ)
    → HasRun gives keeps i0 i o0 o job limits c items blocks → (s : Step) → s ≡ Step.Block n → Moves gives keeps ended i i' o o' c c' (Ok s)
    → job_in c' ≡ job_in c → limits_in c' ≡ limits_in c → n ≤ 16777216
    → HasRun gives keeps i0 i' o0 o' job limits c' (items + n) (blocks + 1)
HasRun-block gives keeps chain_i chain_o i0 i i' o0 o o' job limits ended c c' items blocks n r s which moved same same_limits small =
    let m = subst (λ q. Moves gives keeps ended i i' o o' c c' (Ok q)) which moved in
    let does = step-of gives keeps i0 i i' o0 o o' job limits ended c c' items blocks (Outcome.block n) r m in
    let step = does.gives r.goes_on.0 r.goes_on.1 in
    let was = r.blocks_are in
    let one = step.count in
    let below = step.few in
    record {
      counts = r.counts ++ n ∷ [];
      taken = r.taken ++ m.taken;
      put = r.put ++ m.put;
      is_taken = chain_i i0 i i' r.taken m.taken r.is_taken m.is_taken;
      is_put = chain_o o0 o o' r.put m.put r.is_put m.is_put;
      done = Done-block job limits (stored_of c) (stored_of c') r.counts n r.taken r.put m.taken m.put r.done step;
      sum_is = sum_by_push (λ x. x) r.counts n ∙ ap (λ k. k + n) r.sum_is;
      goes_on = step.goes_on;
      same_job = same ∙ r.same_job;
      same_limits = same_limits ∙ r.same_limits;
      blocks_are = omega (arith, was, one);
      few = omega (arith, was, below);
      items_few = omega (arith, r.items_few, small);
    }

pub HasRun-end : {I O : Type 0} (gives : I → List ℕ → I → Type 0) (keeps : O → List ℕ → O → Type 0) → Chains gives → Chains keeps
    → (i0 i i' : I) (o0 o o' o'' : O) (job : Job) (limits : FileLimitValues) (ended : Type 0) (c c' : Copier) (items blocks : ℕ)
    → HasRun gives keeps i0 i o0 o job limits c items blocks → (s : Step) → s ≡ Step.End → Moves gives keeps ended i i' o o' c c' (Ok s) → keeps o' [] o''
    → CopiesFile gives keeps i0 i' o0 o'' job limits ended items blocks
HasRun-end gives keeps chain_i chain_o i0 i i' o0 o o' o'' job limits ended c c' items blocks r s which moved flushed =
    let m = subst (λ q. Moves gives keeps ended i i' o o' c c' (Ok q)) which moved in
    let does = step-of gives keeps i0 i i' o0 o o' job limits ended c c' items blocks Outcome.at_end r m in
    let puts = subst (λ p. keeps o p o'') (append-nil m.put) (chain_o o o' o'' m.put [] m.is_put flushed) in
    moved-on gives keeps chain_i chain_o i0 i i' o0 o o'' r.taken r.put m.taken m.put (CopiedWhole job limits ended items blocks) r.is_taken r.is_put m.is_taken puts
    (subst (λ i. CopiedWhole job limits ended i blocks (r.taken ++ m.taken) (r.put ++ m.put)) r.sum_is
    (subst (λ k. CopiedWhole job limits ended (sum r.counts) k (r.taken ++ m.taken) (r.put ++ m.put)) r.blocks_are
    (CopiedWhole-end job limits (stored_of c) (stored_of c') r.counts ended r.taken r.put m.taken m.put r.done (does.gives r.goes_on.0 r.goes_on.1))))

-- what was copied whole is a prefix of it
pub CopiesFront-whole : {I O : Type 0} (gives : I → List ℕ → I → Type 0) (keeps : O → List ℕ → O → Type 0) (i0 i : I) (o0 o : O) (job : Job)
    (limits : FileLimitValues) (ended : Type 0) (items blocks : ℕ) → CopiesFile gives keeps i0 i o0 o job limits ended items blocks
    → CopiesFront gives keeps i0 i o0 o job limits
CopiesFront-whole gives keeps i0 i o0 o job limits ended items blocks w = record {
  taken = w.taken;
  put = w.put;
  is_taken = w.is_taken;
  is_put = w.is_put;
  does = PutInAll-whole job limits ended items blocks w.taken w.put w.does;
}

pub HasRun-refused : {I O : Type 0} (gives : I → List ℕ → I → Type 0) (keeps : O → List ℕ → O → Type 0) → Chains gives → Chains keeps
    → (i0 i i' : I) (o0 o o' : O) (job : Job) (limits : FileLimitValues) (ended : Type 0) (c c' : Copier) (items blocks : ℕ) (e : CopyError)
    → HasRun gives keeps i0 i o0 o job limits c items blocks → Moves gives keeps ended i i' o o' c c' (Err e)
    → CopiesFront gives keeps i0 i' o0 o' job limits
HasRun-refused gives keeps chain_i chain_o i0 i i' o0 o o' job limits ended c c' items blocks e r m =
    let does = step-of gives keeps i0 i i' o0 o o' job limits ended c c' items blocks (Outcome.refused (file_fault e)) r m in
    moved-on gives keeps chain_i chain_o i0 i i' o0 o o' r.taken r.put m.taken m.put (PutInAll job limits) r.is_taken r.is_put m.is_taken m.is_put
    (PutInAll-refused job limits ended (stored_of c) (stored_of c') r.counts r.taken r.put m.taken m.put (file_fault e) r.done
    (does.gives r.goes_on.0 r.goes_on.1) does.held)

pub HasRun-fault : {I O : Type 0} (gives : I → List ℕ → I → Type 0) (keeps : O → List ℕ → O → Type 0) → Chains gives → Chains keeps
    → (i0 i i' : I) (o0 o o' : O) (job : Job) (limits : FileLimitValues) (ended : Type 0) (c c' : Copier) (items blocks : ℕ) (e : CopyError) (f : FileFault)
    → HasRun gives keeps i0 i o0 o job limits c items blocks → Moves gives keeps ended i i' o o' c c' (Err e) → file_fault e ≡ Some f
    → CopiesUpTo gives keeps i0 i' o0 o' job limits ended f
HasRun-fault gives keeps chain_i chain_o i0 i i' o0 o o' job limits ended c c' items blocks e f r m is_fault =
    let does = step-of gives keeps i0 i i' o0 o o' job limits ended c c' items blocks (Outcome.refused (file_fault e)) r m in
    moved-on gives keeps chain_i chain_o i0 i i' o0 o o' r.taken r.put m.taken m.put (λ taken put. FaultStands job limits ended taken put f)
    r.is_taken r.is_put m.is_taken m.is_put
    (FaultStands-refused job limits ended (stored_of c) (stored_of c') r.counts r.taken r.put m.taken m.put (file_fault e) f r.done
    (does.gives r.goes_on.0 r.goes_on.1) is_fault)
