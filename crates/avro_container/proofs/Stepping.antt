-- What a step gives, of what its parts give.
use Rattle.std.proofs.Common.{◌≡◌, ℕ, suc, ◌+◌, ◌≤◌, true, false, List, [], ◌++◌, length, Option, Some, None, refl, sym, ap, subst, ◌∙◌, arith, append-nil}
use Rattle.std.proofs.lemmas.Bool.{false≢true}
use Rattle.avro_container.specs.inside.BlockCopied.{CopiesBlock, GivesWithin, RefusesWithin}
use Rattle.avro_file.specs.BlockFails.{FileLimitValues}
use Rattle.avro_file.specs.Copied.{Job}
use Rattle.avro_file.specs.File.{HeaderValue}
use Rattle.avro_file.specs.FileFault.{FileFault}
use Rattle.avro_container.specs.inside.HeaderCopied.{CopiesHeader}
use Rattle.avro_container.specs.Moved.{Moved}
use Rattle.avro_container.specs.Steps.{GoesOn, Outcome, Steps, Stored}

-- a step after an error
pub step-failed : {I O : Type 0} (gives : I → List ℕ → I → Type 0) (keeps : O → List ℕ → O → Type 0) → ((s : I) → gives s [] s) → ((s : O) → keeps s [] s)
    → (i : I) (o : O) (job : Job) (limits : FileLimitValues) (ended : Type 0) (s : Stored) → s.failed ≡ true → length s.ahead ≤ limits.block + 36
    → Moved gives keeps i i o o (λ taken put. Steps job limits ended s s taken put (Outcome.refused None))
step-failed gives keeps none_in none_out i o job limits ended s failed near = record {
  taken = [];
  put = [];
  is_taken = none_in i;
  is_put = none_out o;
  does = record {
    failed = λ _. (refl, refl, refl, refl);
    ended_before = λ no _. absurd (false≢true (sym no ∙ failed));
    gives = λ no _. absurd (false≢true (sym no ∙ failed));
    held = omega (arith, ap length (append-nil s.ahead), near);
    ahead = omega (arith, near);
  };
}

-- a step after the end
pub step-ended : {I O : Type 0} (gives : I → List ℕ → I → Type 0) (keeps : O → List ℕ → O → Type 0) → ((s : I) → gives s [] s) → ((s : O) → keeps s [] s)
    → (i : I) (o : O) (job : Job) (limits : FileLimitValues) (ended : Type 0) (s : Stored) → s.failed ≡ false → s.ended ≡ true
    → length s.ahead ≤ limits.block + 36 → Moved gives keeps i i o o (λ taken put. Steps job limits ended s s taken put Outcome.at_end)
step-ended gives keeps none_in none_out i o job limits ended s sound over near = record {
  taken = [];
  put = [];
  is_taken = none_in i;
  is_put = none_out o;
  does = record {
    failed = λ yes. absurd (false≢true (sym sound ∙ yes));
    ended_before = λ _ _. (refl, refl, refl, refl);
    gives = λ _ no. absurd (false≢true (sym no ∙ over));
    held = omega (arith, ap length (append-nil s.ahead), near);
    ahead = omega (arith, near);
  };
}

-- a step that was made
pub step-gives : {I O : Type 0} (gives : I → List ℕ → I → Type 0) (keeps : O → List ℕ → O → Type 0) (i i' : I) (o o' : O) (job : Job) (limits : FileLimitValues)
    (ended : Type 0) (s t : Stored) (outcome : Outcome) → GoesOn s → length t.ahead ≤ limits.block + 36
    → Moved gives keeps i i' o o' (GivesWithin job limits ended s t outcome)
    → Moved gives keeps i i' o o' (λ taken put. Steps job limits ended s t taken put outcome)
step-gives gives keeps i i' o o' job limits ended s t outcome on near m = record {
  taken = m.taken;
  put = m.put;
  is_taken = m.is_taken;
  is_put = m.is_put;
  does = record {
    failed = λ yes. absurd (false≢true (sym on.0 ∙ yes));
    ended_before = λ _ yes. absurd (false≢true (sym on.1 ∙ yes));
    gives = λ _ _. m.does.gives;
    held = m.does.held;
    ahead = omega (arith, near);
  };
}

-- a step that was refused
pub step-refused : {I O : Type 0} (gives : I → List ℕ → I → Type 0) (keeps : O → List ℕ → O → Type 0) (i i' : I) (o o' : O) (job : Job) (limits : FileLimitValues)
    (ended : Type 0) (s t : Stored) (fault : Option FileFault) → GoesOn s → t.failed ≡ true → length t.ahead ≤ limits.block + 36
    → Moved gives keeps i i' o o' (RefusesWithin job limits ended s fault)
    → Moved gives keeps i i' o o' (λ taken put. Steps job limits ended s t taken put (Outcome.refused fault))
step-refused gives keeps i i' o o' job limits ended s t fault on failed near m = record {
  taken = m.taken;
  put = m.put;
  is_taken = m.is_taken;
  is_put = m.is_put;
  does = record {
    failed = λ yes. absurd (false≢true (sym on.0 ∙ yes));
    ended_before = λ _ yes. absurd (false≢true (sym on.1 ∙ yes));
    gives = λ _ _. record { has_failed = failed; refusal = m.does.refusal };
    held = m.does.held;
    ahead = omega (arith, near);
  };
}

-- the header was copied
pub header-gives : {I O : Type 0} (gives : I → List ℕ → I → Type 0) (keeps : O → List ℕ → O → Type 0) (i i' : I) (o o' : O) (job : Job) (limits : FileLimitValues)
    (ended : Type 0) (s t : Stored) (h : HeaderValue) → s.header ≡ None → s.ahead ≡ [] → t.header ≡ Some h → t.blocks ≡ s.blocks → GoesOn t
    → Moved gives keeps i i' o o' (CopiesHeader job limits h t.ahead) → Moved gives keeps i i' o o' (GivesWithin job limits ended s t Outcome.header)
header-gives gives keeps i i' o o' job limits ended s t h is_none is_ahead kept count on m = record {
  taken = m.taken;
  put = m.put;
  is_taken = m.is_taken;
  is_put = m.is_put;
  does = record {
    gives = record {
      none_before = is_none;
      header = h;
      bytes = m.does.bytes;
      is_header = m.does.is_header;
      within = m.does.within;
      split = ap (λ b. b ++ m.taken) is_ahead ∙ m.does.split;
      kept = kept;
      count = count;
      copied = m.does.copied;
      goes_on = on;
    };
    held = omega (arith, ap (λ b. length (b ++ m.taken)) is_ahead, m.does.held);
  };
}

-- a block was copied
pub block-gives : {I O : Type 0} (gives : I → List ℕ → I → Type 0) (keeps : O → List ℕ → O → Type 0) (i i' : I) (o o' : O) (job : Job) (limits : FileLimitValues)
    (ended : Type 0) (s t : Stored) (h : HeaderValue) (n number : ℕ) → n ≡ number → s.header ≡ Some h → t.header ≡ Some h → t.blocks ≡ suc s.blocks → GoesOn t
    → Moved gives keeps i i' o o' (CopiesBlock job limits h s.blocks number s.ahead t.ahead) → Moved gives keeps i i' o o' (GivesWithin job limits ended s t (Outcome.block n))
block-gives gives keeps i i' o o' job limits ended s t h n number same before after count on m = record {
  taken = m.taken;
  put = m.put;
  is_taken = m.is_taken;
  is_put = m.is_put;
  does = record {
    gives = record {
      header = h;
      header_before = before;
      header_after = after;
      values = m.does.values;
      bytes = m.does.bytes;
      is_block = m.does.is_block;
      counted = m.does.counted ∙ sym same;
      few = m.does.few;
      count = count;
      split = m.does.split;
      copied = m.does.copied;
      small = m.does.small;
      goes_on = on;
    };
    held = omega (arith, m.does.held);
  };
}

-- the input ended before a block
pub end-gives : {I O : Type 0} (gives : I → List ℕ → I → Type 0) (keeps : O → List ℕ → O → Type 0) → ((s : O) → keeps s [] s) → (i i' : I) (o o' : O) (job : Job)
    (limits : FileLimitValues) (ended : Type 0) (s t : Stored) (h : HeaderValue) → s.header ≡ Some h → t.header ≡ Some h → s.ahead ≡ [] → t.ahead ≡ []
    → t.blocks ≡ s.blocks → t.ended ≡ true → t.failed ≡ false → ended → gives i [] i' → o' ≡ o
    → Moved gives keeps i i' o o' (GivesWithin job limits ended s t Outcome.at_end)
end-gives gives keeps none i i' o o' job limits ended s t h before after none_ahead none_left same over sound told taken still = record {
  taken = [];
  put = [];
  is_taken = taken;
  is_put = subst (λ x. keeps o [] x) (sym still) (none o);
  does = record {
    gives = record {
      header = h;
      header_before = before;
      header_after = after;
      none_ahead = none_ahead;
      none_taken = refl;
      none_left = none_left;
      none_put = refl;
      same = same;
      is_told = told;
      has_ended = over;
      no_failure = sound;
    };
    held = omega (arith, ap (λ b. length (b ++ [])) none_ahead);
  };
}
