-- What was written into an output that grows.
use Rattle.std.proofs.Common.{◌≡◌, ℕ, List, ◌++◌, length, take, refl, sym, ap, ◌∙◌, append_assoc, length-append, arith}
use Rattle.std.proofs.lemmas.List.{take_at}
use Rattle.avro_binary.specs.Growing.{grows_none, grows_on, stands_still}
use Rattle.avro_binary.specs.Outputs.{Grows, StandsAt}
use Rattle.avro_packed.specs.Appended.{Holds, Keeps, Output}
use Rattle.avro_packed.specs.declared.written.Written.{Written}

pub keeps_none : (s : Output) → Keeps s s
keeps_none s = (refl, grows_none s.bytes, omega arith)

pub keeps_on : (s t u : Output) → Keeps s t → Keeps t u → Keeps s u
keeps_on s t u before after =
    (after.0 ∙ before.0, grows_on s.bytes t.bytes u.bytes before.1 after.1, omega (arith, before.0, before.2, after.2))

pub still_holds : (s t : List ℕ) (w : Written) (bytes : List ℕ) → Grows s t → Holds s w bytes → Holds t w bytes
still_holds s t (Written.Range start end) bytes kept holds = stands_still s t start end bytes kept holds
still_holds s t (Written.Apart buffer) bytes kept holds = holds
still_holds s t (Written.Counted count) bytes kept holds = holds

-- two parts of which one ends where the other starts
pub stands_joined : (out : List ℕ) (start middle end : ℕ) (a b : List ℕ) → StandsAt out start middle a → StandsAt out middle end b → StandsAt out start end (a ++ b)
stands_joined out start middle end a b first second =
    let lengths : length second.before ≡ length (first.before ++ a) = omega (arith, first.starts, first.ends, second.starts, length-append first.before a) in
    let front : second.before ≡ first.before ++ a =
    sym (take_at second.before (b ++ second.rest) (length second.before) refl)
    ∙ ap (take (length second.before)) (sym (second.split ∙ append_assoc second.before b second.rest) ∙ first.split)
    ∙ take_at (first.before ++ a) first.rest (length second.before) (sym lengths) in
    record {
      before = first.before;
      rest = second.rest;
      split = second.split ∙ ap (λ (l : List ℕ). (l ++ b) ++ second.rest) front ∙ ap (λ (l : List ℕ). l ++ second.rest) (append_assoc first.before a b);
      starts = first.starts;
      ends = omega (arith, first.ends, second.ends, length-append a b);
    }
