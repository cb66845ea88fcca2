-- What was put and is held, one part after another, and what is told of the output.
use Rattle.std.proofs.Common.{◌≡◌, ℕ, List, [], ◌++◌, Result, Ok, Err, inl, inr, ⊎_elim, refl, sym, ap, subst, ◌∙◌, append_assoc, append-nil}
use Rattle.std.specs.Prelude.{IsErrAnd, MatchResult}
use Rattle.avro_device.specs.PutFront.{PutsFrontOf}
use Rattle.avro_display.specs.declared.put_error.PutError.{PutError}
use Rattle.avro_display.proofs.public.Putting.{puts_both}
use Rattle.avro_file.specs.declared.error.CopyError.{CopyError}
use Rattle.avro_lines.specs.inside.DataShown.{Puts, PutsSome}
use Rattle.avro_lines.specs.inside.OutputTold.{Fails, OutputTold, PutFails}

-- what the exit of a `?` returns
pub err-exit : {A E : Type 0} (P : A → Type 0) (Q : E → Type 0) (r : Result A E) (e : E) → IsErrAnd r (λ y. y ≡ e) → Q e → MatchResult r P Q
err-exit P Q (Ok a) e is q = absurd is
err-exit P Q (Err y) e is q = subst Q (sym is) q

pub not-memory : CopyError.OutOfMemory ≡ CopyError.OutputFailed → ⊥
not-memory q = cc

module _ {O : Type 0} (keeps : O → List ℕ → O → Type 0) where
  -- all was put
  pub front-all : (s t : O) (bytes : List ℕ) → keeps s bytes t → PutsFrontOf keeps s t bytes
  front-all s t bytes kept = record { front = bytes; later = []; kept = kept; split = sym (append-nil bytes) }

  -- bytes were put, and then none
  pub put-then : ((s t u : O) (front back : List ℕ) → keeps s front t → keeps t back u → keeps s (front ++ back) u) → (s t u : O) (bytes : List ℕ)
      → keeps s bytes t → keeps t [] u → keeps s bytes u
  put-then chain s t u bytes put none = subst (λ (b : List ℕ). keeps s b u) (append-nil bytes) (chain s t u bytes [] put none)

module _ {O : Type 0} (failures : O → ℕ) (stuck : O → Type 0) where
  -- the output did not fail before
  pub fails-after : (s t u : O) → failures t ≡ failures s → Fails failures stuck t u → Fails failures stuck s u
  fails-after s t u same = ⊎_elim (λ other. inl (λ e. other (e ∙ sym same))) inr

  pub told-after : (s t u : O) (e : CopyError) → failures t ≡ failures s → OutputTold failures stuck t u e → OutputTold failures stuck s u e
  told-after s t u e same told =
      record { error = told.error; works = λ other. told.works other ∙ same; fails = λ is. fails-after s t u same (told.fails is) }

  -- the output failed
  pub told-failed : (s t : O) (e : CopyError) → e ≡ CopyError.OutputFailed → Fails failures stuck s t → OutputTold failures stuck s t e
  told-failed s t e is fails = record { error = inl is; works = λ other. absurd (other is); fails = λ _. fails }

  -- memory ran out
  pub told-memory : (s t : O) (e : CopyError) → e ≡ CopyError.OutOfMemory → failures t ≡ failures s → OutputTold failures stuck s t e
  told-memory s t e is works = record { error = inr is; works = λ _. works; fails = λ failed. absurd (not-memory (sym is ∙ failed)) }

  -- a line could not be put in pieces
  pub told-piece : (s t : O) (p : PutError) (e : CopyError) → (p ≡ PutError.CannotWrite → e ≡ CopyError.OutputFailed) → (p ≡ PutError.OutOfMemory → e ≡ CopyError.OutOfMemory)
      → (p ≡ PutError.CannotWrite → Fails failures stuck s t) → (p ≡ PutError.OutOfMemory → failures t ≡ failures s) → OutputTold failures stuck s t e
  told-piece s t PutError.CannotWrite e failed memory fails works = told-failed s t e (failed refl) (fails refl)
  told-piece s t PutError.OutOfMemory e failed memory fails works = told-memory s t e (memory refl) (works refl)

module _ {O : Type 0} (keeps : O → List ℕ → O → Type 0) (failures : O → ℕ) where
  -- all that was held was put
  pub puts-all : (s t : O) (held left : List ℕ) → keeps s held t → left ≡ [] → failures t ≡ failures s → Puts keeps failures s held [] t left
  puts-all s t held left kept none works = record { puts = (held, kept, ap (λ (b : List ℕ). held ++ b) (sym none)); works = works }

  -- nothing was put, and nothing more is held
  pub puts-still : ((s : O) → keeps s [] s) → (s : O) (held left : List ℕ) → left ≡ held → Puts keeps failures s held [] s left
  puts-still none s held left same = record { puts = ([], none s, append-nil held ∙ sym same); works = refl }

  -- more is held
  pub puts-more : (s t : O) (held bytes left more after : List ℕ) → Puts keeps failures s held bytes t left → after ≡ left ++ more
      → Puts keeps failures s held (bytes ++ more) t after
  puts-more s t held bytes left more after had is =
      let (put, kept, all) = had.puts in
      record {
        puts = (
          put,
          kept,
          sym (append_assoc held bytes more) ∙ ap (λ (b : List ℕ). b ++ more) all ∙ append_assoc put left more ∙ ap (λ (b : List ℕ). put ++ b) (sym is),
        );
        works = had.works;
      }

  module _ (chain : (s t u : O) (front back : List ℕ) → keeps s front t → keeps t back u → keeps s (front ++ back) u) where
    -- one after the other
    pub puts-after : (s t u : O) (held first text second left : List ℕ) → Puts keeps failures s held first t text → Puts keeps failures t text second u left
        → Puts keeps failures s held (first ++ second) u left
    puts-after s t u held first text second left had more =
        record { puts = puts_both keeps chain s t u held first text second left had.puts more.puts; works = more.works ∙ had.works }

    -- what is held goes out
    pub puts-out : (s t u : O) (held bytes text left : List ℕ) → Puts keeps failures s held bytes t text → Puts keeps failures t text [] u left
        → Puts keeps failures s held bytes u left
    puts-out s t u held bytes text left had more =
        subst (λ (b : List ℕ). Puts keeps failures s held b u left) (append-nil bytes) (puts-after s t u held bytes text [] left had more)

  module _ (stuck : O → Type 0) where
    -- a prefix of what was held and of more was put, and nothing is held
    pub part-front : (s t : O) (held bytes left : List ℕ) (e : CopyError) → PutsFrontOf keeps s t (held ++ bytes) → left ≡ [] → OutputTold failures stuck s t e
        → PutsSome keeps failures stuck s held bytes t left e
    part-front s t held bytes left e f none told =
        let all : f.front ≡ f.front ++ left = sym (append-nil f.front) ∙ ap (λ (b : List ℕ). f.front ++ b) (sym none) in
        record { part = (f.front, f.later, f.kept, f.split ∙ ap (λ (b : List ℕ). b ++ f.later) all); told = told }

    -- the same of what was held alone
    pub part-held : (s t : O) (held left : List ℕ) (e : CopyError) → PutFails keeps failures stuck s held t e → left ≡ [] → PutsSome keeps failures stuck s held [] t left e
    part-held s t held left e failed none =
        part-front s t held [] left e (subst (λ (b : List ℕ). PutsFrontOf keeps s t b) (sym (append-nil held)) failed.front) none
        (told-failed failures stuck s t e failed.error failed.fails)

    -- memory ran out before anything was put
    pub part-still : ((s : O) → keeps s [] s) → (s : O) (held bytes : List ℕ) → PutsSome keeps failures stuck s held bytes s held CopyError.OutOfMemory
    part-still none s held bytes = record { part = ([], bytes, none s, refl); told = told-memory failures stuck s s CopyError.OutOfMemory refl refl }

    -- more was to come
    pub part-longer : (s t : O) (held first second left : List ℕ) (e : CopyError) → PutsSome keeps failures stuck s held first t left e
        → PutsSome keeps failures stuck s held (first ++ second) t left e
    part-longer s t held first second left e had =
        let (put, later, kept, all) = had.part in
        record {
          part = (put, later ++ second, kept, sym (append_assoc held first second) ∙ ap (λ (b : List ℕ). b ++ second) all ∙ append_assoc (put ++ left) later second);
          told = had.told;
        }

    module _ (chain : (s t u : O) (front back : List ℕ) → keeps s front t → keeps t back u → keeps s (front ++ back) u) where
      -- a part, after what was put before
      pub part-after : (s t u : O) (held first text second left : List ℕ) (e : CopyError) → Puts keeps failures s held first t text
          → PutsSome keeps failures stuck t text second u left e → PutsSome keeps failures stuck s held (first ++ second) u left e
      part-after s t u held first text second left e had more =
          let (put, kept, all) = had.puts in
          let (next, later, kept', cut) = more.part in
          record {
            part = (
              put ++ next,
              later,
              chain s t u put next kept kept',
              sym (append_assoc held first second) ∙ ap (λ (b : List ℕ). b ++ second) all ∙ append_assoc put text second ∙ ap (λ (b : List ℕ). put ++ b) cut
                  ∙ sym (append_assoc put (next ++ left) later) ∙ ap (λ (b : List ℕ). b ++ later) (sym (append_assoc put next left)),
            );
            told = told-after failures stuck s t u e had.works more.told;
          }

      -- a part of what is held goes out
      pub part-out : (s t u : O) (held bytes text left : List ℕ) (e : CopyError) → Puts keeps failures s held bytes t text
          → PutsSome keeps failures stuck t text [] u left e → PutsSome keeps failures stuck s held bytes u left e
      part-out s t u held bytes text left e had more =
          subst (λ (b : List ℕ). PutsSome keeps failures stuck s held b u left e) (append-nil bytes) (part-after s t u held bytes text [] left e had more)
