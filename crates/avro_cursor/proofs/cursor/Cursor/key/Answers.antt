use Rattle.std.proofs.Common.{◌≡◌, List, ℕ, refl, sym, ap, ◌∙◌, Bool, true, false, not}
use Rattle.std.specs.FinSet as set
use Rattle.std.proofs.lemmas.Result.{err_from_is_err_and}
use Rattle.avro_cursor.specs.Breaks.{string_breaks}
use Rattle.avro_cursor.proofs.public.KeySteps.{key_found, key_refused, key_twice}
use Rattle.avro_cursor.proofs.cursor.Cursor.key.Goals as goal

unseen : (b new : Bool) → new ≡ not b → new ≡ true → b ≡ false
unseen false new e h = refl
unseen true new e h = sym h ∙ e

seen : (b new : Bool) → new ≡ not b → new ≡ false → b ≡ true
seen true new e h = refl
seen false new e h = sym h ∙ e

pub returns-clause-read : goal.returns-clause-read
returns-clause-read c = λ keys are.
    let text = c.in_ok-text.ensures in
    let add = c.in_ok-is_new.ensures in
    let new = unseen (set.contains c.args.seen.now c.as_bytes.result.now) c.in_ok-is_new.is_new add.is_new c.if-not-is_new.false in
    key_found (λ text. text.now) keys c.args.self.now c.pass.new.self c.args.seen.now c.add.new.self are c.in_ok-text.text c.in_ok-text.len text.stands text.valid
    (ap (set.contains c.args.seen.now) (sym c.as_bytes.ensures.value) ∙ new)
    (add.added ∙ ap (λ (k : List ℕ). set.insert c.args.seen.now k) c.as_bytes.ensures.value) c.pass.ensures.passed

pub returns-then-not-is_new-clause-read : goal.returns-then-not-is_new-clause-read
returns-then-not-is_new-clause-read c = λ keys are.
    let text = c.in_ok-text.ensures in
    let add = c.in_ok-is_new.ensures in
    let old = seen (set.contains c.args.seen.now c.as_bytes.result.now) c.in_ok-is_new.is_new add.is_new c.if-not-is_new.true in
    key_twice (λ text. text.now) keys c.args.self.now c.args.self.now c.args.seen.now c.add.new.self are c.in_ok-text.text.now c.in_ok-text.len c.offset.result text.stands text.valid
    (ap (set.contains c.args.seen.now) (sym c.as_bytes.ensures.value) ∙ old)
    (add.added ∙ ap (λ (k : List ℕ). set.insert c.args.seen.now k) c.as_bytes.ensures.value) c.offset.ensures refl

pub returns-in_err-text-clause-read : goal.returns-in_err-text-clause-read
returns-in_err-text-clause-read c = λ keys are.
    let p = err_from_is_err_and c.from_residual.result c.from_residual.ensures.1 in
    let refused = c.in_err-text.ensures.refused in
    rw (p.1, p.2) (key_refused (λ text. text.now) keys c.args.self.now c.args.self.now c.args.seen.now c.args.seen.now are c.in_err-text.field-0.0 refused.0 (string_breaks refused.1) refused.2 refl refl)
