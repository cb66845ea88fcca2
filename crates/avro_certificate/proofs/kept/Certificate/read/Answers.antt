use Rattle.std.proofs.Common.{true, false, inl, inr, arith}
use Rattle.std.proofs.lemmas.Result.{err_from_is_err_and}
use Rattle.avro_certificate.specs.SeenPair.{pairs_of}
use Rattle.avro_certificate.proofs.Lengths.{length-certificate}
use Rattle.avro_certificate.proofs.ReadText.{kept_of, small_at, rising_at, pairs_rising_at, no_lines, refusal, great_number, read_text, text_kept, small_text, falling_text}
use Rattle.avro_certificate.proofs.kept.Certificate.read.Goals as goal

pub returns-in_err-dead-clause-complete : goal.returns-in_err-dead-clause-complete
returns-in_err-dead-clause-complete c = grind (arith, err_from_is_err_and, no_lines)

pub returns-in_err-dead-clause-refused : goal.returns-in_err-dead-clause-refused
returns-in_err-dead-clause-refused c = grind (arith, err_from_is_err_and, refusal)

pub returns-then-not-are_small-clause-complete : goal.returns-then-not-are_small-clause-complete
returns-then-not-are_small-clause-complete c =
    let f = c.in_ok-dead.ensures.found in
    let kept = kept_of c.args.text.now c.in_ok-dead.dead.items (pairs_of c.in_ok-dead.pairs.items) f.0 f.1 f.2 f.3 f.4 in
    let small = small_at c.in_ok-dead.dead.items c.deref.result.now c.in_ok-dead.pairs.items c.deref-2.result.now c.are_small.result false
    c.are_small.ensures c.deref.ensures.value c.deref-2.ensures.value c.if-not-are_small.true in
    λ dead pairs certified theirs. small_text c.args.text.now c.in_ok-dead.dead.items (pairs_of c.in_ok-dead.pairs.items) kept dead pairs certified theirs small

pub returns-then-not-are_small-clause-refused : goal.returns-then-not-are_small-clause-refused
returns-then-not-are_small-clause-refused c =
    let f = c.in_ok-dead.ensures.found in
    let kept = kept_of c.args.text.now c.in_ok-dead.dead.items (pairs_of c.in_ok-dead.pairs.items) f.0 f.1 f.2 f.3 f.4 in
    let small = small_at c.in_ok-dead.dead.items c.deref.result.now c.in_ok-dead.pairs.items c.deref-2.result.now c.are_small.result false
    c.are_small.ensures c.deref.ensures.value c.deref-2.ensures.value c.if-not-are_small.true in
    great_number c.args.text.now c.in_ok-dead.dead.items (pairs_of c.in_ok-dead.pairs.items) kept small

pub returns-then-not-numbers_rise-clause-complete : goal.returns-then-not-numbers_rise-clause-complete
returns-then-not-numbers_rise-clause-complete c =
    let f = c.in_ok-dead.ensures.found in
    let kept = kept_of c.args.text.now c.in_ok-dead.dead.items (pairs_of c.in_ok-dead.pairs.items) f.0 f.1 f.2 f.3 f.4 in
    let small = small_at c.in_ok-dead.dead.items c.deref.result.now c.in_ok-dead.pairs.items c.deref-2.result.now c.are_small.result true
    c.are_small.ensures c.deref.ensures.value c.deref-2.ensures.value c.if-not-are_small.false in
    let falls = rising_at c.in_ok-dead.dead.items c.deref-3.result.now c.numbers_rise.result false c.numbers_rise.ensures c.deref-3.ensures.value c.if-not-numbers_rise.true in
    λ dead pairs certified theirs. falling_text c.args.text.now c.in_ok-dead.dead.items (pairs_of c.in_ok-dead.pairs.items) kept small (inl falls) dead pairs certified

pub returns-then-not-numbers_rise-clause-refused : goal.returns-then-not-numbers_rise-clause-refused
returns-then-not-numbers_rise-clause-refused c =
    let f = c.in_ok-dead.ensures.found in
    let kept = kept_of c.args.text.now c.in_ok-dead.dead.items (pairs_of c.in_ok-dead.pairs.items) f.0 f.1 f.2 f.3 f.4 in
    let small = small_at c.in_ok-dead.dead.items c.deref.result.now c.in_ok-dead.pairs.items c.deref-2.result.now c.are_small.result true
    c.are_small.ensures c.deref.ensures.value c.deref-2.ensures.value c.if-not-are_small.false in
    let falls = rising_at c.in_ok-dead.dead.items c.deref-3.result.now c.numbers_rise.result false c.numbers_rise.ensures c.deref-3.ensures.value c.if-not-numbers_rise.true in
    inr (falling_text c.args.text.now c.in_ok-dead.dead.items (pairs_of c.in_ok-dead.pairs.items) kept small (inl falls))

pub returns-then-not-pairs_rise-clause-complete : goal.returns-then-not-pairs_rise-clause-complete
returns-then-not-pairs_rise-clause-complete c =
    let f = c.in_ok-dead.ensures.found in
    let kept = kept_of c.args.text.now c.in_ok-dead.dead.items (pairs_of c.in_ok-dead.pairs.items) f.0 f.1 f.2 f.3 f.4 in
    let small = small_at c.in_ok-dead.dead.items c.deref.result.now c.in_ok-dead.pairs.items c.deref-2.result.now c.are_small.result true
    c.are_small.ensures c.deref.ensures.value c.deref-2.ensures.value c.if-not-are_small.false in
    let falls = pairs_rising_at c.in_ok-dead.pairs.items c.deref-4.result.now c.pairs_rise.result false c.pairs_rise.ensures c.deref-4.ensures.value c.if-not-pairs_rise.true in
    λ dead pairs certified theirs. falling_text c.args.text.now c.in_ok-dead.dead.items (pairs_of c.in_ok-dead.pairs.items) kept small (inr falls) dead pairs certified

pub returns-then-not-pairs_rise-clause-refused : goal.returns-then-not-pairs_rise-clause-refused
returns-then-not-pairs_rise-clause-refused c =
    let f = c.in_ok-dead.ensures.found in
    let kept = kept_of c.args.text.now c.in_ok-dead.dead.items (pairs_of c.in_ok-dead.pairs.items) f.0 f.1 f.2 f.3 f.4 in
    let small = small_at c.in_ok-dead.dead.items c.deref.result.now c.in_ok-dead.pairs.items c.deref-2.result.now c.are_small.result true
    c.are_small.ensures c.deref.ensures.value c.deref-2.ensures.value c.if-not-are_small.false in
    let falls = pairs_rising_at c.in_ok-dead.pairs.items c.deref-4.result.now c.pairs_rise.result false c.pairs_rise.ensures c.deref-4.ensures.value c.if-not-pairs_rise.true in
    inr (falling_text c.args.text.now c.in_ok-dead.dead.items (pairs_of c.in_ok-dead.pairs.items) kept small (inr falls))

pub returns-clause-found : goal.returns-clause-found
returns-clause-found c =
    let f = c.in_ok-dead.ensures.found in
    let kept = kept_of c.args.text.now c.in_ok-dead.dead.items (pairs_of c.in_ok-dead.pairs.items) f.0 f.1 f.2 f.3 f.4 in
    let small = small_at c.in_ok-dead.dead.items c.deref.result.now c.in_ok-dead.pairs.items c.deref-2.result.now c.are_small.result true
    c.are_small.ensures c.deref.ensures.value c.deref-2.ensures.value c.if-not-are_small.false in
    let rises = rising_at c.in_ok-dead.dead.items c.deref-3.result.now c.numbers_rise.result true c.numbers_rise.ensures c.deref-3.ensures.value c.if-not-numbers_rise.false in
    let pairs = pairs_rising_at c.in_ok-dead.pairs.items c.deref-4.result.now c.pairs_rise.result true c.pairs_rise.ensures c.deref-4.ensures.value c.if-not-pairs_rise.false in
    read_text c.args.text.now c.in_ok-dead.dead.items (pairs_of c.in_ok-dead.pairs.items) kept small rises pairs

pub returns-clause-complete : goal.returns-clause-complete
returns-clause-complete c =
    let f = c.in_ok-dead.ensures.found in
    let kept = kept_of c.args.text.now c.in_ok-dead.dead.items (pairs_of c.in_ok-dead.pairs.items) f.0 f.1 f.2 f.3 f.4 in
    λ dead pairs certified theirs. text_kept c.args.text.now c.in_ok-dead.dead.items (pairs_of c.in_ok-dead.pairs.items) kept dead pairs certified theirs

pub returns-then-text-gt-MAX_LEN-clause-complete : goal.returns-then-text-gt-MAX_LEN-clause-complete
returns-then-text-gt-MAX_LEN-clause-complete c = grind (arith, length-certificate)
