use Rattle.std.proofs.Common.{◌≡◌, ℕ, ◌+◌, ◌-◌, ◌*◌, ◌%◌, ◌^◌, ◌<◌, ◌∙◌, sym, subst, take, get_or, arith}
use Rattle.std.specs.List.{All}
use Rattle.std.proofs.lemmas.List.Elements.{All-from_get_or}
use Rattle.std.proofs.lemmas.List.{take_all}
use Rattle.avro_zigzag.specs.Number.{AreGroups}
use Rattle.avro_zigzag.specs.NumberFault.{ends}
use Rattle.avro_zigzag.proofs.Steps.{fault-too_large, shift-below, group-added, read_last, read_more, so_far-below}
use Rattle.avro_zigzag.proofs.read.read_each_group.Goals as goal

-- the last group
last : (c : goal.After-from) →
    let i = c.loop-index.index in
    let b = get_or c.args.bytes.now i 0 in
    (c.loop-index.value + c.from.result * 2 ^ (7 * i) % 2 ^ 64 ≡ c.loop-index.value + b * 128 ^ i)
    × (c.loop-index.value + b * 128 ^ i < (c.args.top + 1) * 128 ^ (c.args.most - 1))
last c =
    let i = c.loop-index.index in
    let bytes = c.args.bytes.now in
    group-added i c.args.most c.args.top c.from.result (get_or bytes i 0) c.loop-index.value c.loop-index.invariant.0 c.requires.fits
    (so_far-below bytes i c.loop-index.value c.loop-index-test.true c.loop-index.invariant.2) c.from.ensures c.if-byte-lt128.true (λ e. omega arith)

-- a group with more after it
next : (c : goal.After-from-in-loop-index) →
    let i = c.loop-index.index in
    let b = get_or c.args.bytes.now i 0 - 128 in
    (c.loop-index.value + c.from-in-loop-index.result * 2 ^ (7 * i) % 2 ^ 64 ≡ c.loop-index.value + b * 128 ^ i)
    × (c.loop-index.value + b * 128 ^ i < (c.args.top + 1) * 128 ^ (c.args.most - 1))
next c =
    let i = c.loop-index.index in
    let bytes = c.args.bytes.now in
    let range = c.type_inv.bytes i in
    group-added i c.args.most c.args.top c.from-in-loop-index.result (get_or bytes i 0 - 128) c.loop-index.value c.loop-index.invariant.0 c.requires.fits
    (so_far-below bytes i c.loop-index.value c.loop-index-test.true c.loop-index.invariant.2) c.from-in-loop-index.ensures (omega arith) (λ e. absurd (omega arith))

pub returns-then-byte-top-clause-refused : goal.returns-then-byte-top-clause-refused
returns-then-byte-top-clause-refused c =
    fault-too_large c.args.most c.args.top c.loop-index.index c.args.bytes.now (omega arith) c.loop-index.invariant.1 (omega arith) (omega arith)

pub returns-then-index-most-2-clause-refused : goal.returns-then-index-most-2-clause-refused
returns-then-index-most-2-clause-refused c =
    fault-too_large c.args.most c.args.top c.loop-index.index c.args.bytes.now (omega arith) c.loop-index.invariant.1 (omega arith) (omega arith)

pub overflow_mul-result : goal.overflow_mul-result
overflow_mul-result c =
    let small = shift-below c.loop-index.index c.args.most c.args.top c.loop-index.invariant.0 c.requires.fits in record { fits = omega arith }

pub overflow_shl-result : goal.overflow_shl-result
overflow_shl-result c = let small = shift-below c.loop-index.index c.args.most c.args.top c.loop-index.invariant.0 c.requires.fits in omega arith

pub overflow_add-result : goal.overflow_add-result
overflow_add-result c = let sum = last c in record { fits = omega arith }

pub returns-then-byte-lt128-clause-found : goal.returns-then-byte-lt128-clause-found
returns-then-byte-lt128-clause-found c =
    let i = c.loop-index.index in
    let bytes = c.args.bytes.now in
    let range : All (λ x. x < 256) bytes = All-from_get_or (λ x. x < 256) bytes 0 (λ k h. (c.type_inv.bytes k).fits) in (
      omega arith,
      omega arith,
      subst (λ (n : ℕ). AreGroups c.args.most n (take (i + 1) bytes)) (sym (last c).0)
          (read_last c.args.most bytes i c.loop-index.value c.loop-index.invariant.0 c.loop-index-test.true range c.loop-index.invariant.1 c.loop-index.invariant.2
          c.if-byte-lt128.true),
    )

pub returns-then-byte-lt128-clause-below : goal.returns-then-byte-lt128-clause-below
returns-then-byte-lt128-clause-below c = let sum = last c in omega arith

pub overflow_mul-value : goal.overflow_mul-value
overflow_mul-value c = let small = shift-below c.loop-index.index c.args.most c.args.top c.loop-index.invariant.0 c.requires.fits in record { fits = omega arith }

pub overflow_shl-value : goal.overflow_shl-value
overflow_shl-value c = let small = shift-below c.loop-index.index c.args.most c.args.top c.loop-index.invariant.0 c.requires.fits in omega arith

pub overflow_add-value : goal.overflow_add-value
overflow_add-value c = let sum = next c in record { fits = omega arith }

pub loop-index-preserved : goal.loop-index-preserved
loop-index-preserved c =
    let i = c.loop-index.index in
    let bytes = c.args.bytes.now in
    let range = c.type_inv.bytes i in
    let more = read_more bytes i c.loop-index.value c.loop-index-test.true c.loop-index.invariant.1 c.loop-index.invariant.2 c.if-byte-lt128.false range.fits in
    (omega arith, more.0, (next c).0 ∙ more.1)

pub returns-clause-refused : goal.returns-clause-refused
returns-clause-refused c =
    let bytes = c.args.bytes.now in
    let whole = take_all c.loop-index.index bytes c.loop-index-test.false in
    ends (rw (← whole) c.loop-index.invariant.1) (omega arith)
