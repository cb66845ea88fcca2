-- What a buffer holds after a take into its storage, and after bytes were passed.
use Rattle.std.proofs.Common.{◌≡◌, ℕ, ◌+◌, ◌-◌, ◌≤◌, List, ◌++◌, length, take, drop, slice_range, refl, sym, ap, ◌∙◌, arith}
use Rattle.std.proofs.lemmas.List.{append-nil, take_at, drop_at, take-append-le, drop-append-le, drop-take, drop-drop, length-take-le, length-drop}
use borrow.Rule.Slice.PartMut.{put_mid, post_of}
use lib.Seq.{take-add}

-- so many bytes of a take stand after what was held
pub taken_behind : (storage more : List ℕ) (start end k n : ℕ) → start ≤ end → end ≤ length storage → n ≤ length more
    → slice_range (put_mid end k storage more) start (end + n) ≡ slice_range storage start end ++ take n more
taken_behind storage more start end k n ordered within fits =
    let front = length-take-le end storage within in
    let held = drop start (take end storage) in
    let long : length held ≡ end - start = omega (arith, length-drop start (take end storage)) in
    let sum : end + n - start ≡ (end - start) + n = omega arith in
    let parts : end ≡ start + (end - start) = omega arith in
    let same : held ≡ take (end - start) (drop start storage) = ap (λ j. drop start (take j storage)) parts ∙ drop-take start (end - start) storage in
    let behind = more ++ post_of end k storage in
    ap (take (end + n - start)) (drop-append-le start (take end storage) behind (omega arith))
    ∙ ap (λ j. take j (held ++ behind)) sum ∙ take-add (end - start) n (held ++ behind)
    ∙ (rw (take_at held behind _ long, drop_at held behind _ long, take-append-le n more (post_of end k storage) fits, same) refl)

-- a take that moved none
pub kept_before : (storage more : List ℕ) (start end k : ℕ) → start ≤ end → end ≤ length storage
    → slice_range (put_mid end k storage more) start end ≡ slice_range storage start end
kept_before storage more start end k ordered within =
    let none : end ≡ end + 0 = omega arith in
    ap (slice_range (put_mid end k storage more) start) none ∙ taken_behind storage more start end k 0 ordered within (omega arith) ∙ append-nil _

pub passed : (storage : List ℕ) (start end count : ℕ) → start + count ≤ end
    → slice_range storage (start + count) end ≡ drop count (slice_range storage start end)
passed storage start end count inside =
    let parts : end - start ≡ count + (end - (start + count)) = omega arith in
    sym (ap (λ j. drop count (take j (drop start storage))) parts ∙ drop-take count _ (drop start storage)
    ∙ ap (take (end - (start + count))) (drop-drop count start storage))
