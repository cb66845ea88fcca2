use Rattle.std.proofs.Common.{◌≡◌, ◌+◌, ◌-◌, ◌∙◌, ap, sym, drop, length, refl, arith}
use Rattle.std.specs.Prelude.{slice_index_or}
use Rattle.std.proofs.Math.Seq.{drop-length}
use Rattle.avro_compare.specs.inside.Nearer.{field_in}
use Rattle.avro_compare.proofs.FirstNumber.{first_all, first_from, first_next, first_none}
use Rattle.avro_compare.proofs.part_finding.first_among.Goals as goal

pub loop-left-init : goal.loop-left-init
loop-left-init c =
    let list = c.args.list.now in (
      omega arith,
      λ numbers finds. sym (ap (λ xs. first_from 0 (length list) xs numbers) (drop-length list) ∙ first_none 0 (length list) numbers),
    )

pub loop-left-preserved : goal.loop-left-preserved
loop-left-preserved c =
    let l = c.loop-left in
    let list = c.args.list.now in
    let one : l.left ≡ l.left - 1 + 1 = omega (arith, c.loop-left-test.true) in (
      omega (arith, l.invariant.0),
      λ numbers finds.
          first_next list (l.left - 1) (slice_index_or list (l.left - 1) 0) numbers c.place.result l.found c.nearer-found.result
          (omega (arith, c.loop-left-test.true, l.invariant.0)) refl
          (l.invariant.1 numbers finds ∙ ap (λ n. first_from 0 n (drop n list) numbers) one)
          (c.place.ensures ∙ finds (slice_index_or list (l.left - 1) 0)) c.nearer-found.ensures,
    )

pub returns : goal.returns
returns c = λ numbers finds.
    let none : c.loop-left.left ≡ 0 = omega (arith, c.loop-left-test.false) in
    c.field_in.ensures
    ∙ ap field_in (c.loop-left.invariant.1 numbers finds ∙ ap (λ n. first_from 0 n (drop n c.args.list.now) numbers) none)
    ∙ first_all 0 c.args.list.now numbers
