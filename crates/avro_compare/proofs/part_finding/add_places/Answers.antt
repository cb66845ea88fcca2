use Rattle.std.proofs.Common.{◌≡◌, ◌∙◌, ◌+◌, ◌-◌, ap, length, refl, arith}
use Rattle.std.specs.Prelude.{slice_index_or}
use Rattle.indexmap.specs.IndexMap.{get}
use Rattle.avro_compare.specs.inside.PartNumbers.{same_place}
use Rattle.avro_compare.proofs.PlacesFound.{found_all, found_from, found_next, found_none}
use Rattle.avro_compare.proofs.part_finding.add_places.Goals as goal

pub loop-left-init : goal.loop-left-init
loop-left-init c = (
  omega arith,
  λ key. found_none c.args.id c.args.list.now (length c.args.list.now) key (get same_place c.args.places.now key) refl,
)

pub loop-left-preserved : goal.loop-left-preserved
loop-left-preserved c =
    let l = c.loop-left in
    let list = c.args.list.now in
    let one : l.left ≡ l.left - 1 + 1 = omega (arith, c.loop-left-test.true) in (
      omega (arith, l.invariant.0),
      λ key.
          let start = get same_place c.args.places.now key in
          found_next c.args.id list (l.left - 1) (slice_index_or list (l.left - 1) 0) key start (get same_place l.places key) (get same_place c.insert.new.self key)
          (omega (arith, c.loop-left-test.true, l.invariant.0)) refl
          (l.invariant.1 key ∙ ap (λ n. found_from c.args.id list n key start) one) (c.in_ok-insert.ensures.updates.0 key),
    )

pub returns : goal.returns
returns c = λ key.
    found_all c.args.id c.args.list.now c.loop-left.left key (get same_place c.args.places.now key) (get same_place c.loop-left.places key)
    (omega (arith, c.loop-left-test.false)) (c.loop-left.invariant.1 key)
