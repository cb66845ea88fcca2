-- What is made of a datum without bytes is packed once more for each.
use Rattle.std.proofs.Common.{◌≡◌, ◌<◌, ◌≤◌, ◌++◌, length, take, subst, refl, arith, rules}
use Rattle.avro_container.specs.inside.BlockSeen.{reading_for}
use Rattle.avro_container.specs.inside.DataPacked.{PacksData}
use Rattle.avro_container.proofs.EmptyPacked.{pack-again, pack-again-over, pack-rest-none}
use Rattle.avro_container.proofs.copying.packing.pack_rest.Goals as goal

pub returns-then-is_empty-clause-found : goal.returns-then-is_empty-clause-found
returns-then-is_empty-clause-found c = λ front before.
    pack-rest-none (reading_for c.args.block.now) c.args.done c.args.count front c.args.packed.now.items c.in-Some.unit.items c.requires.few refl (search rules)
    before (rw c.in-Some.is at c.requires.known)

pub loop-datum-init : goal.loop-datum-init
loop-datum-init c = (c.requires.few, λ front before. before)

pub loop-datum-preserved : goal.loop-datum-preserved
loop-datum-preserved c =
    let r = reading_for c.args.block.now in
    let before = c.loop-datum.packed.items in
    let after = c.extend_from_slice.new.self.items in
    let unit = c.in-Some.unit.items in
    let is : after ≡ before ++ unit = search rules in
    let fits : length after ≤ r.limits.block = search rules in (
      omega (arith, c.loop-datum-test.true),
      λ front first. pack-again r c.loop-datum.datum front before unit after (c.loop-datum.invariant.1 front first) (rw c.in-Some.is at c.requires.known) is fits,
    )

pub returns-then-len-limit-clause-refused : goal.returns-then-len-limit-clause-refused
returns-then-len-limit-clause-refused c = λ body start first f told.
    let r = reading_for c.args.block.now in
    let before = c.loop-datum.packed.items in
    let after = c.extend_from_slice.new.self.items in
    let unit = c.in-Some.unit.items in
    let is : after ≡ before ++ unit = search rules in
    let over : r.limits.block < length after = search rules in
    pack-again-over r c.args.block.now.number c.args.count c.loop-datum.datum start body before unit after f
    (omega (arith, c.loop-datum-test.true)) (c.loop-datum.invariant.1 (take start body) first) (rw c.in-Some.is at c.requires.known) refl is over told
