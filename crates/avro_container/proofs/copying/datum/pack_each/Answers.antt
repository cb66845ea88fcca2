-- Each datum is packed after those before it.
use Rattle.std.proofs.Common.{◌≡◌, ◌^◌, ◌<◌, List, ℕ, true, false, Err, length, drop, ap, sym, subst, ◌∙◌, refl, arith, rules, Fits, w64}
use Rattle.std.proofs.lemmas.List.{length-drop}
use Rattle.avro_container.specs.inside.BlockSeen.{reading_for}
use Rattle.avro_container.specs.inside.DataPacked.{PacksNext}
use Rattle.avro_file.proofs.public.Data.{datum_fails, datum_place}
use Rattle.avro_container.proofs.EmptyPacked.{packs_none}
use Rattle.avro_container.proofs.PackedData.{TakesOne, pack-next, pack-none, pack-over, takes-over, takes-within}
use Rattle.avro_container.proofs.copying.datum.pack_each.Goals as goal

pub loop-datum-init : goal.loop-datum-init
loop-datum-init c = (omega arith, omega arith, pack-none _ _ c.requires.none, c.requires.known)

pub loop-datum-preserved : goal.loop-datum-preserved
loop-datum-preserved c =
    let r = reading_for c.args.block.now in
    let before = c.loop-datum.packed.items in
    let after = c.pack_datum.new.packed.items in
    let yes : c.in-Ok.fits ≡ true = search rules in
    let takes = subst (λ (bytes : List ℕ). TakesOne r before after bytes c.in-Ok.fits c.in-Ok.len) c.split_at.ensures.back (c.in-Ok.ensures c.datum-limits.ensures).found in
    let within = takes-within r before after _ c.in-Ok.fits c.in-Ok.len yes takes in
    let found = within.0 in
    let fits = within.1 in
    let few : c.loop-datum.datum < c.args.count = search rules in
    let next = pack-next r c.args.count c.loop-datum.datum c.loop-datum.start c.in-Ok.len c.args.body.now before after few c.loop-datum.invariant.0
    c.loop-datum.invariant.2 found fits in (next.0, next.1, next.2, c.loop-datum.invariant.3)

pub loop-datum-preserved-in_ok-unit-in-Ok-2 : goal.loop-datum-preserved-in_ok-unit-in-Ok-2
loop-datum-preserved-in_ok-unit-in-Ok-2 c =
    let r = reading_for c.args.block.now in
    let body = c.args.body.now in
    let start = c.loop-datum.start in
    let before = c.loop-datum.packed.items in
    let after = c.pack_datum.new.packed.items in
    let yes : c.in-Ok.fits ≡ true = search rules in
    let takes = subst (λ (bytes : List ℕ). TakesOne r before after bytes c.in-Ok.fits c.in-Ok.len) c.split_at.ensures.back (c.in-Ok.ensures c.datum-limits.ensures).found in
    let within = takes-within r before after _ c.in-Ok.fits c.in-Ok.len yes takes in
    let found = within.0 in
    let fits = within.1 in
    let few : c.loop-datum.datum < c.args.count = search rules in
    let next = pack-next r c.args.count c.loop-datum.datum start c.in-Ok.len body before after few c.loop-datum.invariant.0 c.loop-datum.invariant.2 found fits in
    let kept : c.in_ok-unit-in-Ok.unit.items ≡ drop c.len-before.result after =
    c.in_ok-unit-in-Ok.ensures.items ∙ c.split_at-then-len-eq0.ensures.back ∙ ap (drop c.len-before.result) c.deref.ensures.value in (
      next.0,
      next.1,
      next.2,
      packs_none r (drop start body) before after _ c.in-Ok.len c.len-before.result found c.if-len-eq0.true (omega (arith, c.len-before.ensures)) kept,
    )

pub returns-then-not-fits-clause-refused : goal.returns-then-not-fits-clause-refused
returns-then-not-fits-clause-refused c = λ f is.
    let r = reading_for c.args.block.now in
    let before = c.loop-datum.packed.items in
    let after = c.pack_datum.new.packed.items in
    let no : c.in-Ok.fits ≡ false = search rules in
    let takes = subst (λ (bytes : List ℕ). TakesOne r before after bytes c.in-Ok.fits c.in-Ok.len) c.split_at.ensures.back (c.in-Ok.ensures c.datum-limits.ensures).found in
    let over = takes-over r before after _ c.in-Ok.fits c.in-Ok.len no takes in
    let few : c.loop-datum.datum < c.args.count = search rules in
    pack-over r c.args.block.now.number c.args.count c.loop-datum.datum c.loop-datum.start c.in-Ok.len c.args.body.now before over.0 f
    few c.loop-datum.invariant.2 over.1 refl over.2 is

pub datum_error-requires : goal.datum_error-requires
datum_error-requires c =
    let r = reading_for c.args.block.now in
    let body = c.args.body.now in
    let start = c.loop-datum.start in
    let refuses = subst (λ (bytes : List ℕ). PacksNext r c.loop-datum.packed.items c.pack_datum.new.packed.items bytes (Err c.in-Err.error))
    c.split_at.ensures.back (c.in-Err.ensures c.datum-limits.ensures) in
    let fits : Fits w64 (length body) = search rules in
    let small : length body < 2 ^ 64 = fits.fits in
    record {
      fits = datum_place _ r.nodes r.limits.datum r.resolve start (drop start body) c.in-Err.error refuses
          (omega (arith, small, c.loop-datum.invariant.0, length-drop start body));
    }

pub returns-in-Err-clause-refused : goal.returns-in-Err-clause-refused
returns-in-Err-clause-refused c = λ f is.
    let r = reading_for c.args.block.now in
    let refuses = subst (λ (bytes : List ℕ). PacksNext r c.loop-datum.packed.items c.pack_datum.new.packed.items bytes (Err c.in-Err.error))
    c.split_at.ensures.back (c.in-Err.ensures c.datum-limits.ensures) in
    let few : c.loop-datum.datum < c.args.count = search rules in
    datum_fails _ r c.args.block.now.number c.args.count c.loop-datum.datum c.loop-datum.start c.args.body.now c.loop-datum.invariant.2.made c.in-Err.error f
    few c.loop-datum.invariant.0 c.loop-datum.invariant.2.whole refuses (sym c.datum_error.ensures.fault ∙ is)
