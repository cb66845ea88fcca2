use Rattle.std.proofs.Common.{◌∙◌, ◌==◌, None, cond, length, ap, refl, arith}
use Rattle.std.proofs.lemmas.Option.{slice_get_read}
use Rattle.std.specs.Map.{lookup}
use Rattle.indexmap.specs.IndexMap.{get}
use Rattle.avro_compare.specs.Source.{or_else}
use Rattle.avro_compare.specs.inside.PartNumbers.{first_of, same_place}
use Rattle.avro_compare.proofs.PlacesFound.{found_end, found_more, found_start}
use Rattle.avro_compare.proofs.part_finding.places_of.Goals as goal

pub loop-index-init : goal.loop-index-init
loop-index-init c = found_start c.with_hasher-places.result c.args.lists.now (λ key. ap (λ es. lookup (same_place key) es) c.with_hasher-places.ensures.empty)

pub loop-index-preserved : goal.loop-index-preserved
loop-index-preserved c =
    let l = c.loop-index in
    let lists = c.args.lists.now in
    let list = c.index-lists-index.result in
    found_more l.places c.add_places.new.places lists l.index list
    (slice_get_read lists (length lists) l.index list refl c.loop-index-test.true c.index-lists-index.is)
    (λ key.
    c.in_ok-add_places.ensures key
    ∙ ap (λ i. or_else (cond (i == key.list) (first_of c.deref.result.now key.number) None) (get same_place l.places key)) c.in_ok-id.ensures
    ∙ ap (λ numbers. or_else (cond (l.index == key.list) (first_of numbers key.number) None) (get same_place l.places key)) c.deref.ensures.value) l.invariant

pub returns : goal.returns
returns c =
    found_end c.loop-index.places c.args.lists.now c.loop-index.index (omega (arith, c.loop-index-test.false)) c.loop-index.invariant
