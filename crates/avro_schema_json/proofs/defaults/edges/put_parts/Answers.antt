use Rattle.avro_schema_json.proofs.Words.{get_or, subst, ids_of, NodeId, place_of, has_parent_of}
use Rattle.avro_schema_json.proofs.EachSeen.{mapped-get, before-next}
use Rattle.avro_schema_json.proofs.ParentsSeen.{keeps-on, parts-all}
use Rattle.avro_schema_json.proofs.defaults.edges.put_parts.Goals as goal

pub loop-id-preserved : goal.loop-id-preserved
loop-id-preserved c =
    let l = c.loop-id in
    let ids = c.args.ids.now in
    let last = c.args.last in
    let label = c.args.label in
    let parent = c.args.parent in
    let new = c.put_parent.new.parents in
    let kept = c.in_ok-put_parent.ensures.kept in (
      keeps-on c.args.parents.now l.parents new l.invariant.0 kept,
      before-next (ids_of ids) l.id-index (get_or ids l.id-index _).0 (λ k y. has_parent_of l.parents (place_of last y) label parent)
          (λ k y. has_parent_of new (place_of last y) label parent) (mapped-get (λ (id : NodeId). id.0) ids l.id-index _ c.loop-id-test.true)
          (λ k y has. kept (place_of last y) label parent has)
          (subst (λ q. has_parent_of new q label parent) c.place_of-place.ensures c.in_ok-put_parent.ensures.added) l.invariant.1,
    )

pub returns-clause-added : goal.returns-clause-added
returns-clause-added c =
    parts-all c.args.last c.loop-id.id-index c.args.label c.args.parent c.args.ids.now c.loop-id.parents c.loop-id-test.false c.loop-id.invariant.1
