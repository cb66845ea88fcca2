use Rattle.std.proofs.Common.{◌∙◌, ◌<◌, ℕ, suc, List, length, sym, subst, arith}
use Rattle.avro_schema.specs.SeenSchema.{schema_nodes}
use Rattle.avro_explain.specs.Places.{marked}
use Rattle.avro_explain.specs.inside.Walks.{IsWalk}
use Rattle.avro_compare.specs.Leads.{leads_at}
use Rattle.avro_explain.specs.declared.found.Place.{Place}
use Rattle.avro_explain.proofs.WalkSteps.{walk_start, walk_visit, one_more, searched_more, too_many, extended, findings_more, get_there}
use Rattle.avro_explain.proofs.exploring.explore.Goals as goal

pub returns-then-len-max_pairs-clause-above : goal.returns-then-len-max_pairs-clause-above
returns-then-len-max_pairs-clause-above c = λ e.
    let writer = schema_nodes c.args.names.now.0 in
    let reader = schema_nodes c.args.names.now.1 in
    let dead = marked c.args.dead.now in
    too_many writer reader dead 0 0 c.args.max_pairs c.in_ok-walk.walk.places.items
    (subst (λ (ps : List Place). IsWalk writer reader dead 0 0 ps) (sym c.in_ok-walk.ensures.places) (walk_start writer reader dead))
    (omega (arith, c.if-len-max_pairs.true, c.len.ensures))

pub loop-next-init : goal.loop-next-init
loop-next-init c =
    let writer = schema_nodes c.args.names.now.0 in
    let reader = schema_nodes c.args.names.now.1 in
    let dead = marked c.args.dead.now in (
      c.in_ok-walk.ensures.keys,
      omega (arith, c.if-len-max_pairs.false, c.len.ensures),
      subst (λ (ps : List Place). IsWalk writer reader dead 0 0 ps) (sym c.in_ok-walk.ensures.places) (walk_start writer reader dead),
      c.in_ok-walk.ensures.faults,
      c.in_ok-walk.ensures.places,
    )

pub returns-then-len-max_pairs-2-clause-above : goal.returns-then-len-max_pairs-2-clause-above
returns-then-len-max_pairs-2-clause-above c = λ e.
    let writer = schema_nodes c.args.names.now.0 in
    let reader = schema_nodes c.args.names.now.1 in
    let dead = marked c.args.dead.now in
    let next : ℕ = c.loop-next.next in
    let places : List Place = c.loop-next.walk.places.items in
    let within : next < length places = omega (arith, c.loop-next-test.true, c.len-in-loop-next.ensures) in
    let here = get_there places next within in
    let visited = c.in_ok-visit.ensures.visited here.0 here.1 in
    too_many writer reader dead (suc next) (suc next) c.args.max_pairs c.visit.new.walk.places.items
    (subst (λ (ps : List Place). IsWalk writer reader dead (suc next) (suc next) ps) (sym visited.0)
    (walk_visit writer reader dead next here.0 places c.loop-next.invariant.2 here.1))
    (omega (arith, c.if-len-max_pairs-2.true, c.len-in-loop-next-2.ensures))

pub loop-next-preserved : goal.loop-next-preserved
loop-next-preserved c =
    let writer = schema_nodes c.args.names.now.0 in
    let reader = schema_nodes c.args.names.now.1 in
    let dead = marked c.args.dead.now in
    let next : ℕ = c.loop-next.next in
    let places : List Place = c.loop-next.walk.places.items in
    let new : List Place = c.visit.new.walk.places.items in
    let within : next < length places = omega (arith, c.loop-next-test.true, c.len-in-loop-next.ensures) in
    let here = get_there places next within in
    let visited = c.in_ok-visit.ensures.visited here.0 here.1 in
    let more = extended writer reader dead next here.0 places (leads_at writer reader here.0.w.0 here.0.r.0) in (
      c.in_ok-visit.ensures.keys,
      omega (arith, c.if-len-max_pairs-2.false, c.len-in-loop-next-2.ensures),
      subst (λ (n : ℕ). IsWalk writer reader dead n n new) (one_more next)
          (subst (λ (ps : List Place). IsWalk writer reader dead (suc next) (suc next) ps) (sym visited.0)
          (walk_visit writer reader dead next here.0 places c.loop-next.invariant.2 here.1)),
      findings_more writer reader places new more.0 next here.0 c.loop-next.walk.faults.items c.visit.new.walk.faults.items (visited.0 ∙ more.1) here.1
          c.loop-next.invariant.3 visited.1,
      searched_more writer reader dead next places new here.0 c.loop-next.invariant.4 here.1 visited.0,
    )
