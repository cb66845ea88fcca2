use Rattle.std.proofs.Common.{◌∙◌, Bool, List, length, sym, subst}
use Rattle.avro_schema.specs.SeenSchema.{schema_nodes}
use Rattle.avro_explain.specs.Places.{marked, AreFaults}
use Rattle.avro_explain.specs.inside.Walks.{IsWalk}
use Rattle.avro_explain.proofs.FaultyData.{compatible_none}
use Rattle.avro_explain.proofs.NothingFound.{all_none, none_compatible}
use Rattle.avro_explain.proofs.WalkSteps.{all_reached}
use Rattle.avro_explain.proofs.exploring.explain.Goals as goal

pub returns-clause-visited : goal.returns-clause-visited
returns-clause-visited c =
    let places = c.in_ok-walk.walk.places.items in
    let walk = subst (λ s. IsWalk (schema_nodes s.0) (schema_nodes s.1) (marked c.deref.result.now) (length places) (length places) places) c.in_ok-names.ensures c.in_ok-walk.ensures.walked in
    all_reached (schema_nodes c.args.writer.now) (schema_nodes c.args.reader.now) (marked c.in_ok-dead.dead.items) (length places) places
    (subst (λ (ms : List Bool). IsWalk (schema_nodes c.args.writer.now) (schema_nodes c.args.reader.now) (marked ms) (length places) (length places) places) c.deref.ensures.value walk)

pub returns-clause-placed : goal.returns-clause-placed
returns-clause-placed c =
    let places = c.in_ok-walk.walk.places.items in
    let walk = subst (λ s. IsWalk (schema_nodes s.0) (schema_nodes s.1) (marked c.deref.result.now) (length places) (length places) places) c.in_ok-names.ensures c.in_ok-walk.ensures.walked in
    walk.placed

pub returns-clause-compatible : goal.returns-clause-compatible
returns-clause-compatible c = λ none.
    let writer = schema_nodes c.args.writer.now in
    let reader = schema_nodes c.args.reader.now in
    let places = c.in_ok-walk.walk.places.items in
    let walk = subst (λ s. IsWalk (schema_nodes s.0) (schema_nodes s.1) (marked c.deref.result.now) (length places) (length places) places) c.in_ok-names.ensures c.in_ok-walk.ensures.walked in
    let faults = subst (λ s. AreFaults (schema_nodes s.0) (schema_nodes s.1) places c.in_ok-walk.walk.faults.items) c.in_ok-names.ensures c.in_ok-walk.ensures.faults in
    none_compatible writer reader (marked c.in_ok-dead.dead.items) places c.len.ensures.formed c.len-2.ensures.formed c.in_ok-dead.ensures
    (all_reached writer reader (marked c.in_ok-dead.dead.items) (length places) places
    (subst (λ (ms : List Bool). IsWalk writer reader (marked ms) (length places) (length places) places) c.deref.ensures.value walk))
    (sym none ∙ faults)

pub returns-clause-none : goal.returns-clause-none
returns-clause-none c = λ compatible.
    let writer = schema_nodes c.args.writer.now in
    let reader = schema_nodes c.args.reader.now in
    let places = c.in_ok-walk.walk.places.items in
    let walk = subst (λ s. IsWalk (schema_nodes s.0) (schema_nodes s.1) (marked c.deref.result.now) (length places) (length places) places) c.in_ok-names.ensures c.in_ok-walk.ensures.walked in
    let faults = subst (λ s. AreFaults (schema_nodes s.0) (schema_nodes s.1) places c.in_ok-walk.walk.faults.items) c.in_ok-names.ensures c.in_ok-walk.ensures.faults in
    let reached = all_reached writer reader (marked c.in_ok-dead.dead.items) (length places) places
    (subst (λ (ms : List Bool). IsWalk writer reader (marked ms) (length places) (length places) places) c.deref.ensures.value walk) in
    faults
    ∙ all_none writer reader 0 places
    (λ p among. compatible_none writer reader c.len.ensures.formed c.len-2.ensures.formed (marked c.in_ok-dead.dead.items) c.in_ok-dead.ensures compatible p (reached.no_other p among))
