use Rattle.std.proofs.Common.{◌++◌, [], ◌∷◌, subst, sym}
use Rattle.avro_binary.specs.Outputs.{Grows}
use Rattle.avro_packed.specs.Appended.{Output}
use Rattle.avro_packed.specs.inside.Outputs.{still_holds}
use Rattle.avro_packed.proofs.appending.Appending.closed.Goals as goal

pub returns-clause-holds : goal.returns-clause-holds
returns-clause-holds c = λ a b before behind.
    let block = c.in_ok-join.ensures.joined a b before behind in
    c.in_ok-join-2.ensures.joined (a ++ b) (0 ∷ [])
    (still_holds c.join.new.self.bytes c.number.new.self.bytes c.join.new.first (a ++ b) c.in_ok-end.ensures.kept.1 block) c.in_ok-end.ensures.holds

pub returns-clause-stays : goal.returns-clause-stays
returns-clause-stays c = λ front kept.
    let first = subst (λ (o : Output). Grows front o.bytes) (sym c.join.ensures.same) kept in
    subst (λ (o : Output). Grows front o.bytes) (sym c.join-2.ensures.same) (c.number.ensures.stays front first)
