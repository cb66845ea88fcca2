use Rattle.avro_schema_json.proofs.Words.{◌%◌, List, sym, subst, arith, Option, Vec, Under, Places, has_parent, has_parent_at, has_parent_in}
use Rattle.avro_schema_json.proofs.RowsSeen.{bit-itself}
use Rattle.avro_schema_json.proofs.defaults.parents.put_parents_at.Goals as goal

pub returns-clause-added : goal.returns-clause-added
returns-clause-added c = λ p has.
    let place = c.args.place in
    let under = subst (λ (o : Option Under). has_parent_at o place p) (sym c.in-Some.ensures.value) has in
    let places = subst (λ (o : Option (Vec Places)). has_parent_in o (place % 64) p) (sym c.in-Some-get.ensures.value) under in
    c.put_parents_in.ensures.added (place % 64) p (bit-itself (place % 64) (omega arith)) (subst (λ (ps : List Places). has_parent ps (place % 64) p) (sym c.deref.ensures.value) places)
