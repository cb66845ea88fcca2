use Rattle.avro_schema_json.proofs.Words.{◌≡◌, List, ℕ, subst, Some, LeadsTo, KeepsEither, Row}
use Rattle.avro_schema_json.specs.inside.Sets.{row_at}
use Rattle.avro_schema_json.proofs.MarksSeen.{either-covered, leads-on}
use Rattle.avro_schema_json.proofs.defaults.marks.keep_parents.Goals as goal

pub returns-clause-row : goal.returns-clause-row
returns-clause-row c = λ nodes d e are part set covers.
    let tables = c.args.tables.now in
    let mid = c.step.new.memo.sets in
    let after = c.step-2.new.memo.sets in
    let new = c.keep_either.new.row.words in
    let here : LeadsTo tables.parents mid c.args.label c.args.set c.in-Some.under = rw c.in-Some.is at c.in_ok-under.ensures.found in
    let maps : LeadsTo tables.parents after 1 c.args.set c.in-Some-2.maps = rw c.in-Some-2.is at c.in_ok-maps.ensures.found in
    either-covered nodes tables d e c.args.label c.args.set c.in-Some.under c.in-Some-2.maps c.args.memo.now.sets after c.args.row.now.value.words new are part set
    (λ n row at. c.in_ok-maps.ensures.kept n row (c.in_ok-under.ensures.kept n row at))
    (leads-on tables.parents mid after c.args.label c.args.set c.in-Some.under c.in_ok-maps.ensures.kept here) maps
    (subst (λ (r : Row). (first second : List ℕ) → row_at after c.in-Some.under ≡ Some first → row_at after c.in-Some-2.maps ≡ Some second → KeepsEither r.words first second new)
    c.deref_mut.ensures.value c.keep_either.ensures) covers
