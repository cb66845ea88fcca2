use Rattle.avro_schema_json.proofs.Words.{sym, get, pair_cmp, LeadsTo}
use Rattle.std.specs.Ordering.{is_eq}
use Rattle.avro_schema_json.proofs.EachSeen.{put-all}
use Rattle.avro_schema_json.proofs.MarksSeen.{steps-stay}
use Rattle.avro_schema_json.proofs.KindsSeen.{same_pair}
use Rattle.avro_schema_json.proofs.defaults.steps.step.Goals as goal

pub returns-in-Some-clause-found : goal.returns-in-Some-clause-found
returns-in-Some-clause-found c = c.requires.steps c.args.label c.args.set _ (sym c.in-Some.ensures.value)

pub returns-clause-steps : goal.returns-clause-steps
returns-clause-steps c =
    let parents = c.args.parents.now in
    let kept = c.in_ok-number.ensures.kept in
    let row = c.in-Some-row_of.row.now.words in
    let sets = c.number_of.new.sets in
    let all = put-all (λ a b. is_eq (pair_cmp a b)) same_pair (λ q n. LeadsTo parents sets q.0 q.1 n) (get pair_cmp c.args.memo.now.steps) (get pair_cmp c.insert.new.self)
    (c.args.label, c.args.set) c.in_ok-number.number (λ q. c.in_ok-insert.ensures.updates.0 q)
    (λ q n h. steps-stay parents c.args.memo.now sets kept c.requires.steps q.0 q.1 n h)
    (row, c.parents_of_row-found.result.words, kept c.args.set row (sym c.in-Some-row_of.ensures), c.in_ok-number.ensures.found, c.parents_of_row-found.ensures) in
    λ label s n. all (label, s) n
