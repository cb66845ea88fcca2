use Rattle.avro_schema_json.proofs.Words.{sym, arith, ids_of}
use Rattle.avro_schema_json.proofs.WalkSeen.{none-before, none-in, one-more}
use Rattle.avro_schema_json.proofs.defaults.walk.first_branch.Goals as goal

pub returns-in_default-clause-first : goal.returns-in_default-clause-first
returns-in_default-clause-first c = λ d known j id below at. absurd (omega (arith, below))

pub returns-in_default-row_of-clause-first : goal.returns-in_default-row_of-clause-first
returns-in_default-row_of-clause-first c = λ d known j id below at. absurd (omega (arith, below))

pub returns-in-Some-get-clause-first : goal.returns-in-Some-get-clause-first
returns-in-Some-get-clause-first c = λ d known.
    let ids = ids_of c.args.ids.now in
    none-before c.args.walk.now d c.args.mark c.in-Some.mark ids _ c.in-Some.is
    (λ row at. c.requires.firsts c.args.union.0 c.in-Some.mark.set _ ids row (sym c.in-Some-get.ensures.value) c.requires.branches at) known

pub returns-clause-first : goal.returns-clause-first
returns-clause-first c = λ d known.
    none-before c.args.walk.now d c.args.mark c.in-Some.mark (ids_of c.args.ids.now) _ c.in-Some.is
    (none-in c.args.walk.now c.in-Some.mark.set c.in-Some-row_of.row.now.words (ids_of c.args.ids.now) _ (sym c.in-Some-row_of.ensures) c.first_in-first.ensures) known

pub returns-clause-firsts : goal.returns-clause-firsts
returns-clause-firsts c =
    one-more c.args.walk.now c.args.firsts.now c.insert.new.self c.args.union.0 c.in-Some.mark.set c.first_in-first.result (ids_of c.args.ids.now) c.requires.firsts c.requires.branches
    (none-in c.args.walk.now c.in-Some.mark.set c.in-Some-row_of.row.now.words (ids_of c.args.ids.now) _ (sym c.in-Some-row_of.ensures) c.first_in-first.ensures)
    (λ q. c.in_ok-insert.ensures.updates.0 q)
