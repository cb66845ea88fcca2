use Rattle.avro_schema_json.proofs.Words.{List, sym, subst, rules, Places, has_parent}
use Rattle.avro_schema_json.proofs.RowsSeen.{no-bit}
use Rattle.avro_schema_json.proofs.ParentsSeen.{follows-none, gathered-none, gathered-next, gathered-all}
use Rattle.avro_schema_json.proofs.defaults.parents.parents_of_row.Goals as goal

pub returns-in_default : goal.returns-in_default
returns-in_default c = follows-none c.args.parents.now c.args.label c.args.row.now.words _ (sym c.in_default.ensures.value)

pub loop-word-init : goal.loop-word-init
loop-word-init c =
    gathered-none c.args.parents.now c.args.label c.in-Some.under.now c.into_iter-word-iterator.result c.args.row.now.words _ (sym c.in-Some.ensures.value) (search rules)

pub loop-word-preserved-then-among-ne0 : goal.loop-word-preserved-then-among-ne0
loop-word-preserved-then-among-ne0 c =
    gathered-next c.args.parents.now c.args.label c.loop-word.word-iterator c.next.new.self c.in-Some-2.word.now c.word_of-among.result c.in-Some-2.places.now c.args.row.now.words c.loop-word.found.words
    c.put_parents_in.new.row.words c.in-Some-2.ensures.steps c.put_parents_in.ensures.kept c.word_of-among.ensures
    (λ i p bit has. c.put_parents_in.ensures.added i p bit (subst (λ (ps : List Places). has_parent ps i p) (sym c.deref.ensures.value) has)) c.loop-word.invariant

pub loop-word-preserved : goal.loop-word-preserved
loop-word-preserved c =
    gathered-next c.args.parents.now c.args.label c.loop-word.word-iterator c.next.new.self c.in-Some-2.word.now c.word_of-among.result c.in-Some-2.places.now c.args.row.now.words c.loop-word.found.words
    c.loop-word.found.words c.in-Some-2.ensures.steps (λ p h. h) c.word_of-among.ensures (λ i p bit has. absurd (no-bit i _ c.if-among-ne0.false bit)) c.loop-word.invariant

pub returns : goal.returns
returns c =
    gathered-all c.args.parents.now c.args.label c.loop-word.word-iterator c.args.row.now.words c.loop-word.found.words c.in-None.ensures.steps.0 c.loop-word.invariant
