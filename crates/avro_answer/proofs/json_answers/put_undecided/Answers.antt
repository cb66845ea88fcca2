use Rattle.std.proofs.Common.{ap, codes}
use Rattle.std.proofs.lemmas.Result.{on_ok_weaker}
use Rattle.serde_json.specs.Data.{string, Members, member}
use Rattle.serde_json.specs.Written.{compact_text}
use Rattle.avro_answer.specs.Texts.{cause_text}
use Rattle.avro_answer.proofs.JsonMembers.{as_members, of_value, one_more}
use Rattle.avro_answer.proofs.json_answers.put_undecided.Goals as goal

pub returns : goal.returns
returns c =
    let old = c.args.answer.now in
    let one = c.put_text.new.self in
    let new = c.put_text-2.new.self in
    let word = string (codes "undecided") in
    let cause = string (cause_text c.args.cause) in
    on_ok_weaker c.put_text-2.result (λ put. one_more old one new (λ (rest : Members). member (codes "verdict") word rest) (codes "cause") cause
    (as_members old one (codes "verdict") word c.in_ok-put_text.ensures)
    (of_value one new (codes "cause") (compact_text (string c.cause_word.result.now)) (compact_text cause) (ap (λ t. compact_text (string t)) c.cause_word.ensures) put))
    c.put_text-2.ensures
