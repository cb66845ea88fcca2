use Rattle.std.proofs.Common.{◌∙◌, ◌++◌, ◌∷◌, [], List, ℕ, ap}
use Rattle.avro_answer.specs.JsonAnswer.{datum_members, verdict_members}
use Rattle.avro_answer.specs.inside.JsonText.{named_path}
use Rattle.avro_answer.specs.inside.VerdictTexts.{verdict_datum}
use Rattle.avro_answer.proofs.JsonMembers.{front_is}
use Rattle.avro_answer.proofs.json_answers.front_at.Goals as goal

pub returns : goal.returns
returns c = λ nodes.
    let verdict = c.args.verdict.now in
    let datum = verdict_datum nodes verdict in
    ap (λ (t : List ℕ). (t ++ datum) ++ (125 ∷ 10 ∷ [])) c.front.ensures
    ∙ front_is c.in_ok-answer.answer c.put_verdict.new.answer c.put_nodes.new.answer (verdict_members (named_path c.args.place.now) verdict) (datum_members nodes verdict) datum
    c.in_ok-answer.ensures.0 c.in_ok-answer.ensures.1 c.in_ok-put_verdict.ensures (c.in_ok-put_nodes.ensures nodes)
