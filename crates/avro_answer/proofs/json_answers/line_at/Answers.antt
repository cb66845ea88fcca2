use Rattle.std.proofs.Common.{◌≡◌, ◌++◌, ◌∷◌, [], codes, string_bytes}
use Rattle.std.proofs.lemmas.Result.{IfOk-weaker}
use Rattle.std.specs.Prelude.{option_copied}
use Rattle.serde_json.specs.Data.{string, Members, member}
use Rattle.avro_answer.specs.JsonAnswer.{json_line, history_tree, mode_member, verdict_members}
use Rattle.avro_answer.specs.inside.JsonText.{named_path}
use Rattle.avro_answer.proofs.JsonMembers.{as_members, then_members, line_is}
use Rattle.avro_answer.proofs.json_answers.line_at.Goals as goal

pub returns : goal.returns
returns c =
    let empty = c.in_ok-answer.answer in
    let one = c.put_text.new.self in
    let two = c.put_mode.new.answer in
    let full = c.put_verdict.new.answer in
    let file = string c.args.file.now in
    let mode = option_copied c.args.mode in
    let named = named_path c.args.place.now in
    let verdict = c.args.verdict.now in
    IfOk-weaker c.line.result (λ line. string_bytes line ≡ string_bytes full.text ++ 125 ∷ 10 ∷ [])
    (λ line. string_bytes line ≡ json_line (history_tree c.args.file.now mode named verdict))
    (λ line. line_is empty full (λ (rest : Members). member (codes "file") file (mode_member mode (verdict_members named verdict rest)))
    (string_bytes line) c.in_ok-answer.ensures.0 c.in_ok-answer.ensures.1
    (then_members empty two full (λ (rest : Members). member (codes "file") file (mode_member mode rest)) (verdict_members named verdict)
    (then_members empty one two (λ (rest : Members). member (codes "file") file rest) (mode_member mode)
    (as_members empty one (codes "file") file c.in_ok-put_text.ensures) (c.in_ok-put_mode.ensures c.in_ok-put_text.ensures.1))
    c.in_ok-put_verdict.ensures))
    c.line.ensures
