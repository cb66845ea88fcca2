use Rattle.std.proofs.Common.{◌≡◌, ◌++◌, ◌∷◌, [], codes, string_bytes}
use Rattle.std.proofs.lemmas.Result.{IfOk-weaker}
use Rattle.serde_json.specs.Data.{boolean, Members, member}
use Rattle.avro_answer.specs.JsonAnswer.{json_line, confirmed_tree}
use Rattle.avro_answer.proofs.JsonMembers.{as_members, line_is}
use Rattle.avro_answer.proofs.json_answers.confirmed_line.Goals as goal

pub returns : goal.returns
returns c =
    let empty = c.in_ok-answer.answer in
    let full = c.put_bool.new.self in
    let yes = boolean c.args.is_confirmed in
    IfOk-weaker c.line.result (λ line. string_bytes line ≡ string_bytes full.text ++ 125 ∷ 10 ∷ []) (λ line. string_bytes line ≡ json_line (confirmed_tree c.args.is_confirmed))
    (λ line. line_is empty full (λ (rest : Members). member (codes "confirmed") yes rest) (string_bytes line) c.in_ok-answer.ensures.0 c.in_ok-answer.ensures.1
    (as_members empty full (codes "confirmed") yes c.in_ok-put_bool.ensures)) c.line.ensures
