use Rattle.std.proofs.Common.{◌≡◌, ◌++◌, ◌∷◌, [], codes, string_bytes}
use Rattle.std.proofs.lemmas.Result.{IfOk-weaker}
use Rattle.serde_json.specs.Data.{number, string, unsigned, Members, member}
use Rattle.avro_answer.specs.JsonAnswer.{json_line, counts_tree}
use Rattle.avro_answer.proofs.JsonMembers.{as_members, one_more, line_is}
use Rattle.avro_answer.proofs.json_answers.counts_line.Goals as goal

pub returns : goal.returns
returns c =
    let empty = c.in_ok-answer.answer in
    let one = c.put_text.new.self in
    let two = c.put_number.new.self in
    let full = c.put_number-2.new.self in
    let file = string c.args.file.now in
    let items = number (unsigned c.args.items) in
    let blocks = number (unsigned c.args.blocks) in
    IfOk-weaker c.line.result (λ line. string_bytes line ≡ string_bytes full.text ++ 125 ∷ 10 ∷ [])
    (λ line. string_bytes line ≡ json_line (counts_tree c.args.file.now c.args.items c.args.blocks))
    (λ line. line_is empty full (λ (rest : Members). member (codes "file") file (member (codes "data") items (member (codes "blocks") blocks rest)))
    (string_bytes line) c.in_ok-answer.ensures.0 c.in_ok-answer.ensures.1
    (one_more empty two full (λ (rest : Members). member (codes "file") file (member (codes "data") items rest)) (codes "blocks") blocks
    (one_more empty one two (λ (rest : Members). member (codes "file") file rest) (codes "data") items
    (as_members empty one (codes "file") file c.in_ok-put_text.ensures) c.in_ok-put_number.ensures)
    c.in_ok-put_number-2.ensures))
    c.line.ensures
