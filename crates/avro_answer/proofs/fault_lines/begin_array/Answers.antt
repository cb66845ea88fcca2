use Rattle.std.proofs.Common.{◌∙◌, ◌++◌, ◌∷◌, [], List, ℕ, false, ap, append_assoc, codes, string_bytes}
use Rattle.serde_json.specs.Data.{array, string, Members, member, no_members}
use Rattle.serde_json.specs.Written.{compact_text, items_text}
use Rattle.avro_answer.specs.JsonAnswer.{tree_items}
use Rattle.avro_answer.proofs.JsonMembers.{as_members, front_is, in_front}
use Rattle.avro_answer.proofs.fault_lines.begin_array.Goals as goal

pub returns : goal.returns
returns c = λ trees.
    let empty = c.in_ok-answer.answer in
    let one = c.put_text.new.self in
    let new = c.put_key.new.self in
    let no = string (codes "no") in
    let faults = array (tree_items trees) in
    let rest = items_text false (tree_items trees) in
    ap (λ (t : List ℕ). (t ++ rest) ++ (125 ∷ 10 ∷ [])) (c.in_ok-push_str.ensures.bytes ∙ ap (λ (t : List ℕ). t ++ (91 ∷ [])) c.front-text.ensures)
    ∙ ap (λ (t : List ℕ). t ++ (125 ∷ 10 ∷ [])) (append_assoc (string_bytes new.text) (91 ∷ []) rest)
    ∙ front_is empty one new (λ (more : Members). member (codes "verdict") no more) (member (codes "faults") faults no_members) (compact_text faults)
    c.in_ok-answer.ensures.0 c.in_ok-answer.ensures.1 (as_members empty one (codes "verdict") no c.in_ok-put_text.ensures)
    (in_front (string_bytes one.text) (string_bytes new.text) one.later (codes "faults") faults c.in_ok-put_key.ensures.0)
