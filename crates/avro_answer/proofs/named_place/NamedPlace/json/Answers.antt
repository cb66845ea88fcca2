use Rattle.std.proofs.Common.{◌≡◌, ◌∙◌, ◌++◌, ◌∷◌, [], ap, codes, string_bytes}
use Rattle.std.proofs.lemmas.Result.{IfOk-weaker}
use Rattle.serde_json.specs.Data.{number, string, unsigned, Members, member}
use Rattle.serde_json.specs.Written.{compact_text}
use Rattle.avro_answer.specs.inside.NamedTree.{named_place_tree}
use Rattle.avro_answer.proofs.JsonMembers.{as_members, of_value, one_more, whole}
use Rattle.avro_answer.proofs.named_place.NamedPlace.json.Goals as goal

pub returns : goal.returns
returns c =
    let empty = c.in_ok-place.place in
    let one = c.put_number.new.self in
    let two = c.put_text.new.self in
    let full = c.put_text-2.new.self in
    let named = c.args.self.now in
    let node = number (unsigned named.node) in
    let at = string (string_bytes named.at) in
    let kind = string (string_bytes named.type_text) in
    IfOk-weaker c.json.result (λ json. string_bytes json ≡ string_bytes full.text ++ 125 ∷ []) (λ json. string_bytes json ≡ compact_text (named_place_tree named))
    (λ json is. is ∙ whole empty full (λ (rest : Members). member (codes "node") node (member (codes "at") at (member (codes "type") kind rest)))
    c.in_ok-place.ensures.0 c.in_ok-place.ensures.1
    (one_more empty two full (λ (rest : Members). member (codes "node") node (member (codes "at") at rest)) (codes "type") kind
    (one_more empty one two (λ (rest : Members). member (codes "node") node rest) (codes "at") at
    (as_members empty one (codes "node") node
    (of_value empty one (codes "node") (compact_text (number (unsigned c.from.result))) (compact_text node) (ap (λ n. compact_text (number (unsigned n))) c.from.ensures)
    c.in_ok-put_number.ensures))
    (of_value one two (codes "at") (compact_text (string c.deref.result.now)) (compact_text at) (ap (λ t. compact_text (string t)) c.deref.ensures) c.in_ok-put_text.ensures))
    (of_value two full (codes "type") (compact_text (string c.deref-2.result.now)) (compact_text kind) (ap (λ t. compact_text (string t)) c.deref-2.ensures) c.in_ok-put_text-2.ensures)))
    c.json.ensures
