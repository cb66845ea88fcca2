use Rattle.std.proofs.Common.{◌≡◌, ◌∙◌, ◌++◌, ◌∷◌, [], ap, codes, string_bytes}
use Rattle.std.proofs.lemmas.Result.{IfOk-weaker}
use Rattle.serde_json.specs.Data.{array, string, Members, member}
use Rattle.serde_json.specs.Written.{compact_text}
use Rattle.avro_compare.specs.FaultText.{kind_name}
use Rattle.avro_answer.specs.JsonAnswer.{fault_tree, missing_member, number_items}
use Rattle.avro_answer.specs.inside.JsonText.{named_path}
use Rattle.avro_answer.proofs.JsonMembers.{as_members, of_value, one_more, then_members, whole}
use Rattle.avro_answer.proofs.json_answers.fault_json.Goals as goal

pub returns : goal.returns
returns c =
    let empty = c.in_ok-object.object in
    let one = c.put_text.new.self in
    let two = c.put_missing.new.object in
    let three = c.put_numbers.new.self in
    let full = c.put_text-2.new.self in
    let fault = c.args.fault.now in
    let named = named_path c.args.place.now in
    let kind = string (kind_name fault.kind) in
    let steps = array (number_items fault.path.items) in
    IfOk-weaker c.json.result (λ json. string_bytes json ≡ string_bytes full.text ++ 125 ∷ []) (λ json. string_bytes json ≡ compact_text (fault_tree fault named))
    (λ json is. is ∙ whole empty full
    (λ (rest : Members). member (codes "kind") kind (missing_member fault.kind named.missing (member (codes "path") steps (member (codes "at") (string named.path) rest))))
    c.in_ok-object.ensures.0 c.in_ok-object.ensures.1
    (one_more empty three full (λ (rest : Members). member (codes "kind") kind (missing_member fault.kind named.missing (member (codes "path") steps rest)))
    (codes "at") (string named.path)
    (one_more empty two three (λ (rest : Members). member (codes "kind") kind (missing_member fault.kind named.missing rest)) (codes "path") steps
    (then_members empty one two (λ (rest : Members). member (codes "kind") kind rest) (missing_member fault.kind named.missing)
    (as_members empty one (codes "kind") kind
    (of_value empty one (codes "kind") (compact_text (string c.name.result.now)) (compact_text kind) (ap (λ t. compact_text (string t)) c.name.ensures)
    c.in_ok-put_text.ensures))
    (c.in_ok-put_missing.ensures c.in_ok-put_text.ensures.1))
    (of_value two three (codes "path") (compact_text (array (number_items c.deref.result.now))) (compact_text steps)
    (ap (λ ns. compact_text (array (number_items ns))) c.deref.ensures.value) c.in_ok-put_numbers.ensures))
    (of_value three full (codes "at") (compact_text (string c.deref-2.result.now)) (compact_text (string named.path))
    (ap (λ t. compact_text (string t)) c.deref-2.ensures) c.in_ok-put_text-2.ensures)))
    c.json.ensures
