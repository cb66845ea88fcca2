use Rattle.std.proofs.Common.{◌≡◌, ◌∙◌, ◌++◌, ◌∷◌, [], ap, codes, string_bytes}
use Rattle.std.proofs.lemmas.Result.{IfOk-weaker}
use Rattle.serde_json.specs.Data.{string, Members, member}
use Rattle.serde_json.specs.Written.{compact_text}
use Rattle.avro_answer.specs.FaultLine.{fault_word}
use Rattle.avro_answer.specs.JsonAnswer.{detail_member}
use Rattle.avro_answer.specs.inside.NamedLine.{missing_name, named_tree}
use Rattle.avro_answer.specs.inside.NamedTree.{named_place_tree}
use Rattle.avro_answer.proofs.JsonMembers.{as_members, of_value, one_more, then_members, whole}
use Rattle.avro_answer.proofs.named_fault.NamedFault.json.Goals as goal

pub returns : goal.returns
returns c =
    let empty = c.in_ok-fault.fault in
    let one = c.put_text.new.self in
    let two = c.put_name.new.fault in
    let three = c.put_json.new.self in
    let full = c.put_json-2.new.self in
    let named = c.args.self.now in
    let word = string (fault_word named.detail) in
    let missing = detail_member named.detail (missing_name named) in
    let writer = named_place_tree named.writer in
    let reader = named_place_tree named.reader in
    IfOk-weaker c.json-3.result (λ json. string_bytes json ≡ string_bytes full.text ++ 125 ∷ []) (λ json. string_bytes json ≡ compact_text (named_tree named))
    (λ json is. is ∙ whole empty full (λ (rest : Members). member (codes "fault") word (missing (member (codes "writer") writer (member (codes "reader") reader rest))))
    c.in_ok-fault.ensures.0 c.in_ok-fault.ensures.1
    (one_more empty three full (λ (rest : Members). member (codes "fault") word (missing (member (codes "writer") writer rest))) (codes "reader") reader
    (one_more empty two three (λ (rest : Members). member (codes "fault") word (missing rest)) (codes "writer") writer
    (then_members empty one two (λ (rest : Members). member (codes "fault") word rest) missing
    (as_members empty one (codes "fault") word
    (of_value empty one (codes "fault") (compact_text (string c.kind_word.result.now)) (compact_text word) (ap (λ t. compact_text (string t)) c.kind_word.ensures)
    c.in_ok-put_text.ensures))
    (c.in_ok-put_name.ensures c.in_ok-put_text.ensures.1))
    (of_value two three (codes "writer") c.deref.result.now (compact_text writer) (c.deref.ensures ∙ c.in_ok-writer.ensures) c.in_ok-put_json.ensures))
    (of_value three full (codes "reader") c.deref-2.result.now (compact_text reader) (c.deref-2.ensures ∙ c.in_ok-reader.ensures) c.in_ok-put_json-2.ensures)))
    c.json-3.ensures
