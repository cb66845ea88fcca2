use Rattle.std.proofs.Common.{◌≡◌, ◌++◌, false, drop}
use Rattle.std.specs.Prelude.{string_bytes}
use Rattle.serde_json.specs.Written.{items_text}
use Rattle.avro_answer.specs.JsonAnswer.{number_items}
use Rattle.avro_answer.proofs.json_object.append_numbers.Given as goal

abbrev pub invariant-loop-number : goal.invariant-loop-number
invariant-loop-number l = string_bytes l.text ++ items_text l.later (number_items (drop l.number-index l.numbers)) ≡ string_bytes l.fn.text ++ items_text false (number_items l.numbers)
