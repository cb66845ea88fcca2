use Rattle.std.proofs.lemmas.Result.{on_ok_weaker}
use Rattle.avro_schema.specs.Node.{root_of}
use Rattle.avro_schema.specs.Seen.{value_of}
use Rattle.avro_schema.specs.Value.{size as value_size}
use Rattle.avro_display.specs.DisplayTree.{display_tree}
use Rattle.avro_answer.proofs.JsonMembers.{nodes_then, size_fits}
use Rattle.avro_answer.proofs.json_answers.put_nodes.Goals as goal

pub returns-in_ok-put_number-in-Refuted : goal.returns-in_ok-put_number-in-Refuted
returns-in_ok-put_number-in-Refuted c = rw c.in-Refuted.is (
    let datum = value_of c.in-Refuted.found.datum in
    on_ok_weaker c.put_key.result (λ opened nodes. nodes_then c.args.answer.now c.put_number.new.self c.put_key.new.self c.size.result (value_size datum)
    (display_tree nodes (root_of nodes) datum) (size_fits c.args.verdict.now c.in-Refuted.found c.size.result c.in-Refuted.is c.requires.small c.size.ensures) c.in_ok-put_number-in-Refuted.ensures opened)
    c.put_key.ensures)
