use Rattle.avro_schema_json.proofs.Words.{sym, hash_map_updates_str}
use Rattle.avro_schema_json.proofs.ParentsSeen.{label-kept}
use Rattle.avro_schema_json.proofs.defaults.edges.put_label.Goals as goal

pub returns-clause-kept : goal.returns-clause-kept
returns-clause-kept c =
    label-kept c.args.labels.now c.insert.new.self c.args.word.now _ (sym c.in-None.ensures.value)
    (λ word. hash_map_updates_str c.args.word.now c.args.labels.now c.insert.new.self _ c.in_ok-insert.ensures.updates word)
