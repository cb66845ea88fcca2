use Rattle.avro_schema_json.proofs.Words.{◌≡◌, ◌++◌, drop, filter_map, is_some, list_all, name_of, texts_of}
use Rattle.avro_schema_json.proofs.declarations.attributes.full_names.Given as goal

abbrev pub invariant-loop-text : goal.invariant-loop-text
invariant-loop-text l =
    (filter_map (λ text. name_of text l.namespace) (texts_of l.texts)
    ≡ l.names.items ++ filter_map (λ text. name_of text l.namespace) (texts_of (drop l.text-index l.texts)))
    × (list_all (λ text. is_some (name_of text l.namespace)) (texts_of l.texts)
    ≡ list_all (λ text. is_some (name_of text l.namespace)) (texts_of (drop l.text-index l.texts)))
