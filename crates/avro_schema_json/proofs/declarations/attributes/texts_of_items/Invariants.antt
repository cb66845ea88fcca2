use Rattle.avro_schema_json.proofs.Words.{◌≡◌, ◌++◌, drop, option_map, texts_of, items_view, texts_in}
use Rattle.avro_schema_json.proofs.declarations.attributes.texts_of_items.Given as goal

abbrev pub invariant-loop-item : goal.invariant-loop-item
invariant-loop-item l =
    texts_in (items_view l.items) ≡ option_map (λ more. texts_of l.texts.items ++ more) (texts_in (items_view (drop l.item-index l.items)))
