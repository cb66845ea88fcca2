use Rattle.std.proofs.Common.{ℕ, List, subst}
use Rattle.avro_schema.specs.Node.{FieldNode}
use Rattle.avro_compare.specs.inside.PartNumbers.{HasOwn, names_of}
use Rattle.avro_compare.proofs.NumberedNames.{grows_more, own_kept, lists_none}
use Rattle.avro_compare.proofs.part_numbers.list_parts.Goals as goal

pub returns-clause-has : goal.returns-clause-has
returns-clause-has c =
    let texts = c.list_texts.new.texts in
    let for_fields = c.list_fields.new.lists.items in
    let for_symbols = c.list_texts.new.lists.items in (
      subst (λ (fields : List FieldNode). HasOwn texts for_fields c.in_ok-fields.fields (names_of fields)) c.fields_of.ensures.seen
          (own_kept _ _ c.in_ok-symbols.ensures.grows _ _ (lists_none for_fields) c.in_ok-fields.fields _ c.in_ok-fields.ensures.has),
      subst (λ (names : List (List ℕ)). HasOwn texts for_symbols c.in_ok-symbols.symbols names) c.symbols_of.ensures c.in_ok-symbols.ensures.has,
    )

pub returns-clause-grows : goal.returns-clause-grows
returns-clause-grows c = grows_more _ _ _ c.in_ok-fields.ensures.grows c.in_ok-symbols.ensures.grows
