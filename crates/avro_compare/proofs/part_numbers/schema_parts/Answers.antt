use Rattle.std.proofs.Common.{◌≡◌, [], subst, rules}
use Rattle.avro_schema.specs.Node.{node_at}
use Rattle.avro_schema.specs.SeenSchema.{schema_nodes}
use Rattle.avro_compare.specs.inside.PartNumbers.{HasParts}
use Rattle.avro_compare.proofs.NumberedNames.{grows_more, grows_none, lists_more, lists_none, parts_kept}
use Rattle.avro_compare.proofs.public.Planning.{holds_none, holds_push}
use Rattle.avro_compare.proofs.part_numbers.schema_parts.Goals as goal

pub loop-index-init : goal.loop-index-init
loop-index-init c =
    let nodes = schema_nodes c.args.schema.now in
    let none : c.in_ok-all.all.items ≡ [] = search rules in (
      holds_none (λ k parts. HasParts c.args.texts.now c.args.for_fields.now.items c.args.for_symbols.now.items (node_at nodes k) parts) none,
      grows_none c.args.texts.now,
      lists_none c.args.for_fields.now.items,
      lists_none c.args.for_symbols.now.items,
    )

pub loop-index-preserved : goal.loop-index-preserved
loop-index-preserved c =
    let l = c.loop-index in
    let nodes = schema_nodes c.args.schema.now in
    let texts = c.list_parts.new.texts in
    let for_fields = c.list_parts.new.for_fields.items in
    let for_symbols = c.list_parts.new.for_symbols.items in
    let parts = c.in_ok-list_parts.field-0 in
    let made = c.in_ok-list_parts.ensures in (
      holds_push (λ k p. HasParts texts for_fields for_symbols (node_at nodes k) p) l.all.items c.push.new.self.items parts l.index c.in_ok-push.ensures.items
          (parts_kept _ _ made.grows _ _ made.fields _ _ made.symbols nodes l.all.items l.invariant.0.0, l.invariant.0.1)
          (subst (λ i. HasParts texts for_fields for_symbols (node_at nodes i) parts) c.in_ok-index_number.ensures made.has),
      grows_more _ _ _ l.invariant.1 made.grows,
      lists_more _ _ _ l.invariant.2 made.fields,
      lists_more _ _ _ l.invariant.3 made.symbols,
    )

pub returns : goal.returns
returns c =
    let l = c.loop-index in
    record { has = l.invariant.0.0; grows = l.invariant.1; fields = l.invariant.2; symbols = l.invariant.3 }
