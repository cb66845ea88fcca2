use Rattle.std.proofs.Common.{◌≡◌, ◌∙◌, [], Option, List, ℕ, ap, sym, subst, rules}
use Rattle.std.specs.Prelude.{option_map, unwrap_or}
use Rattle.avro_schema.specs.Node.{FieldNode}
use Rattle.avro_schema.specs.Seen.{seen_fields, texts_of}
use Rattle.avro_compare.specs.inside.PartNumbers.{HasOwn, aliases_at}
use Rattle.avro_compare.proofs.NumberedNames.{grows_more, grows_none, lists_kept, lists_more, lists_none}
use Rattle.avro_compare.proofs.public.Lists.{seen_at}
use Rattle.avro_compare.proofs.public.Planning.{holds_none, holds_push}
use Rattle.avro_compare.proofs.part_numbers.field_aliases.Goals as goal

pub loop-index-init : goal.loop-index-init
loop-index-init c =
    let fields = seen_fields c.args.fields.now in
    let none : c.in_ok-ids.ids.items ≡ [] = search rules in (
      holds_none (λ k id. HasOwn c.args.texts.now c.args.lists.now.items id (aliases_at fields k)) none,
      grows_none c.args.texts.now,
      lists_none c.args.lists.now.items,
    )

pub loop-index-preserved : goal.loop-index-preserved
loop-index-preserved c =
    let l = c.loop-index in
    let fields = c.args.fields.now in
    let field = c.index-fields-index.result in
    let texts = c.list_texts.new.texts in
    let lists = c.list_texts.new.lists.items in
    let id = c.in_ok-list_texts.field-0 in
    let made = c.in_ok-list_texts.ensures in
    let there : aliases_at (seen_fields fields) l.index ≡ texts_of field.aliases.items =
    ap (λ (o : Option FieldNode). unwrap_or (option_map (λ (f : FieldNode). f.aliases) o) []) (seen_at fields l.index field c.loop-index-test.true c.index-fields-index.is) in (
      holds_push (λ k i. HasOwn texts lists i (aliases_at (seen_fields fields) k)) l.ids.items c.push.new.self.items id l.index c.in_ok-push.ensures.items
          (lists_kept _ _ made.grows _ _ made.kept (aliases_at (seen_fields fields)) l.ids.items l.invariant.0.0, l.invariant.0.1)
          (subst (λ (names : List (List ℕ)). HasOwn texts lists id names) (ap texts_of (c.deref.ensures.value ∙ ap (λ f. f.aliases.items) (sym c.index-fields-index.is)) ∙ sym there) made.has),
      grows_more _ _ _ l.invariant.1 made.grows,
      lists_more _ _ _ l.invariant.2 made.kept,
    )

pub returns : goal.returns
returns c =
    let l = c.loop-index in
    record { has = l.invariant.0.0; grows = l.invariant.1; kept = l.invariant.2 }
