use Rattle.std.proofs.Common.{◌≡◌, ◌∙◌, [], List, ℕ, Option, ap, subst, rules}
use Rattle.std.specs.Global.{Vec}
use Rattle.avro_schema.specs.Node.{FieldNode, node_at}
use Rattle.avro_schema.specs.SeenSchema.{schema_nodes}
use Rattle.avro_compare.specs.Resolve.{fields_at}
use Rattle.avro_compare.specs.inside.PartNumbers.{AreLists, aliases_at}
use Rattle.avro_compare.proofs.NumberedNames.{aliases_kept, grows_more, grows_none, lists_more, lists_none}
use Rattle.avro_compare.proofs.public.Planning.{holds_none, holds_push}
use Rattle.avro_compare.proofs.part_numbers.schema_aliases.Goals as goal

pub loop-index-init : goal.loop-index-init
loop-index-init c =
    let nodes = schema_nodes c.args.schema.now in
    let none : c.in_ok-all.all.items ≡ [] = search rules in (
      holds_none (λ k (ids : Vec (Option ℕ)). AreLists c.args.texts.now c.args.lists.now.items (aliases_at (fields_at (node_at nodes k))) ids.items) none,
      grows_none c.args.texts.now,
      lists_none c.args.lists.now.items,
    )

pub loop-index-preserved : goal.loop-index-preserved
loop-index-preserved c =
    let l = c.loop-index in
    let nodes = schema_nodes c.args.schema.now in
    let texts = c.field_aliases.new.texts in
    let lists = c.field_aliases.new.lists.items in
    let ids = c.in_ok-field_aliases.field-0 in
    let made = c.in_ok-field_aliases.ensures in
    let here = c.fields_of.ensures.seen ∙ ap (λ i. fields_at (node_at nodes i)) c.in_ok-index_number.ensures in (
      holds_push (λ k (v : Vec (Option ℕ)). AreLists texts lists (aliases_at (fields_at (node_at nodes k))) v.items) l.all.items c.push.new.self.items ids l.index c.in_ok-push.ensures.items
          (aliases_kept _ _ made.grows _ _ made.kept nodes l.all.items l.invariant.0.0, l.invariant.0.1)
          (subst (λ (fields : List FieldNode). AreLists texts lists (aliases_at fields) ids.items) here made.has),
      grows_more _ _ _ l.invariant.1 made.grows,
      lists_more _ _ _ l.invariant.2 made.kept,
    )

pub returns : goal.returns
returns c =
    let l = c.loop-index in
    record { has = l.invariant.0.0; grows = l.invariant.1; kept = l.invariant.2 }
