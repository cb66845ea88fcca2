-- What stands in a text stands in it for good.
use Rattle.std.proofs.Common.{◌≡◌, ℕ, List, [], ◌∷◌, sym, subst}
use Rattle.std.specs.Prelude.{String}
use Rattle.std.specs.declared.alloc.Global.{Global}
use Rattle.avro_schema.specs.Node.{Node, FieldNode}
use Rattle.avro_schema.specs.Value.{Value}
use Rattle.avro_schema.specs.declared.schema.Schema.{Schema}
use Rattle.serde_json.specs.Data.{Items, Members}
use Rattle.avro_binary.specs.Growing.{stands_still}
use Rattle.avro_binary.specs.Outputs.{Grows}
use Rattle.avro_binary.specs.declared.place.Place.{Place}
use Rattle.avro_show.specs.Spans.{AreFieldsAt, AreItemsAt, AreMembersAt, EntriesStandFor, FieldsStandFor, ItemsStandFor, StandsFor, StandsIn}
use Rattle.avro_show.specs.declared.spans.KeyedSpans.{KeyedSpans}
use Rattle.avro_show.specs.declared.spans.Span.{Span}
use Rattle.avro_show.specs.declared.spans.Spans.{Spans}

module _ (s t : List ℕ) (kept : Grows s t) where
  pub still_stands : (span : Span) (bytes : List ℕ) → StandsIn s span bytes → StandsIn t span bytes
  still_stands span bytes stand = stands_still s t span.start span.end bytes kept stand

  pub items_still : (spans : List Span) (ds : Items) → AreItemsAt s spans ds → AreItemsAt t spans ds
  items_still [] ds are = are
  items_still (x ∷ xs) ds (d, rest, is, stands, more) = (d, rest, is, still_stands x _ stands, items_still xs rest more)

  pub members_still : (spans : List (String Global × Span)) (ms : Members) → AreMembersAt s spans ms → AreMembersAt t spans ms
  members_still [] ms are = are
  members_still (x ∷ xs) ms (d, rest, is, stands, more) = (d, rest, is, still_stands x.1 _ stands, members_still xs rest more)

  pub fields_still : (nodes : List Node) (fs : List FieldNode) (spans : List Span) (vs : List Value) → AreFieldsAt nodes s fs spans vs → AreFieldsAt nodes t fs spans vs
  fields_still nodes fs [] vs are = are
  fields_still nodes (f ∷ fs) (x ∷ xs) (v ∷ vs) are = (still_stands x _ are.0, fields_still nodes fs xs vs are.1)
  fields_still nodes (f ∷ fs) (x ∷ xs) [] are = are
  fields_still nodes [] (x ∷ xs) vs are = are

module _ (a b : Schema) (s t : List ℕ) (nodes : List Node) where
  pub items_later : (id : ℕ) (at : Place) (items : Spans) (vs : List Value) → b ≡ a → Grows s t → ItemsStandFor a s nodes id at items vs → ItemsStandFor b t nodes id at items vs
  items_later id at items vs same kept stand =
      subst (λ (x : Schema). ItemsStandFor x t nodes id at items vs) (sym same) (λ of. ((stand of).0, items_still s t kept items.parts.items _ (stand of).1))

  pub entries_later : (id : ℕ) (at : Place) (entries : KeyedSpans) (es : List (List ℕ × Value)) → b ≡ a → Grows s t → EntriesStandFor a s nodes id at entries es → EntriesStandFor b t nodes id at entries es
  entries_later id at entries es same kept stand =
      subst (λ (x : Schema). EntriesStandFor x t nodes id at entries es) (sym same) (λ of. ((stand of).0, members_still s t kept entries.parts.entries _ (stand of).1))

  pub fields_later : (fs : List FieldNode) (at : Place) (fields : Spans) (vs : List Value) → b ≡ a → Grows s t → FieldsStandFor a s nodes fs at fields vs → FieldsStandFor b t nodes fs at fields vs
  fields_later fs at fields vs same kept stand =
      subst (λ (x : Schema). FieldsStandFor x t nodes fs at fields vs) (sym same) (λ is of. ((stand is of).0, fields_still s t kept nodes fs fields.parts.items vs (stand is of).1))

  pub stands_later : (n : Node) (at : Place) (span : Span) (v : Value) → b ≡ a → Grows s t → StandsFor a s nodes n at span v → StandsFor b t nodes n at span v
  stands_later n at span v same kept stand =
      subst (λ (x : Schema). StandsFor x t nodes n at span v) (sym same) (λ of. still_stands s t kept span _ (stand of))
