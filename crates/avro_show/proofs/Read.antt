-- What stands for a datum that was read whole.
use Rattle.std.proofs.Common.{◌≡◌, ℕ, List, ap, refl, subst}
use Rattle.avro_schema.specs.Node.{Node, node_at}
use Rattle.avro_schema.specs.SeenSchema.{schema_nodes}
use Rattle.avro_schema.specs.Value.{Value}
use Rattle.avro_schema.specs.declared.schema.Schema.{Schema}
use Rattle.avro_binary.specs.Places.{alone}
use Rattle.avro_binary.specs.declared.place.Place.{Place}
use Rattle.avro_display.specs.DisplayTree.{display_text}
use Rattle.avro_show.specs.Spans.{StandsFor, StandsIn}
use Rattle.avro_show.specs.declared.spans.Span.{Span}

-- what stands for a datum of a node that is in no union is its display, by the schema that the maker keeps
pub whole_stands : (t kept : Schema) (text : List ℕ) (nodes : List Node) (id : ℕ) (at : Place) (span : Span) (v : Value) → kept ≡ t → nodes ≡ schema_nodes t → at ≡ alone id
    → StandsFor kept text nodes (node_at nodes id) at span v → StandsIn text span (display_text (schema_nodes t) (node_at (schema_nodes t) id) v)
whole_stands t kept text nodes id at span v same are placed stands =
    let here = subst (λ (x : Schema). StandsFor x text nodes (node_at nodes id) (alone id) span v) same (subst (λ (p : Place). StandsFor kept text nodes (node_at nodes id) p span v) placed stands) in
    here (are, ap (λ (ns : List Node). node_at ns id) are, λ e. refl)
