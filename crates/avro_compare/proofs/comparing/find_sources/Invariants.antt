use Rattle.std.proofs.Common.{◌≡◌, length, Some, slice_get}
use Rattle.avro_schema.specs.Node.{FieldNode, node_at}
use Rattle.avro_schema.specs.Seen.{seen_fields}
use Rattle.avro_schema.specs.SeenSchema.{schema_nodes}
use Rattle.avro_compare.specs.Resolve.{fields_at}
use Rattle.avro_compare.specs.Source.{source_of}
use Rattle.avro_compare.proofs.public.Planning.{Holds}
use Rattle.avro_compare.proofs.comparing.find_sources.Given as goal

abbrev pub invariant-loop-index : goal.invariant-loop-index
invariant-loop-index l =
    Holds (λ k s. (f : FieldNode) → slice_get (seen_fields l.reads) k ≡ Some f → s ≡ source_of (fields_at (node_at (schema_nodes l.names.0) l.w.0)) f) l.found.items
    × (length l.found.items ≡ l.index)
