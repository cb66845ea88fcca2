use Rattle.std.proofs.Common.{◌∙◌}
use Rattle.avro_schema.specs.Node.{node_at}
use Rattle.avro_schema.specs.SeenSchema.{schema_nodes}
use Rattle.avro_compare.specs.Resolve.{symbol_at}
use Rattle.avro_compare.proofs.FirstLacking.{none_is}
use Rattle.avro_compare.proofs.public.Symbols.{lacks_is}
use Rattle.avro_compare.proofs.symbols.is_untaken.Goals as goal

pub returns : goal.returns
returns c =
    let w = node_at (schema_nodes c.args.names.now.0) c.args.w.0 in
    let q = node_at (schema_nodes c.args.names.now.1) c.args.r.0 in
    none_is c.symbol_kept.result c.is_none.result c.is_none.ensures ∙ lacks_is q (symbol_at w c.args.index) c.symbol_kept.result c.symbol_kept.ensures
