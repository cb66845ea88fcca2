use Rattle.std.proofs.Common.{◌∙◌, ap, sym}
use Rattle.avro_schema.specs.Node.{node_at}
use Rattle.avro_schema.specs.SeenSchema.{schema_nodes}
use Rattle.avro_compare.specs.Children.{lacks}
use Rattle.avro_compare.proofs.FirstLacking.{none_lacking}
use Rattle.avro_compare.proofs.symbols.find_lacking.Goals as goal

pub returns-then-has_default : goal.returns-then-has_default
returns-then-has_default c =
    let w = node_at (schema_nodes c.args.names.now.0) c.args.w.0 in
    let q = node_at (schema_nodes c.args.names.now.1) c.args.r.0 in
    let node = c.get.ensures.node ∙ ap (λ s. node_at (schema_nodes s) c.args.r.0) c.reader.ensures in
    sym (none_lacking w q (λ symbol. ap (λ n. lacks n symbol) (sym node) ∙ c.has_default.ensures c.if-has_default.true symbol))
