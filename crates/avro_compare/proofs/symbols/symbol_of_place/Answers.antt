use Rattle.std.proofs.Common.{◌∙◌, ap, sym, subst, position, bytes_eq}
use Rattle.avro_schema.specs.Node.{node_at}
use Rattle.avro_schema.specs.SeenSchema.{schema_nodes}
use Rattle.avro_schema.proofs.public.Choices.{HasFewChoices-from_is_schema}
use Rattle.avro_compare.specs.Resolve.{enum_as}
use Rattle.avro_compare.specs.Pairs.{IsSymbol}
use Rattle.avro_compare.specs.inside.NameTables.{symbols_at}
use Rattle.avro_compare.proofs.Named.{few_choices}
use Rattle.avro_compare.proofs.symbols.symbol_of_place.Goals as goal

pub placed_symbol-requires : goal.placed_symbol-requires
placed_symbol-requires c =
    let word = c.args.symbol.now in
    let nodes = schema_nodes c.args.reader.now in
    record {
      below = few_choices (node_at nodes c.args.q.0) word c.args.index (HasFewChoices-from_is_schema nodes c.get.ensures.formed c.args.q.0) c.requires;
      index = c.requires ∙ ap (λ n. position (λ s. bytes_eq s word) (symbols_at n)) (sym c.get.ensures.node);
    }

pub returns : goal.returns
returns c = subst (λ n. IsSymbol (enum_as c.args.symbol.now n) c.placed_symbol.result) c.get.ensures.node c.placed_symbol.ensures
