use Rattle.std.proofs.Common.{◌∙◌, ap, sym, subst, position, bytes_eq}
use Rattle.avro_schema.specs.Seen.{node_of}
use Rattle.avro_compare.specs.Resolve.{enum_as, enum_or_default}
use Rattle.avro_compare.specs.Pairs.{IsSymbol}
use Rattle.avro_compare.specs.inside.NameTables.{symbols_at}
use Rattle.avro_compare.proofs.symbols.placed_symbol.Goals as goal

pub returns-in-Enum : goal.returns-in-Enum
returns-in-Enum c =
    let word = c.args.«_symbol».now in
    subst (λ n. IsSymbol (enum_as word (node_of n)) c.or_default.result) (sym c.in-Enum.is)
    (subst (λ o. IsSymbol (enum_or_default o c.in-Enum.enumeration.default) c.or_default.result)
    (c.requires.index ∙ ap (λ n. position (λ s. bytes_eq s word) (symbols_at (node_of n))) c.in-Enum.is) c.or_default.ensures)
