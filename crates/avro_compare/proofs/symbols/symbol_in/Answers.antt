use Rattle.std.proofs.Common.{◌∙◌, ap, sym, subst, position, bytes_eq}
use Rattle.avro_schema.specs.Seen.{node_of, texts_of}
use Rattle.avro_compare.specs.Resolve.{enum_as, enum_or_default}
use Rattle.avro_compare.specs.Pairs.{IsSymbol}
use Rattle.avro_compare.proofs.symbols.symbol_in.Goals as goal

pub returns-in-Enum : goal.returns-in-Enum
returns-in-Enum c =
    subst (λ n. IsSymbol (enum_as c.args.symbol.now (node_of n)) c.or_default.result) (sym c.in-Enum.is)
    (subst (λ o. IsSymbol (enum_or_default o c.in-Enum.enumeration.default) c.or_default.result)
    (c.index_of.ensures.index ∙ ap (λ ss. position (λ s. bytes_eq s c.args.symbol.now) (texts_of ss)) c.deref.ensures.value) c.or_default.ensures)
