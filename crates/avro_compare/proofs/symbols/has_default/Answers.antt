use Rattle.std.proofs.Common.{◌∙◌, ap, sym, not, bytes_eq}
use Rattle.std.specs.List.{list_any}
use Rattle.avro_schema.specs.Seen.{node_of, texts_of}
use Rattle.avro_compare.specs.Children.{lacks}
use Rattle.avro_compare.proofs.FirstLacking.{defaulted}
use Rattle.avro_compare.proofs.symbols.has_default.Goals as goal

pub returns-in-Enum : goal.returns-in-Enum
returns-in-Enum c = λ some symbol.
    let own = c.in-Enum.enumeration in
    ap (λ n. lacks (node_of n) symbol) c.in-Enum.is
    ∙ defaulted own.default (sym c.is_some.ensures ∙ some) (not (list_any (bytes_eq symbol) (texts_of own.symbols.items)))
