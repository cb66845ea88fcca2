use Rattle.std.proofs.Common.{◌≡◌, ◌++◌, map, drop, string_bytes}
use Rattle.avro_schema.specs.Seen.{texts_of}
use Rattle.avro_canonical.specs.Form.{quoted, after_commas}
use Rattle.avro_canonical.proofs.spelling.put_symbols.Given as goal

abbrev pub invariant-loop-symbol : goal.invariant-loop-symbol
invariant-loop-symbol l =
    string_bytes l.out ++ after_commas (map quoted (texts_of (drop l.symbol-index l.others)))
    ≡ string_bytes l.initial.out ++ after_commas (map quoted (texts_of l.others))
