use Rattle.std.proofs.Common.{◌≡◌, ◌++◌, map, drop}
use Rattle.avro_schema.specs.Seen.{texts_of}
use Rattle.avro_schema.proofs.naming.texts.Given as goal

abbrev pub invariant-loop-string : goal.invariant-loop-string
invariant-loop-string l = map (λ t. t.now) l.texts.items ++ texts_of (drop l.string-index l.strings) ≡ texts_of l.strings
