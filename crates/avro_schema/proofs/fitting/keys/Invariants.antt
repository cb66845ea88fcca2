use Rattle.std.proofs.Common.{◌≡◌, ◌++◌, map, drop}
use Rattle.avro_schema.specs.Seen.{entries_of}
use Rattle.avro_schema.specs.Value.{keys_of}
use Rattle.avro_schema.proofs.fitting.keys.Given as goal

abbrev pub invariant-loop-entry : goal.invariant-loop-entry
invariant-loop-entry l = map (λ key. key.now) l.keys.items ++ keys_of (entries_of (drop l.entry-index l.entries)) ≡ keys_of (entries_of l.entries)
