use Rattle.std.proofs.Common.{◌≡◌, ◌++◌, drop}
use Rattle.avro_schema.specs.Seen.{seen_fields}
use Rattle.avro_compare.specs.Planned.{AreSourcesFrom}
use Rattle.avro_explain.specs.Details.{missing_from}
use Rattle.avro_explain.proofs.failing.missing_fields.Given as goal

abbrev pub invariant-loop-index : goal.invariant-loop-index
invariant-loop-index l = (missing_from 0 (seen_fields l.fields) (seen_fields l.theirs) ≡ l.found.items ++ missing_from l.index (seen_fields l.fields) (seen_fields (drop l.index l.theirs)))
    × AreSourcesFrom l.index (seen_fields l.fields) (seen_fields l.theirs) l.left
