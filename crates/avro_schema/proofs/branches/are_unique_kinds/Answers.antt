use Rattle.std.proofs.Common.{sym}
use Rattle.avro_schema.specs.SeenKind.{kind_of}
use Rattle.avro_schema.specs.WellFormed.{same_kind}
use Rattle.avro_schema.proofs.Ordered.{kind_eq}
use Rattle.avro_schema.proofs.Unique.{are_distinct-map}
use Rattle.avro_schema.proofs.branches.are_unique_kinds.Goals as goal

pub returns : goal.returns
returns c = rw (sym (are_distinct-map kind_of _ same_kind kind_eq c.args.kinds.items)) c.are_unique.ensures
