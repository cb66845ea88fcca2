-- What a plan keeps, without its schemas.
use Rattle.std.specs.Prelude.{List}
use Rattle.avro_schema.specs.Node.{Node}
use Rattle.avro_compare.specs.Planned.{AreComparisons}
use Rattle.avro_resolve.specs.Copied.{AreFlags}
use Rattle.avro_resolve.specs.declared.plan.plan_table.PlanTable.{PlanTable}

-- what is kept of each pair is how its nodes relate in these schemas, and which pairs can be copied as raw bytes
abbrev pub IsTableOf : List Node → List Node → PlanTable → Type 0
IsTableOf writer reader table = AreComparisons writer reader table.pairs.items × AreFlags writer reader table.pairs.items table.flags.items
