-- Which numbers may be limits.
use Rattle.std.specs.Prelude.{◌≤◌}
use Rattle.avro_schema.specs.Fits.{LimitValues}

-- the ranges of the three limits: a depth of 1 to 256, and nodes and bytes of 1 to 16,777,216
pub record AreLimits (limits : LimitValues) : Type 0 where
  pub some_depth : 1 ≤ limits.depth
  pub most_depth : limits.depth ≤ 256
  pub some_nodes : 1 ≤ limits.nodes
  pub most_nodes : limits.nodes ≤ 16777216
  pub some_blob : 1 ≤ limits.blob
  pub most_blob : limits.blob ≤ 16777216
