-- Which numbers may be limits of judging.
use Rattle.std.specs.Prelude.{ℕ, ◌≤◌}
use Rattle.avro_schema.specs.Fits.{LimitValues}
use Rattle.avro_schema.specs.Ranges.{AreLimits}

-- the limits of judging: the product of the numbers of nodes, the nodes of a refuting datum, and limits on data, whose
-- depth bounds that datum
pub record JudgeLimitValues : Type 0 where
  pub pairs : ℕ
  pub size : ℕ
  pub limits : LimitValues

-- the ranges of these limits
pub record AreJudgeLimits (values : JudgeLimitValues) : Type 0 where
  pub some_pairs : 1 ≤ values.pairs
  pub most_pairs : values.pairs ≤ 16777216
  pub some_size : 1 ≤ values.size
  pub most_size : values.size ≤ values.limits.nodes
  pub good_limits : AreLimits values.limits
