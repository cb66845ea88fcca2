-- The two ways to each place.
use Rattle.std.proofs.Common.{◌≡◌, ◌<◌, ℕ, zero, suc, List, [], ◌++◌, Option, Some, None, refl, sym, ap, arith, slice_get}
use Rattle.avro_schema.specs.Node.{Node, node_at}
use Rattle.avro_compare.specs.declared.comparison.Step.{Step}
use Rattle.avro_explain.specs.Places.{ArePlaced, came}
use Rattle.avro_explain.specs.Ways.{IsWay, IsWayTo, writer_steps, reader_steps}
use Rattle.avro_explain.specs.declared.found.PathStep.{PathStep}
use Rattle.avro_explain.specs.declared.found.Place.{Place}
use Rattle.avro_explain.proofs.WaysFollowed.{follow_more, leads_step}

-- a place, and two ways to it
pub record HasWays (writer reader : List Node) (places : List Place) (k : ℕ) (p : Place) : Type 0 where
  pub in_writer : List PathStep
  pub in_reader : List PathStep
  pub leads_writer : IsWay writer in_writer p.w.0
  pub leads_reader : IsWay reader in_reader p.r.0
  pub way : IsWayTo places k in_writer in_reader

module _ (writer reader : List Node) (places : List Place) (placed : ArePlaced writer reader places) where
  by_bound : (bound k : ℕ) (p : Place) → k < bound → slice_get places k ≡ Some p → HasWays writer reader places k p
  by_bound zero k p below got = absurd (omega (arith, below))
  by_bound (suc bound) k p below got = chosen p.from refl (placed k p got) (λ j q less there. by_bound bound j q less there)
    where
      chosen : (o : Option (ℕ × Step)) → p.from ≡ o → came writer reader places k p o
          → ((j : ℕ) (q : Place) → j < bound → slice_get places j ≡ Some q → HasWays writer reader places j q) → HasWays writer reader places k p
      chosen None e roots before = record {
        in_writer = [];
        in_reader = [];
        leads_writer = ap Some (sym roots.0);
        leads_reader = ap Some (sym roots.1);
        way = IsWayTo.starts k p got e;
      }
      chosen (Some from) e led before =
          let q = led.place in
          let ways = before from.0 q (omega (arith, below, led.before)) led.there in
          let step = leads_step writer reader q.w.0 q.r.0 (node_at writer q.w.0) (node_at reader q.r.0) refl refl led.index (record { step = from.1; w = p.w; r = p.r }) led.leads in
          record {
            in_writer = ways.in_writer ++ writer_steps from.1;
            in_reader = ways.in_reader ++ reader_steps from.1;
            leads_writer = follow_more writer 0 q.w.0 p.w.0 ways.in_writer (writer_steps from.1) ways.leads_writer step.in_writer;
            leads_reader = follow_more reader 0 q.r.0 p.r.0 ways.in_reader (reader_steps from.1) ways.leads_reader step.in_reader;
            way = IsWayTo.steps k p from ways.in_writer ways.in_reader (ways.in_writer ++ writer_steps from.1) (ways.in_reader ++ reader_steps from.1) got e led.before ways.way refl refl;
          }

  -- each place has some
  pub has_ways : (k : ℕ) (p : Place) → slice_get places k ≡ Some p → HasWays writer reader places k p
  has_ways k p got = by_bound (suc k) k p (omega arith) got
