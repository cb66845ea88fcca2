use Rattle.std.proofs.Common.{◌≡◌, ◌*◌, IfOk, length, nat_lt, subst, true}
use Rattle.std.specs.List.{list_all}
use Rattle.indexmap.specs.IndexSet.{keys}
use Rattle.avro_schema.specs.SeenSchema.{schema_nodes}
use Rattle.avro_compare.specs.Planned.{AreComparisons}
use Rattle.avro_least.specs.Asks.{AreFound}
use Rattle.avro_least.proofs.pairs.reaching.reach.Goals as goal

pub returns-clause-below : goal.returns-clause-below
returns-clause-below c = subst (λ s. IfOk c.reach_by.result (λ p. list_all (λ k. nat_lt k (length (schema_nodes s.0) * length (schema_nodes s.1))) (keys p.known) ≡ true))
    c.in_ok-names.ensures c.reach_by.ensures.below

pub returns-clause-of_keys : goal.returns-clause-of_keys
returns-clause-of_keys c = subst (λ s. IfOk c.reach_by.result (λ p. AreFound (schema_nodes s.0) (schema_nodes s.1) (keys p.known) p.found.items))
    c.in_ok-names.ensures c.reach_by.ensures.of_keys

pub returns-clause-found : goal.returns-clause-found
returns-clause-found c = subst (λ s. IfOk c.reach_by.result (λ p. AreComparisons (schema_nodes s.0) (schema_nodes s.1) p.found.items))
    c.in_ok-names.ensures c.reach_by.ensures.found
