use Rattle.std.proofs.Common.{◌≡◌, ◌≤◌, ◌-◌, ◌*◌, ℕ, Bool, true, length, nat_lt}
use Rattle.std.specs.List.{list_all}
use Rattle.indexmap.specs.IndexSet.{keys}
use Rattle.avro_schema.specs.SeenSchema.{schema_nodes}
use Rattle.avro_least.specs.SeenLeast.{table_of}
use Rattle.avro_least.specs.Reached.{is_key, AreFollowed, IsSteppedTo}
use Rattle.avro_least.specs.Asked.{steps_at}
use Rattle.avro_least.specs.Asks.{AreFound}
use Rattle.avro_least.proofs.pairs.reaching.reach_by.Given as goal

abbrev pub invariant-loop-next : goal.invariant-loop-next
invariant-loop-next l = (is_key (keys l.reached.known) 0 ≡ true)
    × (list_all (λ x. nat_lt x (length (schema_nodes l.names.0) * length (schema_nodes l.names.1))) (keys l.reached.known) ≡ true)
    × AreFollowed (steps_at (schema_nodes l.names.0) (schema_nodes l.names.1) (table_of l.table)) (keys l.reached.known) l.next
    × (l.next ≤ length (keys l.reached.known))
    × (length l.reached.found.items ≡ l.next)
    × AreFound (schema_nodes l.names.0) (schema_nodes l.names.1) (keys l.reached.known) l.reached.found.items
    × ((P : ℕ → Bool) → P 0 ≡ true → ((k : ℕ) → P k ≡ true → list_all P (steps_at (schema_nodes l.names.0) (schema_nodes l.names.1) (table_of l.table) k) ≡ true) → list_all P (keys l.reached.known) ≡ true)
    × ((k : ℕ) → is_key (keys l.reached.known) k ≡ true → IsSteppedTo (steps_at (schema_nodes l.names.0) (schema_nodes l.names.1) (table_of l.table)) k)

abbrev pub decreases-loop-next : goal.decreases-loop-next
decreases-loop-next l = length (schema_nodes l.names.0) * length (schema_nodes l.names.1) - l.next
