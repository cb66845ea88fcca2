use Rattle.std.proofs.Common.{◌≡◌, ◌*◌, ℕ, true, List, length, sym, subst}
use Rattle.std.specs.Prelude.{nat_lt}
use Rattle.std.specs.List.{list_all}
use Rattle.indexmap.specs.IndexSet.{keys}
use Rattle.avro_schema.specs.SeenSchema.{schema_nodes}
use Rattle.avro_judge.proofs.SortedKeys.{all_moved}
use Rattle.avro_judge.proofs.certifying.reached_pairs.Goals as goal

pub pairs_of_numbers-requires : goal.pairs_of_numbers-requires
pairs_of_numbers-requires c =
    subst (λ (ns : List ℕ). list_all (λ k. nat_lt k (length (schema_nodes c.args.writer.now) * length (schema_nodes c.args.reader.now))) ns ≡ true)
    (sym c.deref.ensures.value)
    (all_moved (λ k. nat_lt k (length (schema_nodes c.args.writer.now) * length (schema_nodes c.args.reader.now)))
    (keys c.args.reached.now.known) c.in_ok-numbers.numbers.items c.in_ok-numbers.ensures.same c.requires)
