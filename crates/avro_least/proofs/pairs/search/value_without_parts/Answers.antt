use Rattle.std.proofs.Common.{◌≡◌, ◌*◌, ◌/◌, ℕ, Some, List, length, sym, ◌∙◌, ap, slice_get}
use Rattle.indexmap.specs.IndexSet.{keys}
use Rattle.avro_schema.specs.Node.{Node}
use Rattle.avro_schema.specs.SeenSchema.{schema_nodes}
use Rattle.avro_least.specs.Asked.{asked_at}
use Rattle.avro_least.specs.SeenLeast.{table_of}
use Rattle.avro_least.specs.inside.Parts.{value_alone}
use Rattle.avro_least.proofs.PairSteps.{below_at}
use Rattle.avro_least.proofs.pairs.search.value_without_parts.Goals as goal
use Rattle.avro_least.proofs.public.Keys.{some_same}

pub writers-w-requires : goal.writers-w-requires
writers-w-requires c = below_at (length (schema_nodes c.args.writer.now) * length (schema_nodes c.args.reader.now)) (keys c.args.reached.now.known) c.args.i c.in-Some.key.now
    c.requires.below (sym c.in-Some.ensures.key)

pub returns-in-Some : goal.returns-in-Some
returns-in-Some c = record {
  is = λ key here.
      let ns : List Node = schema_nodes c.args.writer.now in
      let qs : List Node = schema_nodes c.args.reader.now in
      let ks : List ℕ = keys c.args.reached.now.known in
      let there : slice_get ks c.args.i ≡ Some c.in-Some.key.now = sym c.in-Some.ensures.key in
      let it : c.in-Some.key.now ≡ key = some_same c.in-Some.key.now key (sym there ∙ here) in
      c.value_alone.ensures (asked_at ns qs c.in-Some.key.now) (c.ask_at_index-ask.ensures c.in-Some.key.now there)
      ∙ ap (λ (n : ℕ). value_alone (table_of c.args.table.now) n (asked_at ns qs c.in-Some.key.now)) c.writers-w.ensures.is
      ∙ ap (λ (n : ℕ). value_alone (table_of c.args.table.now) (n / length qs) (asked_at ns qs n)) it;
}
