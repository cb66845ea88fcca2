use Rattle.std.proofs.Common.{◌*◌, length, arith, sym}
use Rattle.std.proofs.lemmas.Option.{slice_get_within}
use Rattle.indexmap.specs.IndexSet.{keys}
use Rattle.avro_schema.specs.SeenSchema.{schema_nodes}
use Rattle.avro_least.proofs.PairSteps.{below_at}
use Rattle.avro_least.proofs.pairs.leads.add_leads.Goals as goal

pub writers-w-requires : goal.writers-w-requires
writers-w-requires c = below_at (length (schema_nodes c.args.graph.now.writer.now) * length (schema_nodes c.args.graph.now.reader.now)) (keys c.args.graph.now.reached.now.known) c.args.i c.in-Some.key.now
    c.requires.below (sym c.in-Some.ensures.key)

pub ask_at_index-ask-requires-clause-within : goal.ask_at_index-ask-requires-clause-within
ask_at_index-ask-requires-clause-within c =
    omega (arith, slice_get_within (keys c.args.graph.now.reached.now.known) c.args.i c.in-Some.key.now (sym c.in-Some.ensures.key), c.requires.one_each)
