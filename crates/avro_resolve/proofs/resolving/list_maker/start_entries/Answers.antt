use Rattle.avro_schema.specs.SeenSchema.{schema_nodes}
use Rattle.avro_resolve.proofs.MapEntries.{no_entries_yet}
use Rattle.avro_resolve.proofs.resolving.list_maker.start_entries.Goals as goal

pub returns-in_ok-kept-in-To-clause-stands : goal.returns-in_ok-kept-in-To-clause-stands
returns-in_ok-kept-in-To-clause-stands g c = λ told nodes id.
    let reader = schema_nodes c.args.plan.now.1 in
    no_entries_yet (g.M.Make.entries_stand_for c.entries.new.self) (schema_nodes c.args.plan.now.0) reader nodes id c.args.part.at c.in-Pair.w c.in-Pair.r c.in_ok-kept-in-To.kept c.in-To.branch c.in-To.q c.values.result.0 c.values.result.1
    c.in-Pair.is c.values.ensures.of_writer c.values.ensures.of_reader (c.in_ok-kept-in-To.ensures.stands reader c.values.result.1.0) c.in-To.ensures.leads c.in-To.ensures.arrives
