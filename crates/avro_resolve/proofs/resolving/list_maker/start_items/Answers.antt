use Rattle.avro_schema.specs.SeenSchema.{schema_nodes}
use Rattle.avro_resolve.proofs.ArrayItems.{no_items}
use Rattle.avro_resolve.proofs.resolving.list_maker.start_items.Goals as goal

pub returns-in_ok-kept-in-To-clause-stands : goal.returns-in_ok-kept-in-To-clause-stands
returns-in_ok-kept-in-To-clause-stands g c = λ told nodes id.
    let reader = schema_nodes c.args.plan.now.1 in
    no_items (g.M.Make.items_stand_for c.items-in-To.new.self) (schema_nodes c.args.plan.now.0) reader nodes id c.args.part.at c.in-Pair.w c.in-Pair.r c.in_ok-kept-in-To.kept c.in-To.branch c.in-To.q c.items.result.0 c.items.result.1
    c.in-Pair.is c.items.ensures.of_writer c.items.ensures.of_reader (c.in_ok-kept-in-To.ensures.stands reader c.items.result.1.0) c.in-To.ensures.leads c.in-To.ensures.arrives
