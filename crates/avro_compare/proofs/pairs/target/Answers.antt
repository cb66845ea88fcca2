use Rattle.std.proofs.Common.{subst, sym}
use Rattle.avro_schema.specs.Node.{node_at}
use Rattle.avro_schema.specs.SeenSchema.{schema_nodes}
use Rattle.avro_compare.specs.Pairs.{IsTarget}
use Rattle.avro_compare.proofs.public.Leading.{pair_leads}
use Rattle.avro_compare.proofs.pairs.target.Goals as goal

pub returns-clause-leads : goal.returns-clause-leads
returns-clause-leads c =
    let writer = schema_nodes c.args.writer.now in
    let reader = schema_nodes c.args.reader.now in
    subst (λ a. IsTarget writer reader (node_at writer c.args.w.0) (node_at reader c.args.r.0) a) (sym c.target_by.ensures) (pair_leads writer reader c.args.w c.args.r)
