use Rattle.std.proofs.Common.{◌≡◌, ◌∙◌, ◌/◌, ◌%◌, ap, length, subst}
use Rattle.avro_schema.specs.SeenSchema.{schema_nodes}
use Rattle.avro_schema.specs.declared.schema.NodeId.{NodeId}
use Rattle.avro_least.proofs.pairs.reaching.visit.Goals as goal

pub returns-clause-found : goal.returns-clause-found
returns-clause-found c =
    let own = c.in_ok-pair.ensures in record {
      comparison = own.0;
      from = subst (λ s. c.in_ok-pair.pair.w.0 ≡ c.args.key / length (schema_nodes s)) c.reader-reader.ensures (ap (λ (id : NodeId). id.0) own.1 ∙ c.writers-w.ensures.is);
      to = subst (λ s. c.in_ok-pair.pair.r.0 ≡ c.args.key % length (schema_nodes s)) c.reader-reader.ensures (ap (λ (id : NodeId). id.0) own.2 ∙ c.readers-r.ensures.is);
    }
