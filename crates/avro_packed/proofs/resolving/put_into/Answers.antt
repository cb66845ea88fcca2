use Rattle.std.proofs.Common.{refl}
use Rattle.std.proofs.lemmas.Result.{IfOk-weaker}
use Rattle.avro_schema.specs.Node.{node_at}
use Rattle.avro_schema.specs.SeenSchema.{schema_nodes}
use Rattle.avro_binary.specs.Places.{alone}
use Rattle.avro_packed.proofs.IntoBranches.{holds_alone}
use Rattle.avro_packed.proofs.resolving.put_into.Goals as goal

pub put-requires : goal.put-requires
put-requires c = record {
  told = record {
    branches = λ s at k id. refl;
    items = λ s items id. refl;
    entries = λ s entries id. refl;
    fields = λ s fields id. refl;
  };
}

pub returns-clause-found : goal.returns-clause-found
returns-clause-found c =
    let nodes = schema_nodes c.args.plan.now.1 in
    IfOk-weaker c.put.result _ _
    (λ read found. (found.0, holds_alone c.put.new.maker.bytes read.0 (node_at nodes 0) (alone 0) 0 found.0 refl found.1, found.2))
    c.put.ensures.reads.found

pub returns-clause-faulty : goal.returns-clause-faulty
returns-clause-faulty c = c.put.ensures.reads.faulty

pub returns-clause-refused : goal.returns-clause-refused
returns-clause-refused c = c.put.ensures.reads.refused
