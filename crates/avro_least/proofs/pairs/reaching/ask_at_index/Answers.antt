use Rattle.std.proofs.Common.{ℕ, ◌%◌, length, get_or, subst, arith}
use Rattle.std.proofs.lemmas.Option.{slice_get-get_or}
use Rattle.indexmap.specs.IndexSet.{keys}
use Rattle.avro_schema.specs.Node.{node_at}
use Rattle.avro_schema.specs.SeenSchema.{schema_nodes}
use Rattle.avro_least.specs.Asked.{asked}
use Rattle.avro_least.specs.Asks.{IsKept}
use Rattle.avro_least.proofs.pairs.reaching.ask_at_index.Goals as goal

pub ask_of_pair-requires : goal.ask_of_pair-requires
ask_of_pair-requires c =
    let ks = keys c.args.reached.now.known in
    (c.requires.of_keys c.args.i (get_or ks c.args.i 0) c.found_at-pair.result.now (slice_get-get_or ks c.args.i 0 (omega (arith, c.requires.within, c.requires.one_each))) c.found_at-pair.ensures).comparison

pub returns : goal.returns
returns c key here =
    let writer = schema_nodes c.args.writer.now in
    let reader = schema_nodes c.args.reader.now in
    let pair = c.found_at-pair.result.now in
    let own = c.requires.of_keys c.args.i key pair here c.found_at-pair.ensures in
    subst (λ (n : ℕ). IsKept c.ask_of_pair.result (asked writer reader (node_at writer n) (node_at reader (key % length reader)))) own.from
    (subst (λ (n : ℕ). IsKept c.ask_of_pair.result (asked writer reader (node_at writer pair.w.0) (node_at reader n))) own.to c.ask_of_pair.ensures.kept)
