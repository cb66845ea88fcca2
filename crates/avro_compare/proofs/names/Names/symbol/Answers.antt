use Rattle.std.proofs.Common.{subst}
use Rattle.std.specs.Option.{IfSome}
use Rattle.avro_schema.specs.Node.{node_at}
use Rattle.avro_schema.specs.SeenSchema.{schema_nodes}
use Rattle.avro_compare.specs.inside.NameTables.{symbols_at}
use Rattle.avro_compare.specs.inside.PartNumbers.{ArePartNumbers}
use Rattle.avro_compare.proofs.names.Names.symbol.Goals as goal

pub symbol_of_place-requires : goal.symbol_of_place-requires
symbol_of_place-requires c =
    let writer = schema_nodes c.self.inside.writer.now in
    let reader = schema_nodes c.self.inside.reader.now in
    let are : ArePartNumbers writer reader _ = subst (λ o. IfSome o (ArePartNumbers writer reader)) c.in-Some.is c.self.invariant.1 in
    c.symbol_by_numbers-index.ensures (symbols_at (node_at reader c.args.q.0)) c.args.symbol.now (are.lists.distinct, are.places) (c.in-Some-symbol_numbers_of.ensures writer reader are.lists)
