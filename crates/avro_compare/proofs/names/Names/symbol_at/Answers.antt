use Rattle.std.proofs.Common.{◌∙◌, List, ℕ, ap, subst, sym, position, bytes_eq}
use Rattle.std.specs.Option.{IfSome}
use Rattle.avro_schema.specs.Node.{node_at}
use Rattle.avro_schema.specs.SeenSchema.{schema_nodes}
use Rattle.avro_schema.specs.declared.schema.Schema.{Schema}
use Rattle.avro_compare.specs.Pairs.{IsSymbol}
use Rattle.avro_compare.specs.Resolve.{enum_as, symbol_at}
use Rattle.avro_compare.specs.inside.NameTables.{symbols_at}
use Rattle.avro_compare.specs.inside.PartNumbers.{ArePartNumbers}
use Rattle.avro_compare.proofs.names.Names.symbol_at.Goals as goal

pub symbol_of_place-requires : goal.symbol_of_place-requires
symbol_of_place-requires c =
    let writer = schema_nodes c.self.inside.writer.now in
    let reader = schema_nodes c.self.inside.reader.now in
    let reads = symbols_at (node_at reader c.args.q.0) in
    let are : ArePartNumbers writer reader _ = subst (λ o. IfSome o (ArePartNumbers writer reader)) c.in-Some.is c.self.invariant.1 in
    c.symbol_by_numbers-index.ensures reads (symbol_at (node_at writer c.args.w.0) c.args.index) (are.lists.distinct, are.places) (c.in-Some-symbol_numbers_at.ensures writer reader are.lists)
    ∙ ap (λ (t : List ℕ). position (λ s. bytes_eq s t) reads) (sym c.text_of-symbol.ensures)

pub returns-in-Some-symbol_numbers_at : goal.returns-in-Some-symbol_numbers_at
returns-in-Some-symbol_numbers_at c =
    let writer = schema_nodes c.self.inside.writer.now in
    let reader = schema_nodes c.self.inside.reader.now in
    let w = c.args.w in
    let q = c.args.q in
    subst (λ (v : Schema × Schema). IsSymbol (enum_as (symbol_at (node_at (schema_nodes v.0) w.0) c.args.index) (node_at (schema_nodes v.1) q.0)) c.symbol_of_place.result) c.self.view_is
    (subst (λ (t : List ℕ). IsSymbol (enum_as t (node_at reader q.0)) c.symbol_of_place.result) c.text_of-symbol.ensures c.symbol_of_place.ensures)
