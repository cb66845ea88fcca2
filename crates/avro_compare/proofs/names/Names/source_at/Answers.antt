use Rattle.std.proofs.Common.{◌≡◌, Some, subst, sym}
use Rattle.std.specs.Prelude.{slice_get}
use Rattle.std.specs.Option.{IfSome}
use Rattle.avro_schema.specs.Node.{node_at}
use Rattle.avro_schema.specs.Seen.{field_of}
use Rattle.avro_schema.specs.SeenSchema.{schema_nodes}
use Rattle.avro_schema.specs.declared.schema.Schema.{Schema}
use Rattle.avro_compare.specs.Resolve.{fields_at}
use Rattle.avro_compare.specs.Source.{source_of}
use Rattle.avro_compare.specs.inside.PartNumbers.{ArePartNumbers}
use Rattle.avro_compare.proofs.names.Names.source_at.Goals as goal

pub returns-in-Some-field_numbers_at : goal.returns-in-Some-field_numbers_at
returns-in-Some-field_numbers_at c =
    let writer = schema_nodes c.self.inside.writer.now in
    let reader = schema_nodes c.self.inside.reader.now in
    let w = c.args.w in
    let r = c.args.r in
    let field = field_of c.args.field.now in
    let there = subst (λ (v : Schema × Schema). slice_get (fields_at (node_at (schema_nodes v.1) r.0)) c.args.index ≡ Some field) (sym c.self.view_is) c.requires in
    let are : ArePartNumbers writer reader _ = subst (λ o. IfSome o (ArePartNumbers writer reader)) c.in-Some.is c.self.invariant.1 in
    subst (λ (v : Schema × Schema). c.source_by_numbers.result ≡ source_of (fields_at (node_at (schema_nodes v.0) w.0)) field) c.self.view_is
    (c.source_by_numbers.ensures (fields_at (node_at writer w.0)) field (are.lists.distinct, are.places) (c.in-Some-field_numbers_at.ensures writer reader field are.lists there))
