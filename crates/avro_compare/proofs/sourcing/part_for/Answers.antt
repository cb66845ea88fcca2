use Rattle.std.proofs.Common.{◌∙◌, sym}
use Rattle.avro_schema.specs.Seen.{seen_fields}
use Rattle.avro_compare.proofs.public.Planning.{part_found, reader_past}
use Rattle.avro_compare.proofs.sourcing.part_for.Goals as goal

pub loop-index-preserved : goal.loop-index-preserved
loop-index-preserved c =
    c.loop-index.invariant
    ∙ reader_past (seen_fields c.args.writer.now) c.args.reader.now c.loop-index.index c.args.field c.index-reader-index.result c.loop-index-test.true c.index-reader-index.is
    (sym c.takes.ensures ∙ c.if-takes.false)

pub returns-then-takes : goal.returns-then-takes
returns-then-takes c =
    part_found (seen_fields c.args.writer.now) c.args.reader.now c.loop-index.index c.args.field c.index-reader-index.result c.loop-index-test.true c.index-reader-index.is
    (sym c.takes.ensures ∙ c.if-takes.true) _ c.loop-index.invariant c.node_of_field-node.result _ c.node_of_field-node.ensures
