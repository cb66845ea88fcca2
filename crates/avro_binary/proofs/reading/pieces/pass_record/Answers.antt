use Rattle.std.proofs.Common.{◌<◌, arith, subst, List, ℕ}
use Rattle.avro_schema.specs.Value.{Value}
use Rattle.avro_schema.specs.Node.{Node}
use Rattle.avro_schema.specs.Seen.{seen_fields, values_from}
use Rattle.avro_schema.specs.SeenSchema.{schema_nodes}
use Rattle.avro_binary.specs.Pieces.{ArePieces}
use Rattle.avro_binary.proofs.PieceSteps.{found_around}
use Rattle.avro_binary.proofs.reading.pieces.pass_record.Goals as goal

pub returns : goal.returns
returns c = λ name aliases is.
    let passed = c.in_ok-passed.ensures name aliases is in
    let entered = c.in-Ok.ensures.entered in
    let level = passed.1.moves.depth in
    let above = entered.depth in
    let shallow = c.in-Ok.ensures.shallow in
    let deep : c.pass_fields.new.cursor.depth < 256 = omega arith in (
      passed.0,
      found_around (schema_nodes c.args.schema.now) (Node.record_of name aliases (seen_fields c.args.fields.now)) (Value.record_of (values_from passed.0)) c.args.cursor.now c.enter.new.self
          c.pass_fields.new.cursor c.leave.new.self entered (c.leave.ensures.freed deep) passed.1,
      subst (λ (bytes : List ℕ). ArePieces passed.0 bytes c.pass_fields.new.ends.items) entered.bytes passed.2,
    )
