use Rattle.std.proofs.Common.{List, ℕ, sym, ap, subst, ◌∙◌}
use Rattle.avro_schema.specs.Node.{Node}
use Rattle.avro_schema.specs.Seen.{seen_fields, values_from}
use Rattle.avro_schema.specs.SeenSchema.{schema_nodes}
use Rattle.avro_schema.specs.Value.{Value}
use Rattle.avro_binary.specs.CursorReads.{FindsValue}
use Rattle.avro_cursor.specs.CursorValue.{CursorValue}
use Rattle.avro_binary.specs.Pieces.{ArePieces}
use Rattle.avro_binary.proofs.reading.pieces.make_of_pieces.Goals as goal

pub returns-in-Some-clause-passes : goal.returns-in-Some-clause-passes
returns-in-Some-clause-passes g c = λ name aliases.
    let nodes = schema_nodes c.args.schema.now in
    let fields = seen_fields c.args.fields.now in
    let n = Node.record_of name aliases fields in
    let passed = c.in_ok-pass_record.ensures name aliases c.if-not-branch.false in
    let vs = passed.0 in
    let here = ap (λ (k : CursorValue). k.bytes) c.ahead-ahead.ensures ∙ sym c.rest.ensures in
    let pieces = subst (λ (bytes : List ℕ). ArePieces vs bytes c.pass_record.new.ends.items) here passed.2 in
    let stands = c.in_ok-out.ensures.stands nodes name aliases fields vs pieces passed.1.encoded.fitting in record {
      found = (
        Value.record_of (values_from vs),
        subst (λ (before : CursorValue). FindsValue nodes n before c.pass_record.new.cursor (Value.record_of (values_from vs))) c.ahead-ahead.ensures passed.1,
        (c.in_ok-out.ensures.kept, rw c.in-Some.is at stands),
      );
      none = λ e. absurd cc;
      refused = tt;
    }
