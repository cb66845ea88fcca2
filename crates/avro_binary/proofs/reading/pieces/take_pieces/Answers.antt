use Rattle.avro_schema.specs.Node.{Node}
use Rattle.avro_schema.specs.Seen.{seen_fields}
use Rattle.avro_schema.specs.SeenSchema.{schema_nodes}
use Rattle.avro_binary.proofs.PieceSteps.{passes_kept}
use Rattle.avro_binary.proofs.reading.pieces.take_pieces.Goals as goal

pub returns-in-Some-clause-passes : goal.returns-in-Some-clause-passes
returns-in-Some-clause-passes g c = λ name aliases.
    let nodes = schema_nodes c.args.schema.now in
    let n = Node.record_of name aliases (seen_fields c.args.fields.now) in
    let maker = c.args.maker.now in
    let mid = c.ends.new.self in
    let made = c.make_of_pieces.new.maker in
    passes_kept g.M.Make.keeps (λ m. g.M.Make.stands_for m nodes n c.args.at) nodes n maker mid made c.args.cursor.now c.make_of_pieces.new.cursor
    (g.met.M.Make.keeps_on maker mid made c.ends.ensures.kept) c.make_of_pieces.result (c.make_of_pieces.ensures.passes name aliases)
