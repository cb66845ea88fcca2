use Rattle.avro_schema.specs.Node.{node_at}
use Rattle.avro_schema.specs.SeenSchema.{schema_nodes}
use Rattle.avro_show.proofs.Wholes.{entry_push, part_of}
use Rattle.avro_show.proofs.displaying.DisplayingMake.entry.Goals as goal

pub returns-clause-stands : goal.returns-clause-stands
returns-clause-stands c = λ nodes id at es v entries is of.
    let t = c.args.self.now.table.now in
    let text = c.args.self.now.scratch.now.text in
    let (own, are) = entries of in (
      own,
      entry_push text (schema_nodes t) (node_at (schema_nodes t) id) c.args.entries.now.parts.entries c.insert.new.self.entries c.in_ok-key.key c.args.value c.args.key.now es v c.in_ok-key.ensures.ok
          c.in_ok-insert.ensures.entries are (is (part_of t nodes id of.0)),
    )
