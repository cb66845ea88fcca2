use Rattle.avro_schema.specs.SeenSchema.{schema_nodes}
use Rattle.avro_show.specs.Showing.{reader_node, writer_node}
use Rattle.avro_schema.specs.Seen.{entries_of}
use Rattle.avro_show.proofs.Made.{keys_kept}
use Rattle.avro_show.proofs.resolved.ResolvedDisplayed.key.Goals as goal

pub returns-in-Entries : goal.returns-in-Entries
returns-in-Entries c =
    let s = c.args.self.now.plan.now in
    let p = c.in-Entries.field-0 in
    rw c.in-Entries.is (λ k d h.
    let kept = keys_kept (schema_nodes s.0) (schema_nodes s.1) (writer_node s p) (reader_node s p) 0 (entries_of c.in-Entries.entries.now) h.0 h.1 in
    c.entry_key.ensures k (cc (kept, h.2)))

pub returns-in-Default : goal.returns-in-Default
returns-in-Default c = let is = rw c.args.self.now.same at c.key.ensures in rw c.in-Default.is (λ k d h. is k d h)
