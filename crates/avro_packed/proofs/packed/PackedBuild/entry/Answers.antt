use Rattle.std.proofs.Common.{◌++◌, ◌∙◌, List, ℕ, ap}
use Rattle.avro_schema.specs.Seen.{entries_from}
use Rattle.avro_cursor.specs.Encoding.{plain_bytes, plain_entries}
use Rattle.avro_packed.proofs.Joined.{entry_is_added}
use Rattle.avro_packed.proofs.packed.PackedBuild.entry.Goals as goal

pub returns : goal.returns
returns c = λ es v are is.
    let keyed = c.in_ok-append_measured.ensures.appended ∙ ap (λ (b : List ℕ). b ++ plain_bytes c.as_bytes.result.now) are.1
    ∙ ap (λ (k : List ℕ). plain_entries (entries_from es) ++ plain_bytes k) c.as_bytes.ensures.value in
    entry_is_added c.add.result c.args.entries.now.count c.add.new.self.count c.append_measured.new.to.items c.add.new.self.bytes.items c.deref.result.now c.args.key.now es v
    are.0 keyed (c.deref.ensures.value ∙ is) c.add.ensures.count c.add.ensures.bytes
