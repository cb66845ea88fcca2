use Rattle.std.proofs.Common.{◌≡◌, ◌∙◌, string_bytes, rules}
use Rattle.std.specs.Prelude.{encode_utf8_all}
use Rattle.avro_tool.proofs.Headers.{put_next}
use Rattle.avro_tool.proofs.commands.header.tree_of.Goals as goal

pub loop-key-preserved : goal.loop-key-preserved
loop-key-preserved c =
    let l = c.loop-key in
    let d = c.loop-key-item.result in
    let named : string_bytes c.in_ok-key.key ≡ string_bytes d.0 = search rules in
    let shown : string_bytes c.in_ok-bytes_text.field-0 ≡ encode_utf8_all d.1.items = search rules in
    put_next c.args.metadata.now l.key-index d l.members.entries c.insert.new.self.entries c.in_ok-key.key c.in_ok-bytes_text.field-0
    c.loop-key-test.true c.loop-key-item.is named shown c.in_ok-insert.ensures.entries ∙ l.invariant
