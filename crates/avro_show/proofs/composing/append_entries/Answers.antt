use Rattle.std.proofs.Common.{◌∙◌, ◌++◌, List, ℕ, false, ap, rules}
use Rattle.serde_json.specs.Written.{comma_if, members_text}
use Rattle.avro_display.specs.Table.{head_text}
use Rattle.avro_show.proofs.Composed.{entries_more}
use Rattle.avro_show.proofs.composing.append_entries.Goals as goal

pub loop-key-preserved : goal.loop-key-preserved
loop-key-preserved c = λ ms are.
    let l = c.loop-key in
    entries_more c.args.text.now (c.append_byte.new.self ++ members_text false ms) l.whole c.append_entry_key.new.self c.append.new.self l.later l.key-iterator c.next.new.self c.in-Some.key.now c.in-Some.value.now
    (search rules) (c.in_ok-append_entry_key.ensures ∙ ap (λ (k : List ℕ). l.whole ++ (comma_if l.later ++ head_text k)) c.as_str.ensures.value)
    (λ bytes stands. c.in_ok-append.ensures.appended ∙ ap (λ (b : List ℕ). c.append_entry_key.new.self ++ b) (c.bytes_at.ensures bytes stands)) (l.invariant ms are)
