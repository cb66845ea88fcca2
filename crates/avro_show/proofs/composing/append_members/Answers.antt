use Rattle.std.proofs.Common.{◌∙◌, ◌++◌, ◌<◌, List, ℕ, ap, length, rules}
use Rattle.serde_json.specs.Written.{compact_text}
use Rattle.avro_display.proofs.public.Putting.{on_ok}
use Rattle.avro_display.specs.Displayed.{members_left}
use Rattle.avro_show.specs.Spans.{IsSpanAt}
use Rattle.avro_show.proofs.Composed.{members_last, members_more, span_here}
use Rattle.avro_show.proofs.composing.append_members.Goals as goal

pub loop-member-preserved : goal.loop-member-preserved
loop-member-preserved c = λ tree are.
    let l = c.loop-member in
    let m = c.member-item.result in
    let text = c.args.text.now in
    let values = c.args.values.now in
    members_more (c.args.whole.now ++ members_left tree c.args.members.now) l.whole c.append-in-loop-member.new.self c.append-in-Some.new.self
    (λ x. IsSpanAt text values x.field (compact_text (tree x.field))) tree c.args.members.now l.member-index m
    c.loop-member-test.true c.member-item.is (c.in_ok-append.ensures.appended ∙ ap (λ (b : List ℕ). l.whole ++ b) c.head.ensures)
    (λ at. c.in_ok-append-in-Some.ensures.appended ∙ ap (λ (b : List ℕ). c.append-in-loop-member.new.self ++ b)
    (c.bytes_at.ensures (compact_text (tree m.field)) (span_here text values m.field c.in-Some.value.now (compact_text (tree m.field)) c.in-Some.ensures.lookup.1 at)))
    (l.invariant tree are)

pub returns : goal.returns
returns c = λ tree are.
    let l = c.loop-member in
    let some : 0 < length c.args.members.now = search rules in
    on_ok (λ step. members_last c.args.whole.now l.whole c.append_byte.new.self tree c.args.members.now l.member-index some c.loop-member-test.false step (l.invariant tree are).1) c.append_byte.result c.append_byte.ensures.appended
