use Rattle.avro_schema.specs.Seen.{seen_fields}
use Rattle.avro_display.proofs.Tables.{made_more}
use Rattle.avro_display.proofs.members.members_in.Goals as goal

pub loop-name-preserved : goal.loop-name-preserved
loop-name-preserved c = λ named.
    let l = c.loop-name in
    made_more (seen_fields c.args.fields.now) c.args.order.now.entries l.name-iterator c.next.new.self (c.in-Some.name.now, c.in-Some.field.now) l.members.items c.push.new.self.items
    c.in_ok-member.field-0 l.opener c.in-Some.ensures.steps c.in_ok-push.ensures.items c.in_ok-member.ensures.node c.in_ok-member.ensures.field c.in_ok-member.ensures.head (l.invariant named)
