use Rattle.avro_schema_json.proofs.Words.{◌≡◌, sym, subst, ap, ◌∙◌, List, ℕ, ◌+◌, arith, hash_map_updates_str, Data, get_member, view, members_view}
use Rattle.avro_schema_json.proofs.WalkSeen.{AreLeft, known-same, left-first, left-next, member-known}
use Rattle.avro_schema_json.proofs.defaults.walk.marks_of_members.Goals as goal

pub part_mark-part-requires : goal.part_mark-part-requires
part_mark-part-requires c =
    let l = c.loop-key in
    let es = c.args.members.now.entries in
    let first = left-first es l.key-iterator c.next.new.self l.index c.in-Some.key.now c.in-Some.member.now c.in-Some.ensures.steps l.invariant.left in
    (Data.object (members_view es), c.requires.known, first.1)

pub loop-key-preserved : goal.loop-key-preserved
loop-key-preserved c =
    let l = c.loop-key in
    let es = c.args.members.now.entries in
    let key = c.as_str.result.now in
    let first = left-first es l.key-iterator c.next.new.self l.index c.in-Some.key.now c.in-Some.member.now c.in-Some.ensures.steps l.invariant.left in
    let number : l.index + 1 ≡ c.in-Some-checked_add.next = omega (arith, c.in-Some-checked_add.ensures.1) in
    record {
      left = subst (λ (k : ℕ). AreLeft es c.next.new.self k) number (left-next es l.key-iterator c.next.new.self l.index _ c.in-Some.ensures.steps l.invariant.left);
      known = member-known c.args.walk.now (members_view es) l.marks c.insert.new.self key c.part_mark-part.result l.invariant.known
          (λ other. hash_map_updates_str key l.marks c.insert.new.self _ c.in_ok-insert.ensures.updates other)
          (λ f at. known-same c.args.walk.now (view c.in-Some.member.now) f c.part_mark-part.result
          (sym first.0 ∙ ap (λ (k : List ℕ). get_member k (members_view es)) (sym c.as_str.ensures.value) ∙ at) c.part_mark-part.ensures);
    }
