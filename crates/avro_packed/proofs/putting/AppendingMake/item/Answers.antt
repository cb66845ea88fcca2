use Rattle.std.proofs.Common.{◌∙◌, refl, subst, sym}
use Rattle.avro_schema.specs.Seen.{values_from}
use Rattle.avro_cursor.specs.Encoding.{plain, plain_values}
use Rattle.avro_packed.specs.Appended.{Holds}
use Rattle.avro_packed.proofs.Gathering.{item_gathered}
use Rattle.avro_packed.proofs.putting.AppendingMake.item.Goals as goal

pub returns-clause-stands : goal.returns-clause-stands
returns-clause-stands c = λ nodes id at vs v are is.
    let counted = c.count_more.new.self in
    let front = plain_values (values_from vs) in
    let before = subst (λ w. Holds c.args.self.now.bytes w front) (sym c.in_ok-count_more.ensures.written) are.1.1 in
    item_gathered c.join.result c.join.new.self.bytes counted.into at.branch counted.count c.args.items.now.count c.join.new.first vs v
    (c.in_ok-count_more.ensures.into ∙ are.0) are.1.0 c.in_ok-count_more.ensures.count (c.join.ensures.joined front (plain v) before (is (λ _. refl)))
