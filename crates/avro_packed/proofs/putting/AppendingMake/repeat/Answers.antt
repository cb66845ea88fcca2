use Rattle.std.proofs.Common.{◌∙◌, refl}
use Rattle.avro_cursor.specs.Encoding.{plain}
use Rattle.avro_packed.proofs.Gathering.{items_repeated}
use Rattle.avro_packed.proofs.putting.AppendingMake.repeat.Goals as goal

pub returns-in-Ok-clause-added : goal.returns-in-Ok-clause-added
returns-in-Ok-clause-added c = λ nodes id at vs v all are is.
    let counted = c.in-Ok.ensures in
    let nothing = c.is_nothing.ensures c.args.self.now.bytes (plain v) c.if-is_nothing.true (is (λ _. refl)) in
    (c.count_more.ensures.into ∙ are.0, items_repeated c.args.self.now.bytes c.count_more.new.self c.args.items.now c.args.count vs v are.1 nothing counted.count c.count_more.ensures.written)
