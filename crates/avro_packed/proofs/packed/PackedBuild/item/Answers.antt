use Rattle.std.proofs.Common.{◌∙◌}
use Rattle.avro_packed.proofs.Joined.{item_is_added}
use Rattle.avro_packed.proofs.packed.PackedBuild.item.Goals as goal

pub returns : goal.returns
returns c = λ vs v are is.
    item_is_added c.add.result c.args.items.now.count c.add.new.self.count c.args.items.now.bytes.items c.add.new.self.bytes.items c.deref.result.now vs v
    are.0 are.1 (c.deref.ensures.value ∙ is) c.add.ensures.count c.add.ensures.bytes
