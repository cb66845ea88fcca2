use Rattle.std.specs.Prelude.{is_ok}
use Rattle.avro_packed.proofs.Staying.{stays_if}
use Rattle.avro_packed.proofs.joining.append_measured.Goals as goal

pub returns-clause-stays : goal.returns-clause-stays
returns-clause-stays c = λ front kept.
    stays_if (is_ok c.extend_from_slice.result) c.append_number.new.out.items c.extend_from_slice.new.self.items c.args.content.now c.extend_from_slice.ensures.items
    front (c.append_number.ensures.stays front kept)
