use Rattle.avro_schema.specs.Seen.{value_of}
use Rattle.avro_cursor.specs.Encoding.{plain}
use Rattle.avro_packed.proofs.Staying.{stays_by}
use Rattle.avro_packed.proofs.putting.append_whole.Goals as goal

pub returns-clause-stays : goal.returns-clause-stays
returns-clause-stays c =
    stays_by c.append_plain.result c.args.out.now.items c.append_plain.new.out.items (plain (value_of c.args.datum.now)) c.append_plain.ensures.appended c.append_plain.ensures.unchanged
