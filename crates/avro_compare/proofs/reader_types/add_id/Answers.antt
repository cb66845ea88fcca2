use Rattle.avro_compare.proofs.HeldAliases.{put_id}
use Rattle.avro_compare.proofs.reader_types.add_id.Goals as goal

pub returns : goal.returns
returns c =
    put_id c.args.sets.now c.take_set-set.new.sets c.insert-2.new.self c.take_set-set.result c.insert.new.self c.args.key c.args.id c.take_set-set.ensures.taken c.take_set-set.ensures.others
    c.in_ok-insert.ensures.updates.0 c.in_ok-insert-2.ensures.updates.0
