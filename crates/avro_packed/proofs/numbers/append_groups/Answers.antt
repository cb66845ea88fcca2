use Rattle.std.proofs.Common.{◌+◌, ◌%◌, refl}
use Rattle.avro_packed.proofs.Grouping.{one_group_more}
use Rattle.avro_packed.proofs.numbers.append_groups.Goals as goal

pub loop-rest-preserved : goal.loop-rest-preserved
loop-rest-preserved c = (
  one_group_more c.args.number c.loop-rest.rest (128 + c.loop-rest.rest % 128) c.args.out.now.items c.loop-rest.out.items c.append_byte.new.out.items
      c.loop-rest-test.true refl c.loop-rest.invariant.0 c.in_ok-append_byte.ensures.appended,
  λ front h. c.append_byte.ensures.stays front (c.loop-rest.invariant.1 front h),
)
