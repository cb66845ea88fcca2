use Rattle.std.proofs.Common.{◌≡◌, ◌<◌, length, arith}
use Rattle.std.proofs.lemmas.Bool.Decides.{nat_tests}
use Rattle.avro_container.proofs.Headers.{metadata-written, no_metadata-written}
use Rattle.avro_container.proofs.sink.append_metadata.Goals as goal
use Rattle.avro_container.proofs.sink.append_metadata.Goals.{then-not-is_empty+in_ok-append_count+in_ok-append_properties, else-not-is_empty}

pub returns : goal.returns
returns c =
    let es = c.args.metadata.now in
    let old = c.args.out.now.items in
    elim c.if-not-is_empty.branch [
      | then-not-is_empty+in_ok-append_count+in_ok-append_properties w ↦
          let some : 0 < length es = grind (arith, nat_tests) in
          cc (metadata-written es old some, w.in_ok-append_count.ensures, w.in_ok-append_properties.ensures, c.in_ok-push.ensures.items)
      | else-not-is_empty w ↦
          let none : length es ≡ 0 = grind (arith, nat_tests) in
          cc (no_metadata-written es old none, c.in_ok-push.ensures.items)
    ]
