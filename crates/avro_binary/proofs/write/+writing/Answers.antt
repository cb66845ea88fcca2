use Rattle.std.proofs.Common.{◌≡◌, ◌<◌, pos, length, append_assoc, arith}
use Rattle.std.proofs.lemmas.Bool.Decides.{nat_tests}
use Rattle.avro_zigzag.specs.Number.{number_bytes}
use Rattle.avro_schema.specs.Seen.{value_of}
use Rattle.avro_schema.proofs.public.DatumViews.{value_of-Map}
use Rattle.avro_cursor.specs.Encoding.{plain}
use Rattle.avro_binary.proofs.Written.{array-written, empty_array-written, map-written, empty_map-written, value_of-Union}
use Rattle.avro_binary.proofs.write.+writing.Goals as goal
use Rattle.avro_binary.proofs.write.+writing.Goals.{write_array-then-not-is_empty+in_ok-write_count+in_ok-write_items, write_array-else-not-is_empty, write_map-then-not-is_empty+in_ok-write_count+in_ok-write_entries, write_map-else-not-is_empty}

pub write_array-returns-clause-appended : goal.write_array-returns-clause-appended
write_array-returns-clause-appended t c =
    let ds = c.args.items.now.items in
    let old = c.args.out.now.items in
    elim c.if-not-is_empty.branch [
      | write_array-then-not-is_empty+in_ok-write_count+in_ok-write_items w ↦
          let some : 0 < length ds = grind (arith, nat_tests) in
          let count : w.len.result ≡ length ds = grind arith in
          cc (array-written ds old some, count, w.deref.ensures.value, w.in_ok-write_count.ensures.appended, w.in_ok-write_items.ensures.appended, c.in_ok-push.ensures.items)
      | write_array-else-not-is_empty w ↦
          let none : length ds ≡ 0 = grind (arith, nat_tests) in
          cc (empty_array-written ds old none, c.in_ok-push.ensures.items)
    ]

pub write_map-returns-clause-appended : goal.write_map-returns-clause-appended
write_map-returns-clause-appended t c =
    let es = c.args.entries.now.items in
    let old = c.args.out.now.items in
    elim c.if-not-is_empty.branch [
      | write_map-then-not-is_empty+in_ok-write_count+in_ok-write_entries w ↦
          let some : 0 < length es = grind (arith, nat_tests) in
          let count : w.len.result ≡ length es = grind arith in
          cc (map-written es old some, count, w.deref.ensures.value, w.in_ok-write_count.ensures.appended, w.in_ok-write_entries.ensures.appended, c.in_ok-push.ensures.items)
      | write_map-else-not-is_empty w ↦
          let none : length es ≡ 0 = grind (arith, nat_tests) in
          cc (empty_map-written es old none, c.in_ok-push.ensures.items)
    ]

pub write_datum-returns-in-Map-clause-appended : goal.write_datum-returns-in-Map-clause-appended
write_datum-returns-in-Map-clause-appended t c = rw (c.in-Map.is, value_of-Map c.in-Map.entries) c.write_map.ensures.appended

pub write_datum-returns-in_ok-write_index-in-Union-clause-appended :
    goal.write_datum-returns-in_ok-write_index-in-Union-clause-appended
write_datum-returns-in_ok-write_index-in-Union-clause-appended t c =
    let index = number_bytes (pos c.in-Union.branch) in
    let branch = plain (value_of c.in-Union.value.value) in
    rw (c.in-Union.is, value_of-Union c.in-Union.branch c.in-Union.value, ← append_assoc c.args.out.now.items index branch, ← c.in_ok-write_index-in-Union.ensures.appended, ← c.deref-in-Union.ensures)
    c.write_datum.ensures.appended
