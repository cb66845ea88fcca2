use Rattle.std.proofs.Common.{◌≡◌, ◌++◌, length, take, drop}
use Rattle.avro_schema.specs.Seen.{values_of, entries_of}
use Rattle.avro_cursor.specs.Encoding.{plain_values, plain_entries}
use Rattle.avro_binary.proofs.write.+writing.Given as goal

-- with what is left, the output is that at the end
abbrev pub invariant-write_entries-loop-entry : goal.invariant-write_entries-loop-entry
invariant-write_entries-loop-entry l =
    (l.out.items ++ plain_entries (entries_of (drop l.entry-index l.entries)) ≡ l.fn.out.items ++ plain_entries (entries_of l.entries))
    × (take (length l.fn.out.items) l.out.items ≡ l.fn.out.items)

abbrev pub invariant-write_items-loop-item : goal.invariant-write_items-loop-item
invariant-write_items-loop-item l =
    (l.out.items ++ plain_values (values_of (drop l.item-index l.items)) ≡ l.fn.out.items ++ plain_values (values_of l.items))
    × (take (length l.fn.out.items) l.out.items ≡ l.fn.out.items)
