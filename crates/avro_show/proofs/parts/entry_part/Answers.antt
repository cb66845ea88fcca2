use Rattle.std.proofs.Common.{arith}
use Rattle.avro_schema.specs.Seen.{entries_of}
use Rattle.avro_show.proofs.Taken.{entry_is}
use Rattle.avro_display.proofs.public.Opened.{count_entries}
use Rattle.avro_show.proofs.parts.entry_part.Goals as goal

pub returns-in-None-clause-shows : goal.returns-in-None-clause-shows
returns-in-None-clause-shows c = λ s t us d are shows.
    let is = entry_is s c.args.pair (entries_of c.args.entries.now) us c.args.index are in
    grind (arith, count_entries, is.1, shows)
