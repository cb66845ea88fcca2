-- The plan is of the reader, and the table shows the reader's schema.
use Rattle.std.proofs.Common.{◌≡◌, List, Option, Some, None, sym, subst, ◌∙◌}
use Rattle.std.specs.Prelude.{IfSome, option_map}
use Rattle.std.specs.Option.{option_copied}
use Rattle.avro_schema.specs.Fits.{LimitValues}
use Rattle.avro_schema.specs.Node.{Node}
use Rattle.avro_file.specs.DataRead.{resolution}
use Rattle.avro_show.specs.Spans.{StandsIn}
use Rattle.avro_lines.specs.inside.DataShown.{Displays}
use Rattle.avro_lines.specs.inside.OpenedSeen.{reading_for, shown_for}
use Rattle.avro_lines.proofs.Plans.{alone-said, planned-said, table-alone, table-planned}
use Rattle.avro_lines.proofs.line.display.Goals as goal

pub returns-in-Some : goal.returns-in-Some
returns-in-Some c =
    let opened = c.args.opened.now in
    let scratch = c.display_planned.new.scratch in
    let planned : Some c.in-Some.plan ≡ option_map (λ r. (opened.header.now.schema, r)) (option_copied opened.task.now.reader) = sym c.in-Some.is ∙ opened.planned in
    subst (λ (limits : LimitValues). IfSome c.display_planned.result (λ len. Displays (reading_for opened).nodes limits (reading_for opened).resolve (shown_for opened) c.args.bytes.now len (StandsIn scratch.text scratch.shown))) c.datum-limits.ensures
    (planned-said (λ (nodes : List Node) (reader : Option (List Node)). IfSome c.display_planned.result (λ len. Displays nodes c.datum-limits.result (resolution reader nodes) (shown_for opened) c.args.bytes.now len (StandsIn scratch.text scratch.shown)))
    _ _ _ planned (c.display_planned.ensures (table-planned _ _ _ _ planned opened.displayed)))

pub returns-in-None : goal.returns-in-None
returns-in-None c =
    let opened = c.args.opened.now in
    let scratch = c.display_own.new.scratch in
    let alone : None ≡ option_map (λ r. (opened.header.now.schema, r)) (option_copied opened.task.now.reader) = sym c.in-None.is ∙ opened.planned in
    let same = table-alone _ _ _ alone opened.displayed in
    subst (λ (limits : LimitValues). IfSome c.display_own.result (λ len. Displays (reading_for opened).nodes limits (reading_for opened).resolve (shown_for opened) c.args.bytes.now len (StandsIn scratch.text scratch.shown))) c.datum-limits.ensures
    (alone-said (λ (nodes : List Node) (reader : Option (List Node)). IfSome c.display_own.result (λ len. Displays nodes c.datum-limits.result (resolution reader nodes) (shown_for opened) c.args.bytes.now len (StandsIn scratch.text scratch.shown)))
    _ _ alone
    (subst (λ (nodes : List Node). IfSome c.display_own.result (λ len. Displays nodes c.datum-limits.result (resolution None nodes) (shown_for opened) c.args.bytes.now len (StandsIn scratch.text scratch.shown))) same c.display_own.ensures))
