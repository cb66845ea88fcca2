use Rattle.std.proofs.Common.{◌≡◌, ◌++◌, ℕ, drop}
use Rattle.std.specs.List.{AllByRecursion}
use Rattle.serde_json.specs.Data.{Data}
use Rattle.serde_json.specs.Written.{compact_text}
use Rattle.avro_display.specs.Displayed.{members_left}
use Rattle.avro_show.specs.Spans.{IsSpanAt}
use Rattle.avro_show.proofs.composing.append_members.Given as goal

abbrev pub invariant-loop-member : goal.invariant-loop-member
invariant-loop-member l = (tree : ℕ → Data) → AllByRecursion (λ m. IsSpanAt l.text l.values m.field (compact_text (tree m.field))) l.members
    → AllByRecursion (λ m. IsSpanAt l.text l.values m.field (compact_text (tree m.field))) (drop l.member-index l.members)
    × (l.initial.whole ++ members_left tree l.members ≡ l.whole ++ members_left tree (drop l.member-index l.members))
