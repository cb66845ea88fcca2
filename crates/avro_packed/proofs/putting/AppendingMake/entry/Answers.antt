use Rattle.std.proofs.Common.{◌++◌, ◌∙◌, List, ℕ, ap, refl, subst, sym}
use Rattle.avro_schema.specs.Seen.{entries_from}
use Rattle.avro_cursor.specs.Encoding.{plain, plain_bytes, plain_entries}
use Rattle.avro_packed.specs.Appended.{Holds, Output}
use Rattle.avro_packed.proofs.Gathering.{entry_gathered}
use Rattle.avro_packed.proofs.putting.AppendingMake.entry.Goals as goal

pub returns-clause-stands : goal.returns-clause-stands
returns-clause-stands c = λ nodes id at es v are is.
    let counted = c.count_more.new.self in
    let mid = c.join_key.new.self.bytes in
    let key = plain_bytes c.args.key.now in
    let front = plain_entries (entries_from es) in
    let same = ap (λ (o : Output). o.bytes) c.in_ok-join_key.ensures.same in
    let before = subst (λ w. Holds c.args.self.now.bytes w front) (sym c.in_ok-count_more.ensures.written) are.1.1 in
    let keyed = subst (λ (k : List ℕ). Holds mid c.join_key.new.first (front ++ plain_bytes k)) c.as_bytes.ensures.value (c.in_ok-join_key.ensures.joined front before) in
    let value = subst (λ (o : List ℕ). Holds o c.args.value (plain v)) (sym same) (is (λ _. refl)) in
    entry_gathered c.join.result c.join.new.self.bytes counted.into at.branch counted.count c.args.entries.now.count c.args.key.now c.join.new.first es v
    (c.in_ok-count_more.ensures.into ∙ are.0) are.1.0 c.in_ok-count_more.ensures.count (c.join.ensures.joined (front ++ key) (plain v) keyed value)
