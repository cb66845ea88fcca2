use Rattle.std.proofs.Common.{◌≡◌, ◌++◌, ℕ, ℤ, List, w64, subst, ◌∙◌, rules, FitsSigned}
use Rattle.std.specs.Prelude.{IfOk, pos}
use Rattle.std.proofs.lemmas.Int.{to_z-of_z}
use Rattle.avro_zigzag.specs.Number.{number_bytes}
use Rattle.avro_packed.specs.Appended.{Holds, branch_bytes}
use Rattle.avro_packed.specs.inside.Outputs.{still_holds}
use Rattle.avro_packed.proofs.Gathering.{block_closed}
use Rattle.avro_packed.proofs.appending.Appending.block.Goals as goal

pub returns-in_ok-head-in-Ok-clause-holds : goal.returns-in_ok-head-in-Ok-clause-holds
returns-in_ok-head-in-Ok-clause-holds c = λ bytes holds.
    let old = c.args.self.now.bytes in
    let new = c.number-in-Ok.new.self.bytes in
    let front = branch_bytes c.args.gathered.into in
    let k = number_bytes (pos c.args.gathered.count) in
    let fits : FitsSigned w64 c.in-Ok.count = search rules in
    let named : c.in-Ok.count ≡ pos c.args.gathered.count = search rules in
    let head : Holds new c.in_ok-head-in-Ok.head (front ++ k) =
    subst (λ (z : ℤ). Holds new c.in_ok-head-in-Ok.head (front ++ number_bytes z)) (to_z-of_z w64 c.in-Ok.count fits ∙ named) c.in_ok-head-in-Ok.ensures.holds in
    let behind = still_holds old new c.args.gathered.written bytes c.in_ok-head-in-Ok.ensures.kept.1 holds in
    subst (λ (l : List ℕ). IfOk c.closed.result (λ all. Holds c.closed.new.self.bytes all l)) (block_closed front bytes c.args.gathered.count c.if-gathered-eq0.false)
    (c.closed.ensures.holds (front ++ k) bytes head behind)
