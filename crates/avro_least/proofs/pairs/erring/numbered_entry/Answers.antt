use Rattle.std.proofs.Common.{◌≡◌, ℕ, sym, ◌∙◌, ap, subst, Option, Some, refl}
use Rattle.avro_least.specs.Tables.{reached_entry, no_parts}
use Rattle.avro_least.specs.SeenLeast.{seen_all}
use Rattle.avro_least.proofs.PairSteps.{given_is}
use Rattle.avro_least.proofs.pairs.erring.numbered_entry.Goals as goal

pub returns-in-None : goal.returns-in-None
returns-in-None c = subst (λ (o : Option ℕ). Some no_parts ≡ reached_entry (seen_all c.args.entries.now) o) (sym c.in-None.is ∙ c.index_near.ensures.index) refl

pub returns-in-Some : goal.returns-in-Some
returns-in-Some c = c.entry_at.ensures ∙ sym (given_is c.args.entries.now c.in-Some.i)
    ∙ ap (reached_entry (seen_all c.args.entries.now)) (sym c.in-Some.is ∙ c.index_near.ensures.index)
