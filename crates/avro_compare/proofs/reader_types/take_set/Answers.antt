use Rattle.std.proofs.Common.{ap, sym, ◌∙◌, ℕ}
use Rattle.std.specs.Prelude.{nat_eq}
use Rattle.std.specs.List.{list_any}
use Rattle.indexmap.specs.IndexSet.{contains}
use Rattle.avro_schema.specs.Fits.{is_some_and}
use Rattle.avro_compare.proofs.reader_types.take_set.Goals as goal

pub returns-in-Some-clause-taken : goal.returns-in-Some-clause-taken
returns-in-Some-clause-taken c = λ b. ap (is_some_and (λ set. contains nat_eq set b)) (sym c.in-Some.is ∙ c.remove.ensures.value)

pub returns-in-Some-clause-others : goal.returns-in-Some-clause-others
returns-in-Some-clause-others c = c.remove.ensures.updates.0

pub returns-in-None-clause-taken : goal.returns-in-None-clause-taken
returns-in-None-clause-taken c = λ b.
    ap (list_any (nat_eq b)) c.new.ensures.empty ∙ ap (is_some_and (λ set. contains nat_eq set b)) (sym c.in-None.is ∙ c.remove.ensures.value)

pub returns-in-None-clause-others : goal.returns-in-None-clause-others
returns-in-None-clause-others c = c.remove.ensures.updates.0
