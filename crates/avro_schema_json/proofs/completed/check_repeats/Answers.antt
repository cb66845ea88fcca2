use Rattle.avro_schema_json.proofs.Words.{inl, inr, refl}
use Rattle.avro_schema_json.proofs.completed.check_repeats.Goals as goal

pub returns-then-branch-clause-refused : goal.returns-then-branch-clause-refused
returns-then-branch-clause-refused c = inr (inl (refl, c.in_ok-has_repeated_branch.ensures c.if-branch.true))

pub returns-then-branch-2-clause-refused : goal.returns-then-branch-2-clause-refused
returns-then-branch-2-clause-refused c = inr (inr (refl, c.in_ok-has_repeated_field.ensures.found c.if-branch-2.true))
