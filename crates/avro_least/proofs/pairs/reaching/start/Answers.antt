use Rattle.std.proofs.Common.{[], ◌∷◌, inl, inr, true, refl}
use Rattle.std.proofs.lemmas.Bool.{and_from}
use Rattle.indexmap.specs.IndexSet.{keys}
use Rattle.avro_least.specs.Reached.{is_key}
use Rattle.avro_least.proofs.public.Keys.{no_key, none_pass}
use Rattle.avro_certificate.proofs.public.Tests.{and_left, or_cases}
use Rattle.avro_least.proofs.pairs.reaching.start.Goals as goal

pub returns-clause-root : goal.returns-clause-root
returns-clause-root c = and_left (is_key (keys c.add_all.new.known) 0) true c.in_ok-add_all.ensures.added

pub returns-clause-alone : goal.returns-clause-alone
returns-clause-alone c = λ k m. elim (or_cases (is_key (keys c.with_hasher-known.result) k) (is_key (0 ∷ []) k) (c.in_ok-add_all.ensures.old_or_new k m)) [
  | inl before ↦ absurd (no_key (keys c.with_hasher-known.result) k c.with_hasher-known.ensures.len before)
  | inr own ↦ own
]

pub returns-clause-all : goal.returns-clause-all
returns-clause-all c = λ P zero. c.in_ok-add_all.ensures.all P (none_pass P (keys c.with_hasher-known.result) c.with_hasher-known.ensures.len) (and_from (P 0) true zero refl)
