use Rattle.std.proofs.Common.{inl, inr, arith, sym, ◌∙◌, ap, slice_get}
use Rattle.std.proofs.lemmas.Bool.{cases_eq}
use Rattle.std.proofs.lemmas.Option.{slice_get_within}
use Rattle.indexmap.specs.IndexSet.{keys}
use Rattle.avro_least.proofs.NoneFailing.{none_seen}
use Rattle.avro_least.proofs.pairs.search.has_failing.Goals as goal

pub loop-i-preserved : goal.loop-i-preserved
loop-i-preserved c k key low here = elim (cases_eq k c.loop-i.i) [
  | inl same ↦ sym (c.value_without_parts-value.ensures.is key (ap (slice_get (keys c.args.reached.now.known)) (sym same) ∙ here))
      ∙ none_seen c.value_without_parts-value.result (sym c.is_some.ensures ∙ c.if-is_some.false)
  | inr apart ↦ c.loop-i.invariant k key (omega (arith, low, apart)) here
]

pub returns : goal.returns
returns c n i key here =
    c.loop-i.invariant i key (omega (arith, c.loop-i-test.false, c.len-i-end.ensures.len, slice_get_within (keys c.args.reached.now.known) i key here)) here
