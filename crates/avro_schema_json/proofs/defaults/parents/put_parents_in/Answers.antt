use Rattle.avro_schema_json.proofs.Words.{List, sym, subst, has_bit, RowWord}
use Rattle.avro_schema_json.proofs.ParentsSeen.{added-next, all-added, none-shared}
use Rattle.avro_schema_json.proofs.defaults.parents.put_parents_in.Goals.{then-place-among-ne0, else-place-among-ne0}
use Rattle.avro_schema_json.proofs.defaults.parents.put_parents_in.Goals as goal

pub loop-place-preserved : goal.loop-place-preserved
loop-place-preserved c = elim c.if-place-among-ne0.branch [
  | then-place-among-ne0 w ↦
      rw w.row-is (added-next c.args.places.now c.loop-place.place-index c.args.among c.place-item.result c.args.row.now.words c.loop-place.row.words w.put_parents.new.row.words
      c.loop-place-test.true c.place-item.is w.put_parents.ensures.kept (λ i p there bit has. w.put_parents.ensures.added p (subst (λ (words : List RowWord). has_bit words p) (sym w.deref.ensures.value) has)) c.loop-place.invariant)
  | else-place-among-ne0 w ↦
      rw w.row-is (added-next c.args.places.now c.loop-place.place-index c.args.among c.place-item.result c.args.row.now.words c.loop-place.row.words c.loop-place.row.words
      c.loop-place-test.true c.place-item.is (λ p h. h)
      (λ i p there bit has. absurd (none-shared c.place-item.result.mask c.args.among i w.if-place-among-ne0.false bit there)) c.loop-place.invariant)
]

pub returns-clause-added : goal.returns-clause-added
returns-clause-added c =
    all-added c.args.places.now c.loop-place.place-index c.args.among c.args.row.now.words c.loop-place.row.words c.loop-place-test.false c.loop-place.invariant
