use Rattle.avro_schema_json.proofs.Words.{◌+◌, subst, false≢true, place_of, all_without_defaults, without_defaults, Label, IsParent, HasSymbols}
use Rattle.avro_schema_json.proofs.NodesSeen.{next-node, all-nodes}
use Rattle.avro_schema_json.proofs.ParentsSeen.{null-parent, parent-kept, has-kept}
use Rattle.avro_schema_json.proofs.defaults.edges.parents_of.Goals as goal

pub loop-i-preserved : goal.loop-i-preserved
loop-i-preserved c =
    let l = c.loop-i in
    let raws = c.args.raws.now in
    let nodes = all_without_defaults raws in
    let last = c.args.last in
    let raw = c.index-raws-i.result in
    let labels = c.put_node.new.labels in
    let old = l.parents in
    let new = c.put_node.new.parents in
    let names = c.in_ok-put_node.ensures.labels in
    let kept = c.in_ok-put_node.ensures.kept in (
      next-node raws l.i raw (λ m n. IsParent nodes last l.labels old n (place_of last m)) (λ m n. IsParent nodes last labels new n (place_of last m))
          c.loop-i-test.true c.index-raws-i.is (λ m n has. parent-kept nodes last l.labels labels old new n (place_of last m) names kept has)
          (subst (λ p. IsParent nodes last labels new (without_defaults raw) p) c.place_of.ensures c.in_ok-put_node.ensures.added) l.invariant.0,
      next-node raws l.i raw (λ m n. HasSymbols l.labels old last (place_of last m) n) (λ m n. HasSymbols labels new last (place_of last m) n)
          c.loop-i-test.true c.index-raws-i.is
          (λ m n has word there. has-kept l.labels labels old new (Label.named word) (last + 1) (place_of last m) names kept (has word there))
          (subst (λ p. HasSymbols labels new last p (without_defaults raw)) c.place_of.ensures c.in_ok-put_node.ensures.symbols) l.invariant.1,
    )

pub returns-clause-parents : goal.returns-clause-parents
returns-clause-parents c =
    let l = c.loop-i in
    let nodes = all_without_defaults c.args.raws.now in
    let last = c.args.last in
    all-nodes c.args.raws.now l.i (λ m n. IsParent nodes last l.labels l.parents n (place_of last m)) c.loop-i-test.false
    (λ m past. null-parent nodes last l.labels l.parents (place_of last m)) l.invariant.0

pub returns-clause-symbols : goal.returns-clause-symbols
returns-clause-symbols c =
    let l = c.loop-i in
    let last = c.args.last in
    all-nodes c.args.raws.now l.i (λ m n. HasSymbols l.labels l.parents last (place_of last m) n) c.loop-i-test.false
    (λ m past word h. absurd (false≢true h)) l.invariant.1
