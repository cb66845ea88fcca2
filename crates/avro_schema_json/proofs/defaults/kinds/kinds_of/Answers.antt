use Rattle.avro_schema_json.proofs.Words.{arith, sym, subst, place_of, HasKind, kind_of}
use Rattle.avro_schema_json.proofs.KindsSeen.{past_last}
use Rattle.avro_schema_json.proofs.NodesSeen.{next-node, all-nodes}
use Rattle.avro_schema_json.proofs.defaults.kinds.kinds_of.Goals as goal

pub loop-i-preserved : goal.loop-i-preserved
loop-i-preserved c =
    let l = c.loop-i in
    let last = c.args.last in
    let new = c.put_kind-in-loop-i.new.rows in
    let kept = c.in_ok-put_kind-2.ensures.kept in
    let here =
    subst (λ k. HasKind new k (place_of last l.i)) c.kind_of.ensures (subst (HasKind new c.kind_of.result) c.place_of.ensures c.in_ok-put_kind-2.ensures.added) in (
      kept (0, 0) last l.invariant.0,
      next-node c.args.raws.now l.i c.index-raws-i.result (λ m n. HasKind l.rows (kind_of n) (place_of last m)) (λ m n. HasKind new (kind_of n) (place_of last m))
          c.loop-i-test.true c.index-raws-i.is (λ m n has. kept (kind_of n) (place_of last m) has) here l.invariant.1,
    )

pub returns : goal.returns
returns c =
    let l = c.loop-i in
    let last = c.args.last in
    all-nodes c.args.raws.now l.i (λ m n. HasKind l.rows (kind_of n) (place_of last m)) c.loop-i-test.false
    (λ m past. subst (HasKind l.rows (0, 0)) (sym (past_last last m (omega (arith, past, c.requires)))) l.invariant.0) l.invariant.1
