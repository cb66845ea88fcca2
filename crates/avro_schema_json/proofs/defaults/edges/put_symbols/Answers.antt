use Rattle.avro_schema_json.proofs.Words.{◌+◌, ap, sym, ◌∙◌, Label, label_of, HasSymbol}
use Rattle.avro_schema_json.proofs.ParentsSeen.{keeps-on, names-on, has-kept}
use Rattle.avro_schema_json.proofs.SymbolsSeen.{next-word, all-words}
use Rattle.avro_schema_json.proofs.defaults.edges.put_symbols.Goals as goal

pub loop-word-preserved : goal.loop-word-preserved
loop-word-preserved c =
    let l = c.loop-word in
    let last = c.args.last in
    let labels = c.put_label.new.labels in
    let new = c.put_parent.new.parents in
    let names = c.in_ok-label.ensures.kept in
    let kept = c.in_ok-put_parent.ensures.kept in (
      keeps-on c.args.parents.now l.parents new l.invariant.0 kept,
      names-on c.args.labels.now l.labels labels l.invariant.1 names,
      next-word c.args.words.now l.word-index c.word-item.result (HasSymbol l.labels l.parents last c.args.parent)
          (HasSymbol labels new last c.args.parent) c.loop-word-test.true c.word-item.is
          (λ t has. has-kept l.labels labels l.parents new (Label.named t) (last + 1) c.args.parent names kept has)
          (c.in_ok-label.label, ap (label_of labels) (sym c.as_str.ensures.value) ∙ c.in_ok-label.ensures.found, c.in_ok-put_parent.ensures.added) l.invariant.2,
    )

pub returns-clause-added : goal.returns-clause-added
returns-clause-added c =
    let l = c.loop-word in
    all-words c.args.words.now l.word-index (HasSymbol l.labels l.parents c.args.last c.args.parent) c.loop-word-test.false l.invariant.2
