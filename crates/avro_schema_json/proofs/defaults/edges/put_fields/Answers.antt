use Rattle.avro_schema_json.proofs.Words.{sym, ap, ◌∙◌, field_without_default, all_without_defaults, fields_seen, label_of, IsField, raw_field_of}
use Rattle.avro_schema_json.proofs.EachSeen.{mapped-twice, before-next, before-all}
use Rattle.avro_schema_json.proofs.ParentsSeen.{keeps-on, names-on, field-kept}
use Rattle.avro_schema_json.proofs.RawSeen.{fields_past}
use Rattle.avro_schema_json.proofs.defaults.edges.put_fields.Goals as goal

pub loop-field-preserved : goal.loop-field-preserved
loop-field-preserved c =
    let l = c.loop-field in
    let fs = c.args.fields.now in
    let nodes = all_without_defaults c.args.raws.now in
    let labels = c.put_label.new.labels in
    let new = c.put_part.new.parents in
    let names = c.in_ok-label.ensures.kept in
    let kept = c.in_ok-put_part.ensures.kept in (
      keeps-on c.args.parents.now l.parents new l.invariant.0 kept,
      names-on c.args.labels.now l.labels labels l.invariant.1 names,
      before-next (fields_seen fs) l.field-index (field_without_default (raw_field_of c.field-item.result))
          (λ k f. IsField nodes c.args.last l.labels l.parents f c.args.parent) (λ k f. IsField nodes c.args.last labels new f c.args.parent)
          (mapped-twice raw_field_of field_without_default fs l.field-index c.field-item.result c.loop-field-test.true c.field-item.is)
          (λ k f has. field-kept nodes c.args.last l.labels labels l.parents new f c.args.parent names kept has)
          (c.in_ok-label.label, ap (label_of labels) (sym c.as_str.ensures.value) ∙ c.in_ok-label.ensures.found, c.in_ok-put_part.ensures.added) l.invariant.2,
    )

pub returns-clause-added : goal.returns-clause-added
returns-clause-added c =
    let l = c.loop-field in
    before-all (fields_seen c.args.fields.now) l.field-index (λ k f. IsField (all_without_defaults c.args.raws.now) c.args.last l.labels l.parents f c.args.parent)
    (fields_past c.args.fields.now l.field-index c.loop-field-test.false) l.invariant.2
