use Rattle.avro_schema_json.proofs.Words.{arith, ◌≡◌, List, ℕ, false, Option, None, refl, sym, ap, ◌∙◌, slice_get, string_bytes, is_some, hash_map_updates_str, fields_seen, KeptField as RawField}
use Rattle.avro_schema_json.proofs.DefaultSteps.{field_at-found}
use Rattle.avro_schema_json.proofs.RawSeen.{field_item, fields_past}
use Rattle.avro_schema_json.proofs.RepeatsSeen.{name-found, names-next, new-next, none-left}
use Rattle.avro_schema_json.proofs.repeats.repeats_name.Goals as goal

none-there : (o : Option ℕ) → is_some o ≡ false → o ≡ None
none-there o h = grind arith

pub returns-then-is_some-clause-found : goal.returns-then-is_some-clause-found
returns-then-is_some-clause-found c = λ holds.
    let fs = c.args.fields.now in
    let fields = fields_seen fs in
    let i = c.loop-i.i in
    let f = c.index-fields-i.result in
    let name = c.as_str-name.result.now in
    let found = field_at-found fields i name f.node.0 (slice_get fields i) refl (field_item fs i f name c.loop-i-test.true c.index-fields-i.is (c.as_str-name.ensures.value ∙ ap (λ (g : RawField). string_bytes g.name) (sym c.index-fields-i.is))) in
    name-found fields c.loop-i.names i found.0 name found.1.at (sym found.1.named) (ap is_some (sym c.in_ok-old.ensures.old) ∙ sym c.is_some.ensures ∙ c.if-is_some.true) c.loop-i.invariant.0

pub loop-i-preserved : goal.loop-i-preserved
loop-i-preserved c =
    let l = c.loop-i in
    let fs = c.args.fields.now in
    let fields = fields_seen fs in
    let f = c.index-fields-i.result in
    let name = c.as_str-name.result.now in
    let found = field_at-found fields l.i name f.node.0 (slice_get fields l.i) refl (field_item fs l.i f name c.loop-i-test.true c.index-fields-i.is (c.as_str-name.ensures.value ∙ ap (λ (g : RawField). string_bytes g.name) (sym c.index-fields-i.is))) in
    let put = λ (word : List ℕ). hash_map_updates_str name l.names c.insert.new.self _ c.in_ok-old.ensures.updates word in (
      names-next fields l.names c.insert.new.self l.i found.0 name found.1.at (sym found.1.named) put l.invariant.0,
      λ left. l.invariant.1 (new-next fields l.names c.insert.new.self l.i found.0 name found.1.at (sym found.1.named)
          (sym c.in_ok-old.ensures.old ∙ none-there c.in_ok-old.old (sym c.is_some.ensures ∙ c.if-is_some.false)) put left),
    )

pub returns-clause-distinct : goal.returns-clause-distinct
returns-clause-distinct c = λ answer.
    c.loop-i.invariant.1 (none-left (fields_seen c.args.fields.now) c.loop-i.names c.loop-i.i (fields_past c.args.fields.now c.loop-i.i c.loop-i-test.false))
