use Rattle.std.proofs.Common.{◌≡◌, ◌∙◌, [], List, ℕ, Some, ap, rules, sym, arith}
use Rattle.std.specs.Prelude.{slice_get, string_bytes}
use Rattle.avro_schema.specs.Seen.{field_of, seen_fields}
use Rattle.avro_compare.specs.inside.PartNumbers.{Grows, names_of}
use Rattle.avro_compare.proofs.FieldsNoted.{counted}
use Rattle.avro_compare.proofs.NumberedNames.{grows_more, grows_none, name_there, names_count, number_more}
use Rattle.avro_compare.proofs.public.Lists.{seen_at}
use Rattle.avro_compare.proofs.public.Planning.{holds_none}
use Rattle.avro_compare.proofs.part_numbers.field_numbers.Goals as goal

pub loop-index-init : goal.loop-index-init
loop-index-init c =
    let none : c.in_ok-numbers.numbers.items ≡ [] = search rules in (
      holds_none (λ k n. (t : List ℕ) → slice_get (names_of (seen_fields c.args.fields.now)) k ≡ Some t → slice_get c.args.texts.now n ≡ Some t) none,
      grows_none c.args.texts.now,
    )

pub loop-index-preserved : goal.loop-index-preserved
loop-index-preserved c =
    let l = c.loop-index in
    let fields = c.args.fields.now in
    let field = c.index-fields-index.result in
    let grows : Grows l.texts c.add.new.self = record { kept = c.add.ensures.kept; distinct = λ _. c.add.ensures.distinct } in (
      number_more (names_of (seen_fields fields)) l.texts c.add.new.self l.numbers.items c.push.new.self.items l.index c.in_ok-number.number (string_bytes field.name)
          (name_there (seen_fields fields) l.index (field_of field) (seen_at fields l.index field c.loop-index-test.true c.index-fields-index.is))
          (c.in_ok-number.ensures.numbered ∙ ap (λ (t : List ℕ). Some t) (c.as_str.ensures.value ∙ ap (λ f. string_bytes f.name) (sym c.index-fields-index.is))) c.add.ensures.kept c.in_ok-push.ensures.items l.invariant.0,
      grows_more _ _ _ l.invariant.1 grows,
    )

pub returns : goal.returns
returns c =
    let fields = c.args.fields.now in
    record {
      has = (
        c.loop-index.invariant.0.0,
        c.loop-index.invariant.0.1 ∙ omega (arith, c.loop-index-test.false, c.loop-index.auto.index-end) ∙ sym (names_count (seen_fields fields) ∙ counted fields),
      );
      grows = c.loop-index.invariant.1;
    }
