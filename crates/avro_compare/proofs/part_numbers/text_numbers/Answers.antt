use Rattle.std.proofs.Common.{◌≡◌, ◌∙◌, [], List, ℕ, Some, ap, rules, sym, arith}
use Rattle.std.specs.Prelude.{slice_get, string_bytes}
use Rattle.avro_schema.specs.Seen.{texts_of}
use Rattle.avro_compare.specs.inside.PartNumbers.{Grows}
use Rattle.avro_compare.proofs.Named.{texts_count}
use Rattle.avro_compare.proofs.NumberedNames.{grows_more, grows_none, number_more, text_there}
use Rattle.avro_compare.proofs.public.Planning.{holds_none}
use Rattle.avro_compare.proofs.part_numbers.text_numbers.Goals as goal

pub loop-index-init : goal.loop-index-init
loop-index-init c =
    let none : c.in_ok-numbers.numbers.items ≡ [] = search rules in (
      holds_none (λ k n. (t : List ℕ) → slice_get (texts_of c.args.names.now) k ≡ Some t → slice_get c.args.texts.now n ≡ Some t) none,
      grows_none c.args.texts.now,
    )

pub loop-index-preserved : goal.loop-index-preserved
loop-index-preserved c =
    let l = c.loop-index in
    let names = c.args.names.now in
    let text = c.index-names-index.result in
    let grows : Grows l.texts c.add.new.self = record { kept = c.add.ensures.kept; distinct = λ _. c.add.ensures.distinct } in (
      number_more (texts_of names) l.texts c.add.new.self l.numbers.items c.push.new.self.items l.index c.in_ok-number.number (string_bytes text)
          (text_there names l.index text c.loop-index-test.true c.index-names-index.is)
          (c.in_ok-number.ensures.numbered ∙ ap (λ (t : List ℕ). Some t) c.as_str.ensures.value) c.add.ensures.kept c.in_ok-push.ensures.items l.invariant.0,
      grows_more _ _ _ l.invariant.1 grows,
    )

pub returns : goal.returns
returns c =
    let names = c.args.names.now in
    record {
      has = (c.loop-index.invariant.0.0, c.loop-index.invariant.0.1 ∙ omega (arith, c.loop-index-test.false, c.loop-index.auto.index-end) ∙ sym (texts_count names));
      grows = c.loop-index.invariant.1;
    }
