use Rattle.std.proofs.Common.{◌≡◌, ◌<◌, ◌+◌, ◌-◌, ℕ, suc, List, Option, Some, drop, length, inl, inr, sym, ◌∙◌, ap, arith, slice_get, set}
use Rattle.std.proofs.lemmas.Bool.{cases_eq}
use Rattle.std.proofs.lemmas.List.{length-set}
use Rattle.avro_schema.specs.Node.{field_ids}
use Rattle.avro_schema.specs.Seen.{seen_fields}
use Rattle.avro_least.specs.Tables.{Least, LeastTable, no_parts, together}
use Rattle.avro_least.specs.SeenLeast.{seen, given_entry, table_of}
use Rattle.avro_least.specs.declared.kept.Least.{Least as KeptLeast}
use Rattle.avro_least.specs.inside.Parts.{least_of_others}
use Rattle.avro_least.proofs.Others.{field_rest, fields_length, others_at_first, others_here, others_more}
use Rattle.avro_least.proofs.Rounds.{set_here, set_other}
use Rattle.avro_least.proofs.pairs.parts.others_of.Goals as goal

pub loop-i-init : goal.loop-i-init
loop-i-init c = record {
  one_each = c.in_ok-others.ensures.one_each;
  done = λ k below. absurd (omega (arith, below));
  later = λ k low below. c.in_ok-others.ensures.each k below;
  before = λ k low below.
      let whole : k - 0 ≡ k = omega arith in
      others_at_first c.args.limit (table_of c.args.table.now) (field_ids (seen_fields c.args.fields.now)) k (omega (arith, below, fields_length c.args.fields.now))
      ∙ ap (λ (n : ℕ). together c.args.limit (Some no_parts) (least_of_others c.args.limit (table_of c.args.table.now) (field_ids (seen_fields c.args.fields.now)) n)) (sym whole);
}

pub loop-i-preserved : goal.loop-i-preserved
loop-i-preserved c =
    let inv = c.loop-i.invariant in
    let i : ℕ = c.loop-i.i in
    let limit : ℕ = c.args.limit in
    let table : LeastTable = table_of c.args.table.now in
    let ids : List ℕ = field_ids (seen_fields c.args.fields.now) in
    let within : i < length c.args.fields.now = c.loop-i-test.true in
    let rest = field_rest c.args.fields.now i c.index-fields-i.result within in
    let none : i - i ≡ 0 = omega arith in
    let mine : least_of_others limit table ids i ≡ seen c.together.result =
    others_here limit table (drop i ids) _ (drop (i + 1) ids) (seen c.loop-i.before) (least_of_others limit table ids i) rest
    (inv.before i (omega arith) within ∙ ap (λ (n : ℕ). together limit (seen c.loop-i.before) (least_of_others limit table (drop i ids) n)) none)
    ∙ sym (c.together.ensures ∙ ap (together limit (seen c.loop-i.before)) (c.entry_at-behind.ensures ∙ ap (λ (es : List (Option KeptLeast)). given_entry (slice_get es i)) c.deref.ensures.value ∙ inv.later i (omega arith) within)) in record {
      one_each = length-set c.loop-i.others.items i c.together.result ∙ inv.one_each;
      done = λ k below. elim (cases_eq k i) [
        | inl here ↦ ap (λ (n : ℕ). given_entry (slice_get (set c.loop-i.others.items i c.together.result) n)) here
            ∙ ap given_entry (set_here c.loop-i.others.items i c.together.result (omega (arith, within, inv.one_each)))
            ∙ sym mine ∙ ap (least_of_others limit table ids) (sym here)
        | inr apart ↦ ap given_entry (set_other c.loop-i.others.items i k c.together.result apart) ∙ inv.done k (omega (arith, below, apart))
      ];
      later = λ k low below. ap given_entry (set_other c.loop-i.others.items i k c.together.result (λ e. omega (arith, e, low))) ∙ inv.later k (omega (arith, low)) below;
      before = λ k low below.
          let next : k - i ≡ suc (k - (i + 1)) = omega (arith, low) in
          others_more limit table (drop i ids) _ (drop (i + 1) ids) (k - (i + 1)) (seen c.loop-i.before) (least_of_others limit table ids k) rest
          (inv.before k (omega (arith, low)) below ∙ ap (λ (n : ℕ). together limit (seen c.loop-i.before) (least_of_others limit table (drop i ids) n)) next)
          ∙ ap (λ (o : Option Least). together limit o (least_of_others limit table (drop (i + 1) ids) (k - (i + 1))))
          (sym (c.together-before.ensures ∙ ap (together limit (seen c.loop-i.before)) c.entry.ensures));
    }
