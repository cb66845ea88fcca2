use Rattle.std.proofs.Common.{◌≡◌, ◌<◌, ◌+◌, ◌-◌, ℕ, drop, length, inl, inr, sym, ◌∙◌, ap, ap₂, arith, slice_get, set}
use Rattle.std.proofs.lemmas.Bool.{cases_eq}
use Rattle.std.proofs.lemmas.List.{length-set}
use Rattle.avro_schema.specs.Node.{field_ids}
use Rattle.avro_schema.specs.Seen.{seen_fields}
use Rattle.avro_least.specs.Tables.{together, all_of}
use Rattle.avro_least.specs.SeenLeast.{given_entry, table_of}
use Rattle.avro_least.proofs.Others.{field_rest}
use Rattle.avro_least.proofs.Rounds.{set_here, set_other}
use Rattle.avro_least.proofs.pairs.parts.behind.Goals as goal

back : (i : ℕ) → 0 < i → i ≡ i - 1 + 1
back i h = omega (arith, h)

pub loop-i-preserved : goal.loop-i-preserved
loop-i-preserved c =
    let inv = c.loop-i.invariant in
    let i : ℕ = c.loop-i.i - 1 in
    let within : i < length c.args.fields.now = omega (arith, inv.within, c.loop-i-test.true) in
    let behind = inv.all ∙ ap (λ (n : ℕ). all_of c.args.limit (table_of c.args.table.now) (drop n (field_ids (seen_fields c.args.fields.now)))) (back c.loop-i.i c.loop-i-test.true) in record {
      within = omega (arith, inv.within);
      one_each = length-set c.loop-i.behind.items i c.loop-i.all ∙ inv.one_each;
      all = c.together-all.ensures ∙ ap₂ (together c.args.limit) c.entry.ensures behind
          ∙ sym (ap (all_of c.args.limit (table_of c.args.table.now)) (field_rest c.args.fields.now i _ within));
      each = λ k low below. elim (cases_eq k i) [
        | inl here ↦ ap (λ (n : ℕ). given_entry (slice_get (set c.loop-i.behind.items i c.loop-i.all) n)) here
            ∙ ap given_entry (set_here c.loop-i.behind.items i c.loop-i.all (omega (arith, within, inv.one_each)))
            ∙ behind ∙ ap (λ (n : ℕ). all_of c.args.limit (table_of c.args.table.now) (drop (n + 1) (field_ids (seen_fields c.args.fields.now)))) (sym here)
        | inr apart ↦ ap given_entry (set_other c.loop-i.behind.items i k c.loop-i.all apart) ∙ inv.each k (omega (arith, low, apart)) below
      ];
    }
