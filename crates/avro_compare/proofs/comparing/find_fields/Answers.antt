use Rattle.std.proofs.Common.{◌≡◌, ◌<◌, ◌+◌, ◌-◌, ◌∙◌, ap, length, refl, sym, subst, arith, ℕ}
use Rattle.avro_schema.specs.Seen.{seen_fields}
use Rattle.avro_compare.specs.declared.comparison.At.TheVariants.{Pair}
use Rattle.avro_compare.proofs.FieldsNoted.{AreForFrom, counted, for_none, for_past, for_noted, noted_count}
use Rattle.avro_compare.proofs.NoFields.{for_nothing, none_seen}
use Rattle.avro_compare.proofs.public.Lists.{seen_at}
use Rattle.avro_compare.proofs.comparing.find_fields.Goals as goal

pub loop-left-preserved-in-Some : goal.loop-left-preserved-in-Some
loop-left-preserved-in-Some c =
    let l = c.loop-left in
    let ws = seen_fields c.args.writes.now in
    let reads = c.args.reads.now in
    let f = c.index-reads-left.result in
    let one : l.left ≡ l.left - 1 + 1 = omega (arith, c.loop-left-test.true) in
    let low : l.left - 1 < length reads = omega (arith, c.loop-left-test.true, l.invariant.0) in
    let from = sym (c.source_kept.ensures (seen_fields reads) c.requires (seen_at reads (l.left - 1) f low c.index-reads-left.is)) ∙ c.in-Some.is in (
      omega (arith, l.invariant.0),
      for_noted ws reads (l.left - 1) f low c.index-reads-left.is l.found.items c.note.new.found.items c.in-Some.index c.node_of_field.result from c.node_of_field.ensures c.note.ensures
          (subst (λ (n : ℕ). AreForFrom ws reads n l.found.items) one l.invariant.1),
      ap length c.note.ensures ∙ noted_count l.found.items c.in-Some.index (Pair c.node_of_field.result f.node) ∙ l.invariant.2,
    )

pub loop-left-preserved : goal.loop-left-preserved
loop-left-preserved c =
    let l = c.loop-left in
    let ws = seen_fields c.args.writes.now in
    let reads = c.args.reads.now in
    let f = c.index-reads-left.result in
    let one : l.left ≡ l.left - 1 + 1 = omega (arith, c.loop-left-test.true) in
    let low : l.left - 1 < length reads = omega (arith, c.loop-left-test.true, l.invariant.0) in
    let none = sym (c.source_kept.ensures (seen_fields reads) c.requires (seen_at reads (l.left - 1) f low c.index-reads-left.is)) ∙ c.in-None.is in (
      omega (arith, l.invariant.0),
      for_past ws reads (l.left - 1) f low c.index-reads-left.is l.found.items none (subst (λ (n : ℕ). AreForFrom ws reads n l.found.items) one l.invariant.1),
      l.invariant.2,
    )

pub loop-left-init : goal.loop-left-init
loop-left-init c =
    let ws = seen_fields c.args.writes.now in
    let found = c.in_ok-found in (
      omega arith,
      for_none ws c.args.reads.now (length c.args.reads.now) found.found.items refl found.ensures.ignored,
      omega (arith, found.ensures.all, counted c.args.writes.now),
    )

pub returns : goal.returns
returns c =
    let l = c.loop-left in
    let ws = seen_fields c.args.writes.now in
    let end : l.left ≡ 0 = omega (arith, c.loop-left-test.false) in
    record { each = subst (λ (n : ℕ). AreForFrom ws c.args.reads.now n l.found.items) end l.invariant.1; all = l.invariant.2 }

pub returns-then-writes-eq0-clause-each : goal.returns-then-writes-eq0-clause-each
returns-then-writes-eq0-clause-each c =
    for_nothing (seen_fields c.args.writes.now) (seen_fields c.args.reads.now) c.in_ok-found.found.items
    (none_seen c.args.writes.now (omega (arith, c.if-writes-eq0.true))) c.in_ok-found.ensures.ignored
