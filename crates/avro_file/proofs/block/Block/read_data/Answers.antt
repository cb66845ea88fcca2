-- Each datum is read where those before it end.
use Rattle.std.proofs.Common.{◌≡◌, ℕ, ◌+◌, ◌^◌, ◌<◌, List, Option, Ok, Err, take, drop, ap, sym, subst, ◌∙◌, refl, arith, rules, Fits, w64}
use Rattle.std.specs.Prelude.{option_map}
use Rattle.std.proofs.lemmas.List.{length-drop}
use Rattle.avro_schema.specs.Fits.{LimitValues}
use Rattle.avro_schema.specs.Node.{Node}
use Rattle.avro_schema.specs.Value.{Value}
use Rattle.avro_schema.specs.SeenSchema.{schema_nodes}
use Rattle.avro_schema.specs.Seen.{values_from}
use Rattle.avro_resolve.specs.declared.error.ReadResolveError.{ReadResolveError}
use Rattle.avro_file.specs.BlockFails.{DataAreWhole}
use Rattle.avro_file.specs.DataRead.{StandForData, reading, resolution}
use Rattle.avro_file.specs.DatumRead.{MakesOf, ReadsDatum}
use Rattle.avro_file.proofs.public.Data.{data_left, each-fit, datum_fails, datum_place, same_said, stand-more, stand-none}
use Rattle.avro_file.proofs.block.Block.read_data.Goals as goal

-- a datum is answered, and a datum is refused
abbrev Answers : {O : Type 0} → (O → Value → Type 0) → Option (List Node) → O → ℕ → List Node → LimitValues → List ℕ → Type 0
Answers stands reader out len nodes limits bytes = (u : Value) × stands out u × MakesOf nodes limits (resolution reader nodes) bytes len (Ok u)

abbrev Refuses : {O : Type 0} → (O → Value → Type 0) → Option (List Node) → ReadResolveError → List Node → LimitValues → List ℕ → Type 0
Refuses {O} stands reader e nodes limits bytes = ReadsDatum {O = O} stands nodes limits (resolution reader nodes) bytes (Err e)

pub loop-datum-init : goal.loop-datum-init
loop-datum-init g c = grind (arith, stand-none)

pub loop-datum-preserved : goal.loop-datum-preserved
loop-datum-preserved g c =
    let body = c.args.self.now.body.items in
    let start = c.loop-datum.start in
    let answer = c.in-Ok.answer in
    let len = c.in-Ok.len in
    let reader : Option (List Node) = option_map (λ p. schema_nodes p.1) c.args.plan.now in
    let r = reading c.args.self.now.limits (schema_nodes c.args.schema.now) c.args.self.now.header.now.sync reader in
    let rest : c.split_at.result.1.now ≡ drop start body = c.split_at.ensures.back ∙ ap (drop start) c.deref.ensures.value in
    let planned = c.in-Ok.ensures.found in
    let found = same_said (Answers g.B.Build.stands_for reader answer len) _ _ _ _ _ _ refl c.datum-limits.ensures rest planned in
    let stands = stand-more g.B.Build.stands_for r c.loop-datum.datum start len body c.loop-datum.answers.items answer refl c.loop-datum.invariant.2 found in (
      omega (arith, c.loop-datum.invariant.0, found.2.in_bytes, length-drop start body),
      omega (arith, c.loop-datum-test.true, c.count-count.ensures),
      subst (λ outs. StandForData g.B.Build.stands_for r (c.loop-datum.datum + 1) (take (start + len) body) outs) (sym c.in_ok-push-in-Ok.ensures.items) stands,
    )

pub datum_error-requires : goal.datum_error-requires
datum_error-requires g c =
    let body = c.args.self.now.body.items in
    let start = c.loop-datum.start in
    let reader : Option (List Node) = option_map (λ p. schema_nodes p.1) c.args.plan.now in
    let rest : c.split_at.result.1.now ≡ drop start body = c.split_at.ensures.back ∙ ap (drop start) c.deref.ensures.value in
    let planned = c.in-Err.ensures in
    let refuses = same_said (Refuses g.B.Build.stands_for reader c.in-Err.error) _ _ _ _ _ _ refl c.datum-limits.ensures rest planned in
    let fits : Fits w64 c.len-end.result = search rules in
    let small : c.len-end.result < 2 ^ 64 = fits.fits in
    record {
      fits = datum_place g.B.Build.stands_for (schema_nodes c.args.schema.now) c.args.self.now.limits.datum (resolution reader (schema_nodes c.args.schema.now)) start (drop start body)
          c.in-Err.error refuses (omega (arith, small, c.len-end.ensures, c.loop-datum.invariant.0, length-drop start body));
    }

pub returns-in-Err-clause-refused : goal.returns-in-Err-clause-refused
returns-in-Err-clause-refused g c = λ f is.
    let body = c.args.self.now.body.items in
    let start = c.loop-datum.start in
    let reader : Option (List Node) = option_map (λ p. schema_nodes p.1) c.args.plan.now in
    let r = reading c.args.self.now.limits (schema_nodes c.args.schema.now) c.args.self.now.header.now.sync reader in
    let rest : c.split_at.result.1.now ≡ drop start body = c.split_at.ensures.back ∙ ap (drop start) c.deref.ensures.value in
    let planned = c.in-Err.ensures in
    let refuses = same_said (Refuses g.B.Build.stands_for reader c.in-Err.error) _ _ _ _ _ _ refl c.datum-limits.ensures rest planned in
    datum_fails g.B.Build.stands_for r c.args.self.now.number c.args.self.now.count c.loop-datum.datum start body (values_from c.loop-datum.invariant.2.values)
    c.in-Err.error f (omega (arith, c.loop-datum-test.true, c.count-count.ensures)) c.loop-datum.invariant.0 c.loop-datum.invariant.2.whole refuses
    (sym c.datum_error.ensures.fault ∙ is)

pub returns-then-start-end-clause-refused : goal.returns-then-start-end-clause-refused
returns-then-start-end-clause-refused g c = λ f is.
    let body = c.args.self.now.body.items in
    let count = c.args.self.now.count in
    let start = c.loop-datum.start in
    let reader : Option (List Node) = option_map (λ p. schema_nodes p.1) c.args.plan.now in
    let r = reading c.args.self.now.limits (schema_nodes c.args.schema.now) c.args.self.now.header.now.sync reader in
    let stand = c.loop-datum.invariant.2 in
    let all : c.loop-datum.datum ≡ count = omega (arith, c.loop-datum-test.false, c.count-count.ensures, c.loop-datum.invariant.1) in
    data_left r c.args.self.now.number count start body (values_from stand.values) f
    (subst (λ n. DataAreWhole r n (take start body) (values_from stand.values)) all stand.whole)
    (omega (arith, c.if-start-end.true, c.len-end.ensures)) is

pub returns-clause-fit : goal.returns-clause-fit
returns-clause-fit g c = grind (arith, each-fit)
