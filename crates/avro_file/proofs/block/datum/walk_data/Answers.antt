-- Each datum is walked over where those before it end; one without bytes stands there as often as is wanted.
use Rattle.std.proofs.Common.{◌≡◌, ℕ, ◌^◌, ◌<◌, List, Ok, Err, length, take, drop, ap, sym, subst, ◌∙◌, refl, arith, rules, Fits, w64}
use Rattle.std.specs.Prelude.{None}
use Rattle.std.proofs.lemmas.List.{length-drop}
use Rattle.avro_schema.specs.Fits.{LimitValues}
use Rattle.avro_schema.specs.Node.{Node}
use Rattle.avro_schema.specs.Value.{Value, no_values}
use Rattle.avro_schema.specs.SeenSchema.{schema_nodes}
use Rattle.avro_resolve.specs.declared.error.ReadResolveError.{ReadResolveError}
use Rattle.avro_file.specs.BlockFails.{BlockReading, DataAreWhole}
use Rattle.avro_file.specs.DataRead.{reading, resolution}
use Rattle.avro_file.specs.DatumRead.{MakesOf, ReadsDatum}
use Rattle.avro_file.specs.NoBytes.{IsMadeOfNone}
use Rattle.avro_file.proofs.public.Data.{data_left, datum_fails, datum_place, same_said, walk-more, whole-none}
use Rattle.avro_file.proofs.public.EmptyData.{made_of_none, walk-rest}
use Rattle.avro_file.proofs.block.datum.walk_data.Goals as goal

-- a datum is walked over, and a datum is refused
abbrev Answers : ℕ → List Node → LimitValues → List ℕ → Type 0
Answers len nodes limits bytes = (u : Value) × Unit {0} × MakesOf nodes limits (resolution None nodes) bytes len (Ok u)

abbrev Refuses : ReadResolveError → List Node → LimitValues → List ℕ → Type 0
Refuses e nodes limits bytes = ReadsDatum {O = Unit {0}} (λ _ u. Unit {0}) nodes limits (resolution None nodes) bytes (Err e)

pub loop-datum-init : goal.loop-datum-init
loop-datum-init c = (omega arith, omega arith, (no_values, whole-none _), search rules)

pub loop-datum-preserved-then-len-eq0 : goal.loop-datum-preserved-then-len-eq0
loop-datum-preserved-then-len-eq0 c =
    let body = c.args.body.now in
    let start = c.loop-datum.start in
    let nodes = schema_nodes c.args.header.now.schema in
    let r : BlockReading = reading c.args.limits.now nodes c.args.header.now.sync None in
    let found = same_said (Answers c.in-Ok.len) _ _ _ _ _ _ (ap schema_nodes c.schema-schema.ensures) c.datum-datum_limits.ensures c.split_at.ensures.back c.in-Ok.ensures.found in
    let before = c.loop-datum.invariant.2 in
    let none : IsMadeOfNone r found.0 = made_of_none nodes r.limits.datum r.resolve (drop start body) (Ok found.0)
    (subst (λ n. MakesOf nodes r.limits.datum r.resolve (drop start body) n (Ok found.0)) c.if-len-eq0.true found.2) in (
      c.loop-datum.invariant.0,
      omega arith,
      walk-rest r c.loop-datum.datum c.args.count start body before.0 c.loop-datum.invariant.1 refl before.1 (found.0, none),
      λ _. (found.0, none),
    )

pub loop-datum-preserved : goal.loop-datum-preserved
loop-datum-preserved c =
    let body = c.args.body.now in
    let start = c.loop-datum.start in
    let len = c.in-Ok.len in
    let r : BlockReading = reading c.args.limits.now (schema_nodes c.args.header.now.schema) c.args.header.now.sync None in
    let found = same_said (Answers len) _ _ _ _ _ _ (ap schema_nodes c.schema-schema.ensures) c.datum-datum_limits.ensures c.split_at.ensures.back c.in-Ok.ensures.found in
    let before = c.loop-datum.invariant.2 in (
      omega (arith, c.loop-datum.invariant.0, found.2.in_bytes, length-drop start body),
      omega (arith, c.loop-datum-test.true),
      walk-more r c.loop-datum.datum start len body before.0 refl before.1 found,
      c.loop-datum.invariant.3,
    )

pub datum_error-requires : goal.datum_error-requires
datum_error-requires c =
    let body = c.args.body.now in
    let start = c.loop-datum.start in
    let nodes = schema_nodes c.args.header.now.schema in
    let refuses = same_said (Refuses c.in-Err.error) _ _ _ _ _ _ (ap schema_nodes c.schema-schema.ensures) c.datum-datum_limits.ensures c.split_at.ensures.back c.in-Err.ensures in
    let fits : Fits w64 (length body) = search rules in
    let small : length body < 2 ^ 64 = fits.fits in
    record {
      fits = datum_place {O = Unit {0}} (λ _ u. Unit {0}) nodes c.args.limits.now.datum (resolution None nodes) start (drop start body)
          c.in-Err.error refuses (omega (arith, small, c.loop-datum.invariant.0, length-drop start body));
    }

pub returns-in-Err-clause-refused : goal.returns-in-Err-clause-refused
returns-in-Err-clause-refused c = λ f is.
    let body = c.args.body.now in
    let start = c.loop-datum.start in
    let r : BlockReading = reading c.args.limits.now (schema_nodes c.args.header.now.schema) c.args.header.now.sync None in
    let refuses = same_said (Refuses c.in-Err.error) _ _ _ _ _ _ (ap schema_nodes c.schema-schema.ensures) c.datum-datum_limits.ensures c.split_at.ensures.back c.in-Err.ensures in
    let before = c.loop-datum.invariant.2 in
    datum_fails {O = Unit {0}} (λ _ u. Unit {0}) r c.args.number c.args.count c.loop-datum.datum start body before.0
    c.in-Err.error f (omega (arith, c.loop-datum-test.true)) c.loop-datum.invariant.0 before.1 refuses
    (sym c.datum_error.ensures.fault ∙ is)

pub returns-then-start-end-clause-refused : goal.returns-then-start-end-clause-refused
returns-then-start-end-clause-refused c = λ f is.
    let body = c.args.body.now in
    let count = c.args.count in
    let start = c.loop-datum.start in
    let r : BlockReading = reading c.args.limits.now (schema_nodes c.args.header.now.schema) c.args.header.now.sync None in
    let before = c.loop-datum.invariant.2 in
    let all : c.loop-datum.datum ≡ count = omega (arith, c.loop-datum-test.false, c.loop-datum.invariant.1) in
    data_left r c.args.number count start body before.0 f (subst (λ n. DataAreWhole r n (take start body) before.0) all before.1)
    (omega (arith, c.if-start-end.true)) is
