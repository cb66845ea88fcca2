use Rattle.std.proofs.Common.{ℕ, List, refl, subst}
use Rattle.std.specs.Prelude.{option_map}
use Rattle.avro_schema.specs.Fits.{LimitValues}
use Rattle.avro_schema.specs.SeenSchema.{schema_nodes}
use Rattle.avro_answer.specs.DataPut.{DatumPut}
use Rattle.avro_answer.proofs.public.Skipped.{put_behind, too_few_for}
use Rattle.avro_tool.specs.DefaultLimits.{datum_limits}
use Rattle.avro_tool.proofs.commands.read.put_datum.Goals as goal

pub returns-in-Ok : goal.returns-in-Ok
returns-in-Ok g c =
    let W = schema_nodes c.args.plan.now.0 in
    let R = option_map schema_nodes c.args.plan.now.1 in
    let asked = c.args.asked.now in
    let rest : List ℕ = c.in-Ok.rest.now in
    let O = g.O.Output in
    put_behind W R datum_limits asked.skip c.args.bytes.now c.in-Ok.ensures.within rest c.in-Ok.ensures.behind O.keeps O.failures O.stuck asked.form c.args.out.now c.put.new.out c.put.result
    (subst (λ (L : LimitValues). DatumPut O.keeps O.failures O.stuck W R L asked.form 0 rest c.args.out.now c.put.new.out c.put.result) c.default.ensures c.put.ensures)

pub returns-in-Err : goal.returns-in-Err
returns-in-Err g c = record {
  put = tt;
  front = tt;
  refused = (
    g.met.O.Output.none c.args.out.now,
    too_few_for (schema_nodes c.args.plan.now.0) (option_map schema_nodes c.args.plan.now.1) datum_limits c.args.asked.now.skip c.args.bytes.now
        c.in-Err.ensures.few c.in-Err.error c.in-Err.ensures.end,
  );
  works = tt;
  fails = λ is. absurd cc;
  memory = λ is. absurd cc;
  unused = refl;
}
