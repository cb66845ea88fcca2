use Rattle.std.proofs.Common.{◌≡◌, ◌<◌, ℕ, List, Option, None, inl, inr, length, arith, sym, ◌∙◌, subst}
use Rattle.std.proofs.lemmas.Bool.{cases_eq, cases_lt}
use Rattle.avro_schema.specs.Node.{Node}
use Rattle.avro_schema.specs.SeenSchema.{schema_nodes}
use Rattle.avro_least.specs.SeenLeast.{table_of}
use Rattle.avro_least.specs.declared.kept.Least.{Least as KeptLeast}
use Rattle.avro_least.specs.inside.Settled.{IsLowAt}
use Rattle.avro_least.proofs.LoweredNodes.{past_low}
use Rattle.avro_least.proofs.nodes.search.relax_all.Goals as goal

pub loop-id-preserved : goal.loop-id-preserved
loop-id-preserved c =
    let inv = c.loop-id.invariant in
    let new = c.in_ok-relax.ensures in
    let ns : List Node = schema_nodes c.args.writer.now in record {
      over = new.over;
      effort = omega (arith, new.effort, inv.effort);
      quiet = λ quiet w below.
          let still = new.quiet quiet in
          subst (λ (es : List (Option KeptLeast)). IsLowAt ns c.args.limit (table_of es) w) (sym still.1)
          (elim (cases_eq w c.loop-id.id) [
            | inl same ↦ subst (λ (p : ℕ). IsLowAt ns c.args.limit (table_of c.loop-id.search.entries.items) p) (sym same) still.2
            | inr apart ↦ inv.quiet still.0 w (omega (arith, below, apart))
          ]);
    }

pub returns-clause-quiet : goal.returns-clause-quiet
returns-clause-quiet c quiet p = elim (cases_lt p (length (schema_nodes c.args.writer.now))) [
  | inl within ↦ c.loop-id.invariant.quiet quiet p (omega (arith, within, c.loop-id-test.false, c.count-id-end.ensures.count))
  | inr past ↦ past_low c.loop-id.search.entries.items p None (schema_nodes c.args.writer.now) c.args.limit c.loop-id.invariant.over.one_each past
]
