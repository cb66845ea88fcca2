use Rattle.std.proofs.Common.{ℕ, ◌∙◌, ap, sym, subst, arith}
use Rattle.indexmap.specs.IndexSet.{keys}
use Rattle.avro_schema.specs.Seen.{value_of}
use Rattle.avro_schema.specs.SeenSchema.{schema_nodes}
use Rattle.avro_least.specs.BuiltErrors.{BuildsError}
use Rattle.avro_least.specs.Tables.{erring_of}
use Rattle.avro_least.specs.SeenLeast.{seen_all, table_of}
use Rattle.avro_judge.proofs.CertifiedTables.{tables_of}
use Rattle.avro_judge.proofs.RootJudged.{compatible, above, deep, refuting}
use Rattle.avro_judge.proofs.deciding.judge_roots.Goals as goal

pub certificate_of-requires-clause-calm : goal.certificate_of-requires-clause-calm
certificate_of-requires-clause-calm c = record {
  limit = c.args.tables.now.limit;
  entries = seen_all c.args.tables.now.entries.now;
  tables = tables_of _ _ _ _ _ _ c.requires.has_data c.requires.low c.requires.shown c.requires.root c.requires.below c.requires.closed;
  calm = sym (c.in-None.ensures ∙ ap (λ (n : ℕ). erring_of n (table_of c.args.tables.now.table.now) (keys c.args.tables.now.reached.now.known) (seen_all c.args.tables.now.entries.now) 0 0) c.requires.count);
}

pub returns-in_ok-certificate-in-None : goal.returns-in_ok-certificate-in-None
returns-in_ok-certificate-in-None c = (
  compatible (schema_nodes c.args.tables.now.writer.now) (schema_nodes c.args.tables.now.reader.now) c.args.tables.now.limit (table_of c.args.tables.now.table.now) (keys c.args.tables.now.reached.now.known) (seen_all c.args.tables.now.entries.now) c.count.ensures.formed c.count-2.ensures.formed (tables_of (schema_nodes c.args.tables.now.writer.now) (schema_nodes c.args.tables.now.reader.now) c.args.tables.now.limit (table_of c.args.tables.now.table.now) (keys c.args.tables.now.reached.now.known) (seen_all c.args.tables.now.entries.now) c.requires.has_data c.requires.low c.requires.shown c.requires.root c.requires.below c.requires.closed)
      (c.in-None.ensures ∙ ap (λ (n : ℕ). erring_of n (table_of c.args.tables.now.table.now) (keys c.args.tables.now.reached.now.known) (seen_all c.args.tables.now.entries.now) 0 0) c.requires.count),
  c.in_ok-certificate-in-None.ensures,
)

pub returns-then-least-limit : goal.returns-then-least-limit
returns-then-least-limit c = above (schema_nodes c.args.tables.now.writer.now) (schema_nodes c.args.tables.now.reader.now) c.args.tables.now.limit (table_of c.args.tables.now.table.now) (keys c.args.tables.now.reached.now.known) (seen_all c.args.tables.now.entries.now) c.count.ensures.formed c.count-2.ensures.formed (tables_of (schema_nodes c.args.tables.now.writer.now) (schema_nodes c.args.tables.now.reader.now) c.args.tables.now.limit (table_of c.args.tables.now.table.now) (keys c.args.tables.now.reached.now.known) (seen_all c.args.tables.now.entries.now) c.requires.has_data c.requires.low c.requires.shown c.requires.root c.requires.below c.requires.closed)
    (record { nodes = c.in-Some.least.nodes; depth = c.in-Some.least.depth })
    (c.in-Some.ensures ∙ ap (λ (n : ℕ). erring_of n (table_of c.args.tables.now.table.now) (keys c.args.tables.now.reached.now.known) (seen_all c.args.tables.now.entries.now) 0 0) c.requires.count)
    c.if-least-limit.true

pub returns-then-least-deepest : goal.returns-then-least-deepest
returns-then-least-deepest c = deep (schema_nodes c.args.tables.now.writer.now) (schema_nodes c.args.tables.now.reader.now) c.args.tables.now.limit (table_of c.args.tables.now.table.now) (keys c.args.tables.now.reached.now.known) (seen_all c.args.tables.now.entries.now) c.count.ensures.formed c.count-2.ensures.formed (tables_of (schema_nodes c.args.tables.now.writer.now) (schema_nodes c.args.tables.now.reader.now) c.args.tables.now.limit (table_of c.args.tables.now.table.now) (keys c.args.tables.now.reached.now.known) (seen_all c.args.tables.now.entries.now) c.requires.has_data c.requires.low c.requires.shown c.requires.root c.requires.below c.requires.closed)
    (record { nodes = c.in-Some.least.nodes; depth = c.in-Some.least.depth }) c.args.deepest
    (c.in-Some.ensures ∙ ap (λ (n : ℕ). erring_of n (table_of c.args.tables.now.table.now) (keys c.args.tables.now.reached.now.known) (seen_all c.args.tables.now.entries.now) 0 0) c.requires.count)
    (omega (arith, c.if-least-limit.false)) c.if-least-deepest.true

pub returns-in_ok-datum-in-Some : goal.returns-in_ok-datum-in-Some
returns-in_ok-datum-in-Some c = refuting (schema_nodes c.args.tables.now.writer.now) (schema_nodes c.args.tables.now.reader.now) c.args.tables.now.limit (table_of c.args.tables.now.table.now) (keys c.args.tables.now.reached.now.known) (seen_all c.args.tables.now.entries.now) c.count.ensures.formed c.count-2.ensures.formed (tables_of (schema_nodes c.args.tables.now.writer.now) (schema_nodes c.args.tables.now.reader.now) c.args.tables.now.limit (table_of c.args.tables.now.table.now) (keys c.args.tables.now.reached.now.known) (seen_all c.args.tables.now.entries.now) c.requires.has_data c.requires.low c.requires.shown c.requires.root c.requires.below c.requires.closed)
    (record { nodes = c.in-Some.least.nodes; depth = c.in-Some.least.depth }) c.args.deepest (value_of c.in_ok-datum-in-Some.datum)
    (c.in-Some.ensures ∙ ap (λ (n : ℕ). erring_of n (table_of c.args.tables.now.table.now) (keys c.args.tables.now.reached.now.known) (seen_all c.args.tables.now.entries.now) 0 0) c.requires.count)
    (omega (arith, c.if-least-limit.false)) (omega (arith, c.if-least-deepest.false))
    (subst (λ (n : ℕ). BuildsError (schema_nodes c.args.tables.now.writer.now) (schema_nodes c.args.tables.now.reader.now) c.args.tables.now.limit (table_of c.args.tables.now.table.now) (erring_of n (table_of c.args.tables.now.table.now) (keys c.args.tables.now.reached.now.known) (seen_all c.args.tables.now.entries.now)) c.in-Some.least.nodes 0 0 (value_of c.in_ok-datum-in-Some.datum)) c.requires.count c.in_ok-datum-in-Some.ensures)
