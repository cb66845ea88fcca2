use Rattle.std.proofs.Common.{◌≡◌, List, Option, length, sym, ◌∙◌, ap, subst}
use Rattle.avro_schema.specs.Node.{Node, node_at}
use Rattle.avro_schema.specs.Seen.{node_of}
use Rattle.avro_schema.specs.SeenSchema.{schema_nodes}
use Rattle.avro_least.specs.Tables.{AreDataShown, least_datum}
use Rattle.avro_least.specs.SeenLeast.{seen, table_of}
use Rattle.avro_least.specs.declared.kept.Least.{Least as KeptLeast}
use Rattle.avro_least.specs.inside.Settled.{table_in}
use Rattle.avro_least.proofs.LoweredNodes.{lowered_shown, node_shown, worse_low}
use Rattle.avro_least.proofs.Searching.{length_lowered, lowered_worse}
use Rattle.avro_least.proofs.nodes.search.relax.Goals as goal

pub returns-clause-over : goal.returns-clause-over
returns-clause-over c =
    let ns : List Node = schema_nodes c.args.writer.now in
    let es : List (Option KeptLeast) = c.args.search.now.entries.items in
    let found = c.least_of-found.result in
    let is : seen found ≡ least_datum c.args.limit (table_of es) (node_at ns c.args.id) =
    c.least_of-found.ensures
    ∙ ap (λ (xs : List (Option KeptLeast)). least_datum c.args.limit (table_of xs) (node_of c.get.result.now)) c.deref.ensures.value
    ∙ ap (least_datum c.args.limit (table_of es)) c.get.ensures.node in record {
      one_each = ap length c.in_ok-lower.ensures.entries ∙ length_lowered es c.args.id found ∙ c.requires.over.one_each;
      shown = subst (λ (xs : List (Option KeptLeast)). AreDataShown ns c.args.limit (table_of xs)) (sym c.in_ok-lower.ensures.entries)
          (lowered_shown es c.args.id found ns c.args.limit c.requires.over.shown
          (node_shown ns c.args.limit (table_of es) c.args.id (seen found) c.count.ensures.formed c.requires.over.shown is));
    }

pub returns-clause-quiet : goal.returns-clause-quiet
returns-clause-quiet c quiet =
    let ns : List Node = schema_nodes c.args.writer.now in
    let es : List (Option KeptLeast) = c.args.search.now.entries.items in
    let found = c.least_of-found.result in
    let is : seen found ≡ least_datum c.args.limit (table_of es) (node_at ns c.args.id) =
    c.least_of-found.ensures
    ∙ ap (λ (xs : List (Option KeptLeast)). least_datum c.args.limit (table_of xs) (node_of c.get.result.now)) c.deref.ensures.value
    ∙ ap (least_datum c.args.limit (table_of es)) c.get.ensures.node in
    let still = c.in_ok-lower.ensures.quiet quiet in (
      still.0,
      c.in_ok-lower.ensures.entries ∙ lowered_worse es c.args.id found still.1,
      worse_low es c.args.id found ns c.args.limit c.requires.over.one_each is still.1,
    )
