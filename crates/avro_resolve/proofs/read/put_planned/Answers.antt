use Rattle.std.proofs.Common.{ap, subst, sym, ◌∙◌}
use Rattle.avro_schema.specs.Node.{node_at}
use Rattle.avro_schema.specs.SeenSchema.{schema_nodes}
use Rattle.avro_compare.specs.Resolve.{resolve_root}
use Rattle.avro_resolve.specs.inside.Guided.{MadeAs, of_node}
use Rattle.avro_resolve.proofs.OnePass.{at_roots, guide_is, resolved, unresolved, unread}
use Rattle.avro_resolve.proofs.read.put_planned.Goals as goal

pub returns-in-Good-clause-reads : goal.returns-in-Good-clause-reads
returns-in-Good-clause-reads g c =
    let writer = schema_nodes c.args.plan.now.0 in
    let reader = schema_nodes c.args.plan.now.1 in
    let last = c.read_made.new.maker in
    resolved _ writer reader c.args.limits.now c.args.bytes.now
    (node_at writer c.root-w.result.0) (ap (node_at writer) c.root-w.ensures.root)
    c.in-Good.out c.in-Ok.len (rw (c.in-Good.is, c.writer-writer.ensures) at c.in-Ok.ensures.reads)
    (λ made v h. subst (λ m. MadeAs (of_node (g.M.Make.stands_for m) reader 0) made (resolve_root writer reader v)) (sym (c.maker-1.given.1 (sym (h.0.0.1 ∙ c.new-resolving.ensures.lent))))
    (at_roots (g.M.Make.stands_for last.maker.now) writer reader (schema_nodes last.plan.now.0) (schema_nodes last.plan.now.1) (node_at writer c.root-w.result.0) c.root_part-part.result.at made v
    (guide_is writer reader _ _ _ _ (ap (λ p. schema_nodes p.0) (sym c.new-resolving.ensures.plan)) (ap (λ p. schema_nodes p.1) (sym c.new-resolving.ensures.plan)) h.0.1) (ap (node_at writer) c.root-w.ensures.root) c.root_part-part.ensures (h.1 c.requires.told)))

pub returns-in-Good-clause-kept : goal.returns-in-Good-clause-kept
returns-in-Good-clause-kept g c =
    let kept = c.in-Ok.ensures.reads.found.1.0.0 in
    subst (g.M.Make.keeps c.args.maker.now) (sym (c.maker-1.given.1 (sym (kept.1 ∙ c.new-resolving.ensures.lent))))
    (subst (λ m. g.M.Make.keeps m c.read_made.new.maker.maker.now) c.new-resolving.ensures.starts kept.0)

pub returns-in-Faulty-clause-reads : goal.returns-in-Faulty-clause-reads
returns-in-Faulty-clause-reads g c =
    let writer = schema_nodes c.args.plan.now.0 in
    let reader = schema_nodes c.args.plan.now.1 in
    let last = c.read_made.new.maker in
    unresolved _ writer reader c.args.limits.now c.args.bytes.now
    (node_at writer c.root-w.result.0) (ap (node_at writer) c.root-w.ensures.root)
    c.in-Faulty.fault c.turn_apart.result c.in-Ok.len (rw (c.in-Faulty.is, c.writer-writer.ensures) at c.in-Ok.ensures.reads)
    (λ made v h. subst (λ m. MadeAs (of_node (g.M.Make.stands_for m) reader 0) made (resolve_root writer reader v)) (sym (c.maker-1.given.1 (sym (h.0.0.1 ∙ c.new-resolving.ensures.lent))))
    (at_roots (g.M.Make.stands_for last.maker.now) writer reader (schema_nodes last.plan.now.0) (schema_nodes last.plan.now.1) (node_at writer c.root-w.result.0) c.root_part-part.result.at made v
    (guide_is writer reader _ _ _ _ (ap (λ p. schema_nodes p.0) (sym c.new-resolving.ensures.plan)) (ap (λ p. schema_nodes p.1) (sym c.new-resolving.ensures.plan)) h.0.1) (ap (node_at writer) c.root-w.ensures.root) c.root_part-part.ensures (h.1 c.requires.told)))
    c.turn_apart.ensures

pub returns-in-Err-clause-reads : goal.returns-in-Err-clause-reads
returns-in-Err-clause-reads g c =
    unread _ (schema_nodes c.args.plan.now.0) (schema_nodes c.args.plan.now.1) c.args.limits.now c.args.bytes.now
    (node_at (schema_nodes c.args.plan.now.0) c.root-w.result.0) (ap (node_at (schema_nodes c.args.plan.now.0)) c.root-w.ensures.root)
    c.in-Err.error (rw c.writer-writer.ensures at c.in-Err.ensures.reads)
