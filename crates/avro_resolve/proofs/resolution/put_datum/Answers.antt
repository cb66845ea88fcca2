use Rattle.std.proofs.Common.{◌≡◌, ◌∙◌, ap, subst, sym, true}
use Rattle.avro_schema.specs.Fits.{fits}
use Rattle.avro_schema.specs.Node.{node_at}
use Rattle.avro_schema.specs.Seen.{value_of}
use Rattle.avro_schema.specs.SeenSchema.{schema_nodes}
use Rattle.avro_compare.specs.Resolve.{resolve_root}
use Rattle.avro_resolve.specs.inside.Guided.{MadeAs, of_node}
use Rattle.avro_resolve.specs.declared.resolving.guided.Made.{Made}
use Rattle.avro_resolve.proofs.Guiding.{as_fault, good_made}
use Rattle.avro_resolve.proofs.OnePass.{at_roots, guide_is}
use Rattle.avro_resolve.proofs.resolution.put_datum.Goals as goal

pub returns-in-Good : goal.returns-in-Good
returns-in-Good g c =
    let writer = schema_nodes c.args.plan.now.0 in
    let reader = schema_nodes c.args.plan.now.1 in
    let last = c.give.new.maker in
    let v = value_of c.args.datum.now in
    let kept = c.in-Ok.ensures.kept in
    let fit = subst (λ i. fits writer (node_at writer i) v ≡ true) (sym c.root.ensures.root) c.requires.fitting in
    let stands = (rw (c.in-Good.is, c.writer-writer.ensures) at c.in-Ok.ensures.stands) fit c.requires.told in
    let made = subst (λ m. MadeAs (of_node (g.M.Make.stands_for m) reader 0) (Made.Good c.in-Good.out) (resolve_root writer reader v)) (sym (c.maker-1.given.1 (sym (kept.0.1 ∙ c.new-resolving.ensures.lent))))
    (at_roots (g.M.Make.stands_for last.maker.now) writer reader (schema_nodes last.plan.now.0) (schema_nodes last.plan.now.1) (node_at writer c.root.result.0) c.root_part-part.result.at (Made.Good c.in-Good.out) v
    (guide_is writer reader _ _ _ _ (ap (λ p. schema_nodes p.0) (sym c.new-resolving.ensures.plan)) (ap (λ p. schema_nodes p.1) (sym c.new-resolving.ensures.plan)) kept.1) (ap (node_at writer) c.root.ensures.root) c.root_part-part.ensures stands) in
    let found = good_made (of_node (g.M.Make.stands_for c.maker-1.given.0) reader 0) c.in-Good.out (resolve_root writer reader v) made in
    (found.0, found.2, found.1)

pub returns-in-Faulty : goal.returns-in-Faulty
returns-in-Faulty g c =
    let writer = schema_nodes c.args.plan.now.0 in
    let reader = schema_nodes c.args.plan.now.1 in
    let last = c.give.new.maker in
    let v = value_of c.args.datum.now in
    let kept = c.in-Ok.ensures.kept in
    let fit = subst (λ i. fits writer (node_at writer i) v ≡ true) (sym c.root.ensures.root) c.requires.fitting in
    let stands = (rw (c.in-Faulty.is, c.writer-writer.ensures) at c.in-Ok.ensures.stands) fit c.requires.told in
    at_roots (g.M.Make.stands_for last.maker.now) writer reader (schema_nodes last.plan.now.0) (schema_nodes last.plan.now.1) (node_at writer c.root.result.0) c.root_part-part.result.at (Made.Faulty c.in-Faulty.fault) v
    (guide_is writer reader _ _ _ _ (ap (λ p. schema_nodes p.0) (sym c.new-resolving.ensures.plan)) (ap (λ p. schema_nodes p.1) (sym c.new-resolving.ensures.plan)) kept.1) (ap (node_at writer) c.root.ensures.root) c.root_part-part.ensures stands
    ∙ ap as_fault (sym c.turn_apart.ensures)
