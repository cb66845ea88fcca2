use Rattle.avro_schema.specs.SeenSchema.{schema_nodes}
use Rattle.avro_resolve.specs.declared.resolving.guided.Made.{Made}
use Rattle.avro_resolve.specs.inside.Guided.{of_node}
use Rattle.avro_resolve.proofs.Guiding.{branch_made, branch_good, branch_bad}
use Rattle.avro_resolve.proofs.resolving.ResolvingMake.branch.Goals as goal

pub returns-in-Good-clause-stands : goal.returns-in-Good-clause-stands
returns-in-Good-clause-stands g c = λ nodes ids id at v e plain h told.
    let S = g.M.Make.stands_for c.args.self.now.maker.now in
    let reader = schema_nodes c.args.self.now.plan.now.1 in
    branch_made S (schema_nodes c.args.self.now.plan.now.0) reader nodes ids c.args._branch id v at.at (Made.Good c.in-Good.out) (Made.Good c.in-Good.out) e (λ n. n)
    (λ r q m. branch_good (of_node S reader r) c.in-Good.out q m) (rw c.in-Good.is at (h told))

pub returns-in_ok-outer-in-Faulty-clause-stands : goal.returns-in_ok-outer-in-Faulty-clause-stands
returns-in_ok-outer-in-Faulty-clause-stands g c = λ nodes ids id at v e plain h told.
    branch_made (g.M.Make.stands_for c.args.self.now.maker.now) (schema_nodes c.args.self.now.plan.now.0) (schema_nodes c.args.self.now.plan.now.1) nodes ids c.args._branch id v at.at (Made.Faulty c.in-Faulty.fault) (Made.Faulty c.in_ok-outer-in-Faulty.outer) e (λ n. n)
    (λ r q m. branch_bad c.in-Faulty.fault c.in_ok-outer-in-Faulty.outer q c.in_ok-outer-in-Faulty.ensures m) (rw c.in-Faulty.is at (h told))

pub returns-in-Nothing-clause-stands : goal.returns-in-Nothing-clause-stands
returns-in-Nothing-clause-stands g c = λ nodes ids id at v e plain h told.
    branch_made (g.M.Make.stands_for c.args.self.now.maker.now) (schema_nodes c.args.self.now.plan.now.0) (schema_nodes c.args.self.now.plan.now.1) nodes ids c.args._branch id v at.at Made.Nothing Made.Nothing e (λ n. n) (λ r q m. absurd m) (rw c.in-Nothing.is at (h told))
