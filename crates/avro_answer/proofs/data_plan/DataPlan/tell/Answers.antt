use Rattle.std.proofs.Common.{◌∙◌, ◌++◌, List, ℕ, ap, subst, sym}
use Rattle.std.proofs.lemmas.Result.{err_from_is_err_and}
use Rattle.std.specs.Prelude.{option_map}
use Rattle.avro_schema.specs.SeenSchema.{schema_nodes}
use Rattle.avro_answer.specs.DataRead.{fault_found, IsDatumTold}
use Rattle.avro_answer.proofs.public.Skipped.{some_behind, told_behind, too_few_for}
use Rattle.avro_answer.proofs.data_plan.DataPlan.tell.Goals as goal

pub returns-in_ok-append-in-Ok-clause-read : goal.returns-in_ok-append-in-Ok-clause-read
returns-in_ok-append-in-Ok-clause-read c =
    let W = schema_nodes c.args.self.now.0 in
    let R = option_map schema_nodes c.args.self.now.1 in
    let L = c.args.limits.now in
    let B = c.args.bytes.now in
    let rest = c.in-Ok.data.now in
    let (line, told, put) = c.in_ok-append-in-Ok.ensures.read in
    told_behind W R L c.args.skip B c.in-Ok.ensures.within rest c.in-Ok.ensures.behind c.args.form c.append.new.text.items
    (subst (λ (text : List ℕ). IsDatumTold W R L c.args.form 0 rest text) (sym (put ∙ ap (λ (before : List ℕ). before ++ line) c.new-text.ensures.items)) told)

pub returns-in_err-append-in-Ok-clause-refused : goal.returns-in_err-append-in-Ok-clause-refused
returns-in_err-append-in-Ok-clause-refused c =
    let W = schema_nodes c.args.self.now.0 in
    let R = option_map schema_nodes c.args.self.now.1 in
    let p = err_from_is_err_and c.from_residual.result c.from_residual.ensures.1 in
    rw (p.1, p.2) (some_behind W R c.args.limits.now c.args.skip c.args.bytes.now c.in-Ok.ensures.within c.in-Ok.data.now c.in-Ok.ensures.behind (fault_found c.in_err-append-in-Ok.field-0.0) c.in_err-append-in-Ok.ensures.refused)

pub returns-in-Err-clause-refused : goal.returns-in-Err-clause-refused
returns-in-Err-clause-refused c =
    let W = schema_nodes c.args.self.now.0 in
    let R = option_map schema_nodes c.args.self.now.1 in
    let B = c.args.bytes.now in
    too_few_for W R c.args.limits.now c.args.skip B c.in-Err.ensures.few c.in-Err.error c.in-Err.ensures.end
