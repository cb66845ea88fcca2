use Rattle.std.proofs.lemmas.Result.{err_from_is_err_and}
use Rattle.avro_tool.specs.declared.failure.Failure.{Failure}
use Rattle.avro_tool.proofs.PlainAsked.{answers_plain, nothing_plain}
use Rattle.avro_tool.proofs.answer.Goals as goal

pub returns : goal.returns
returns g c = λ plain words free apart.
    let told = c.answer_request.ensures in
    answers_plain (g.T.Texts.known c.args.texts.now) (λ text. g.O.Output.keeps c.args.out.now text c.answer_request.new.out) c.answer_request.result c.in_ok-request.request
    told.judge told.explain told.confirm plain (c.in_ok-request.ensures.plain plain words free apart).0

pub returns-in_err-request : goal.returns-in_err-request
returns-in_err-request g c = λ plain words free apart.
    let p = err_from_is_err_and c.from_residual.result c.from_residual.ensures.1 in
    let memory = (c.in_err-request.ensures.plain plain words free apart).1 in
    rw (p.1, p.2, memory) (record { answered = tt; refused = nothing_plain (g.T.Texts.known c.args.texts.now) plain Failure.OutOfMemory tt })

pub returns-in_err-refuse_files : goal.returns-in_err-refuse_files
returns-in_err-refuse_files g c = λ plain words free apart.
    let p = err_from_is_err_and c.from_residual-in_err-refuse_files.result c.from_residual-in_err-refuse_files.ensures.1 in
    rw (p.1, p.2) (record { answered = tt; refused = nothing_plain (g.T.Texts.known c.args.texts.now) plain c.in_err-refuse_files.field-0.0 c.in_err-refuse_files.ensures })
