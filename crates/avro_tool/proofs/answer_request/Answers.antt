use Rattle.std.proofs.Common.{◌≡◌, subst}
use Rattle.avro_tool.specs.FilesAnswered.{ExplainsFiles, JudgesFiles}
use Rattle.avro_tool.specs.declared.request.Explaining.{Explaining}
use Rattle.avro_tool.specs.declared.request.Judging.{Judging}
use Rattle.avro_tool.proofs.answer_request.Goals as goal

pub returns-in-Judge-clause-judge : goal.returns-in-Judge-clause-judge
returns-in-Judge-clause-judge g c = λ asked is.
    let same : c.in-Judge.asked ≡ asked = cc in
    subst (λ (x : Judging). JudgesFiles (g.T.Texts.known c.args.texts.now) (λ text. g.O.Output.keeps c.args.out.now text c.judge_files.new.out) x c.judge_files.result) same c.judge_files.ensures

pub returns-in-Explain-clause-explain : goal.returns-in-Explain-clause-explain
returns-in-Explain-clause-explain g c = λ asked is.
    let same : c.in-Explain.asked ≡ asked = cc in
    subst (λ (x : Explaining). ExplainsFiles (g.T.Texts.known c.args.texts.now) (λ text. g.O.Output.keeps c.args.out.now text c.explain_files.new.out) x c.explain_files.result) same
    c.explain_files.ensures
