use Rattle.std.proofs.Common.{◌∙◌, ◌++◌, ◌∷◌, [], List, ℕ, ap, append_assoc}
use Rattle.avro_display.proofs.public.Putting.{on_ok}
use Rattle.avro_show.proofs.line.append_line.Goals as goal

pub returns-else-is_err-clause-appended : goal.returns-else-is_err-clause-appended
returns-else-is_err-clause-appended c = λ bytes stands.
    let lines = c.args.lines.now in
    let line = c.in_ok-append.ensures.appended ∙ ap (λ (b : List ℕ). lines ++ b) (c.shown.ensures bytes stands) in
    on_ok (λ ended. ended ∙ ap (λ (b : List ℕ). b ++ 10 ∷ []) line ∙ append_assoc lines bytes (10 ∷ [])) c.append_byte-ended.result c.append_byte-ended.ensures.appended
