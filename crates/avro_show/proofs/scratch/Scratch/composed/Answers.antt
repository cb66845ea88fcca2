use Rattle.std.proofs.Common.{◌∙◌, ◌++◌, List, ℕ, ap}
use Rattle.avro_show.specs.Spans.{opened}
use Rattle.avro_show.proofs.Opened.{made_whole}
use Rattle.avro_show.proofs.scratch.Scratch.composed.Goals as goal

pub returns-clause-stands : goal.returns-clause-stands
returns-clause-stands c =
    let text = c.args.self.now.text in
    let whole = c.args.self.now.whole in
    let begun = c.begin.new.self.text in
    c.end.ensures.stands text (opened c.args.opening whole)
    (made_whole text begun c.append.new.self c.args.opening whole c.in_ok-start.ensures.begun (c.in_ok-append.ensures.appended ∙ ap (λ (b : List ℕ). begun ++ b) (c.as_slice.ensures ∙ c.begin.ensures.whole)))
    c.in_ok-start.ensures.start
