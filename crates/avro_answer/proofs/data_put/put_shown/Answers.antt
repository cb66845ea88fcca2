use Rattle.std.proofs.Common.{◌∙◌, ◌++◌, ◌≡◌, ℕ, List, ap, subst, sym}
use Rattle.std.specs.Prelude.{OnErr, OnOk}
use Rattle.avro_device.specs.PutFront.{PutsFrontOf}
use Rattle.avro_display.proofs.public.Fronts.{on_any_err}
use Rattle.avro_show.specs.Spans.{StandsIn}
use Rattle.avro_answer.specs.inside.DatumParts.{text_around}
use Rattle.avro_answer.proofs.DataPuts.{none_put}
use Rattle.avro_answer.proofs.data_put.put_shown.Goals as goal

-- the text that is put
the_text : (g : _) (c : goal.After-keep_line g) (display : List ℕ) → StandsIn c.args.scratch.now.text c.args.scratch.now.shown display → c.deref.result.now ≡ text_around c.args.form display c.args.len
the_text g c display stands =
    let here = subst (λ span. StandsIn c.take_line-text.new.self.text span display) (sym c.take_line-text.ensures.shown) (subst (λ (t : List ℕ). StandsIn t c.args.scratch.now.shown display) (sym c.take_line-text.ensures.text) stands) in
    c.deref.ensures.value ∙ c.in_ok-append_text.ensures ∙ ap (λ (before : List ℕ). before ++ text_around c.args.form c.shown.result.now c.args.len) c.take_line-text.ensures.none
    ∙ ap (λ (d : List ℕ). text_around c.args.form d c.args.len) (c.shown.ensures display here)

pub returns-clause-put : goal.returns-clause-put
returns-clause-put g c = λ display stands.
    subst (λ (t : List ℕ). OnOk c.put_text-put.result (g.O.Output.keeps c.args.out.now t c.put_text-put.new.out)) (the_text g c display stands) c.put_text-put.ensures.put

pub returns-clause-front : goal.returns-clause-front
returns-clause-front g c = λ display stands.
    subst (λ (t : List ℕ). OnErr c.put_text-put.result (PutsFrontOf g.O.Output.keeps c.args.out.now c.put_text-put.new.out t)) (the_text g c display stands) c.put_text-put.ensures.front

pub returns-in_err-append_text-clause-front : goal.returns-in_err-append_text-clause-front
returns-in_err-append_text-clause-front g c = λ display stands.
    on_any_err (none_put g.O.Output.keeps c.args.out.now (text_around c.args.form display c.args.len) (g.met.O.Output.none c.args.out.now)) c.from_residual.result
