use Rattle.std.proofs.Common.{◌∙◌, ◌++◌, List, ℕ, ap, subst}
use Rattle.std.proofs.lemmas.Result.{on_err_weaker}
use Rattle.std.specs.Prelude.{string_bytes}
use Rattle.avro_display.proofs.public.Fronts.{on_any_err}
use Rattle.avro_schema.specs.SeenSchema.{schema_nodes}
use Rattle.avro_answer.specs.declared.form.Form.{Form}
use Rattle.avro_answer.specs.inside.FaultsAdded.{IsBegun}
use Rattle.avro_answer.proofs.FaultFronts.{IsFrontTold, front_at_end, front_at_last, front_at_none, front_at_some}
use Rattle.avro_answer.proofs.FaultLines.{on_ok, placed, put_all}
use Rattle.avro_answer.proofs.fault_lines.put_faults.Goals as goal

pub returns-clause-put : goal.returns-clause-put
returns-clause-put g c = λ is_text exact.
    let writer = schema_nodes c.args.writer.now in
    let reader = schema_nodes c.args.reader.now in
    let places = c.args.found.now.places.items in
    let faults = c.args.found.now.faults.items in
    let begun : List ℕ = string_bytes c.in_ok-text.text in
    let kept : List ℕ = string_bytes c.put_lines.new.text in
    on_ok (put_all writer reader places c.args.form g.O.Output.keeps g.met.O.Output.chain c.args.out.now c.put_lines.new.out c.put_text.new.out faults
    Form.Text is_text begun kept c.as_bytes.result.now
    (subst (λ (n : ℕ). IsBegun c.args.form n begun) (c.len.ensures ∙ c.args.found.now.faults.ok.0) c.in_ok-text.ensures)
    (c.as_bytes.ensures.value ∙ (c.in_ok-push_str.ensures.bytes ∙ ap (λ (e : List ℕ). kept ++ e) c.end_of_faults.ensures))
    (c.in_ok-put_lines.ensures.put (placed writer reader places faults exact)))
    c.put_text.result c.put_text.ensures.put

pub returns-clause-json : goal.returns-clause-json
returns-clause-json g c = λ is_json exact.
    let writer = schema_nodes c.args.writer.now in
    let reader = schema_nodes c.args.reader.now in
    let places = c.args.found.now.places.items in
    let faults = c.args.found.now.faults.items in
    let begun : List ℕ = string_bytes c.in_ok-text.text in
    let kept : List ℕ = string_bytes c.put_lines.new.text in
    on_ok (put_all writer reader places c.args.form g.O.Output.keeps g.met.O.Output.chain c.args.out.now c.put_lines.new.out c.put_text.new.out faults
    Form.Json is_json begun kept c.as_bytes.result.now
    (subst (λ (n : ℕ). IsBegun c.args.form n begun) (c.len.ensures ∙ c.args.found.now.faults.ok.0) c.in_ok-text.ensures)
    (c.as_bytes.ensures.value ∙ (c.in_ok-push_str.ensures.bytes ∙ ap (λ (e : List ℕ). kept ++ e) c.end_of_faults.ensures))
    (c.in_ok-put_lines.ensures.put (placed writer reader places faults exact)))
    c.put_text.result c.put_text.ensures.put

pub returns-in_err-text-clause-front : goal.returns-in_err-text-clause-front
returns-in_err-text-clause-front g c = λ is found_by exact.
    let writer = schema_nodes c.args.writer.now in
    let reader = schema_nodes c.args.reader.now in
    let places = c.args.found.now.places.items in
    let faults = c.args.found.now.faults.items in
    on_any_err (subst (λ (form : Form). IsFrontTold g.O.Output.keeps c.args.out.now c.args.out.now form writer reader places faults) is
    (front_at_none writer reader places found_by g.O.Output.keeps c.args.form faults c.args.out.now (g.met.O.Output.none c.args.out.now)
    (placed writer reader places faults exact))) c.from_residual.result

pub returns-in_err-put_lines-clause-front : goal.returns-in_err-put_lines-clause-front
returns-in_err-put_lines-clause-front g c = λ is found_by exact.
    let writer = schema_nodes c.args.writer.now in
    let reader = schema_nodes c.args.reader.now in
    let places = c.args.found.now.places.items in
    let faults = c.args.found.now.faults.items in
    let begun : List ℕ = string_bytes c.in_ok-text.text in
    on_any_err (subst (λ (form : Form). IsFrontTold g.O.Output.keeps c.args.out.now c.put_lines.new.out form writer reader places faults) is
    (front_at_some writer reader places found_by g.O.Output.keeps c.args.form faults c.args.out.now c.put_lines.new.out begun
    (subst (λ (n : ℕ). IsBegun c.args.form n begun) (c.len.ensures ∙ c.args.found.now.faults.ok.0) c.in_ok-text.ensures)
    (c.in_err-put_lines.ensures.front (placed writer reader places faults exact)))) c.from_residual-in_err-put_lines.result

pub returns-in_err-push_str-clause-front : goal.returns-in_err-push_str-clause-front
returns-in_err-push_str-clause-front g c = λ is found_by exact.
    let writer = schema_nodes c.args.writer.now in
    let reader = schema_nodes c.args.reader.now in
    let places = c.args.found.now.places.items in
    let faults = c.args.found.now.faults.items in
    let begun : List ℕ = string_bytes c.in_ok-text.text in
    on_any_err (subst (λ (form : Form). IsFrontTold g.O.Output.keeps c.args.out.now c.put_lines.new.out form writer reader places faults) is
    (front_at_end writer reader places g.O.Output.keeps c.args.form faults c.args.out.now c.put_lines.new.out begun (string_bytes c.put_lines.new.text)
    (subst (λ (n : ℕ). IsBegun c.args.form n begun) (c.len.ensures ∙ c.args.found.now.faults.ok.0) c.in_ok-text.ensures)
    (c.in_ok-put_lines.ensures.put (placed writer reader places faults exact)))) c.from_residual-in_err-push_str.result

pub returns-clause-front : goal.returns-clause-front
returns-clause-front g c = λ is found_by exact.
    let writer = schema_nodes c.args.writer.now in
    let reader = schema_nodes c.args.reader.now in
    let places = c.args.found.now.places.items in
    let faults = c.args.found.now.faults.items in
    let begun : List ℕ = string_bytes c.in_ok-text.text in
    let kept : List ℕ = string_bytes c.put_lines.new.text in
    on_err_weaker c.put_text.result (λ step. subst (λ (form : Form). IsFrontTold g.O.Output.keeps c.args.out.now c.put_text.new.out form writer reader places faults) is
    (front_at_last writer reader places g.O.Output.keeps c.args.form faults g.met.O.Output.chain c.args.out.now c.put_lines.new.out c.put_text.new.out begun kept c.as_bytes.result.now
    (subst (λ (n : ℕ). IsBegun c.args.form n begun) (c.len.ensures ∙ c.args.found.now.faults.ok.0) c.in_ok-text.ensures)
    (c.as_bytes.ensures.value ∙ (c.in_ok-push_str.ensures.bytes ∙ ap (λ (e : List ℕ). kept ++ e) c.end_of_faults.ensures))
    (c.in_ok-put_lines.ensures.put (placed writer reader places faults exact)) step))
    c.put_text.ensures.front

pub returns-in_err-text-clause-front_json : goal.returns-in_err-text-clause-front_json
returns-in_err-text-clause-front_json g c = λ is found_by exact.
    let writer = schema_nodes c.args.writer.now in
    let reader = schema_nodes c.args.reader.now in
    let places = c.args.found.now.places.items in
    let faults = c.args.found.now.faults.items in
    on_any_err (subst (λ (form : Form). IsFrontTold g.O.Output.keeps c.args.out.now c.args.out.now form writer reader places faults) is
    (front_at_none writer reader places found_by g.O.Output.keeps c.args.form faults c.args.out.now (g.met.O.Output.none c.args.out.now)
    (placed writer reader places faults exact))) c.from_residual.result

pub returns-in_err-put_lines-clause-front_json : goal.returns-in_err-put_lines-clause-front_json
returns-in_err-put_lines-clause-front_json g c = λ is found_by exact.
    let writer = schema_nodes c.args.writer.now in
    let reader = schema_nodes c.args.reader.now in
    let places = c.args.found.now.places.items in
    let faults = c.args.found.now.faults.items in
    let begun : List ℕ = string_bytes c.in_ok-text.text in
    on_any_err (subst (λ (form : Form). IsFrontTold g.O.Output.keeps c.args.out.now c.put_lines.new.out form writer reader places faults) is
    (front_at_some writer reader places found_by g.O.Output.keeps c.args.form faults c.args.out.now c.put_lines.new.out begun
    (subst (λ (n : ℕ). IsBegun c.args.form n begun) (c.len.ensures ∙ c.args.found.now.faults.ok.0) c.in_ok-text.ensures)
    (c.in_err-put_lines.ensures.front (placed writer reader places faults exact)))) c.from_residual-in_err-put_lines.result

pub returns-in_err-push_str-clause-front_json : goal.returns-in_err-push_str-clause-front_json
returns-in_err-push_str-clause-front_json g c = λ is found_by exact.
    let writer = schema_nodes c.args.writer.now in
    let reader = schema_nodes c.args.reader.now in
    let places = c.args.found.now.places.items in
    let faults = c.args.found.now.faults.items in
    let begun : List ℕ = string_bytes c.in_ok-text.text in
    on_any_err (subst (λ (form : Form). IsFrontTold g.O.Output.keeps c.args.out.now c.put_lines.new.out form writer reader places faults) is
    (front_at_end writer reader places g.O.Output.keeps c.args.form faults c.args.out.now c.put_lines.new.out begun (string_bytes c.put_lines.new.text)
    (subst (λ (n : ℕ). IsBegun c.args.form n begun) (c.len.ensures ∙ c.args.found.now.faults.ok.0) c.in_ok-text.ensures)
    (c.in_ok-put_lines.ensures.put (placed writer reader places faults exact)))) c.from_residual-in_err-push_str.result

pub returns-clause-front_json : goal.returns-clause-front_json
returns-clause-front_json g c = λ is found_by exact.
    let writer = schema_nodes c.args.writer.now in
    let reader = schema_nodes c.args.reader.now in
    let places = c.args.found.now.places.items in
    let faults = c.args.found.now.faults.items in
    let begun : List ℕ = string_bytes c.in_ok-text.text in
    let kept : List ℕ = string_bytes c.put_lines.new.text in
    on_err_weaker c.put_text.result (λ step. subst (λ (form : Form). IsFrontTold g.O.Output.keeps c.args.out.now c.put_text.new.out form writer reader places faults) is
    (front_at_last writer reader places g.O.Output.keeps c.args.form faults g.met.O.Output.chain c.args.out.now c.put_lines.new.out c.put_text.new.out begun kept c.as_bytes.result.now
    (subst (λ (n : ℕ). IsBegun c.args.form n begun) (c.len.ensures ∙ c.args.found.now.faults.ok.0) c.in_ok-text.ensures)
    (c.as_bytes.ensures.value ∙ (c.in_ok-push_str.ensures.bytes ∙ ap (λ (e : List ℕ). kept ++ e) c.end_of_faults.ensures))
    (c.in_ok-put_lines.ensures.put (placed writer reader places faults exact)) step))
    c.put_text.ensures.front
