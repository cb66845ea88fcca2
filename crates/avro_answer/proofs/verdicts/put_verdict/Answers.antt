use Rattle.std.proofs.Common.{◌∙◌, ◌++◌, [], List, ℕ, None, ap}
use Rattle.std.proofs.lemmas.Result.{on_err_weaker, on_ok_weaker}
use Rattle.std.specs.Prelude.{codes}
use Rattle.avro_schema.specs.SeenSchema.{schema_nodes}
use Rattle.avro_display.proofs.public.Fronts.{fronts_held, on_any_err}
use Rattle.avro_answer.specs.JsonAnswer.{NamedPath, json_line, judged_tree}
use Rattle.avro_answer.specs.inside.VerdictTexts.{verdict_datum, verdict_text}
use Rattle.avro_answer.proofs.VerdictParts.{front_before, front_last, front_none, in_parts, put_whole}
use Rattle.avro_answer.proofs.verdicts.put_verdict.Goals as goal

pub returns-clause-put : goal.returns-clause-put
returns-clause-put g c = λ is_text.
    let writer = schema_nodes c.args.writer.now in
    let verdict = c.args.verdict.now in
    let held : List ℕ = c.in_ok-text.text.items in
    let left : List ℕ = c.put_datum.new.text.items in
    on_ok_weaker c.put_text.result (put_whole g.O.Output.keeps g.met.O.Output.chain c.args.out.now c.put_datum.new.out c.put_text.new.out
    held (verdict_datum writer verdict) left (codes "\n") c.deref.result.now (verdict_text writer verdict)
    c.in_ok-put_datum.ensures.put
    (c.deref.ensures.value ∙ (c.in_ok-extend_from_slice.ensures.items ∙ ap (λ (e : List ℕ). left ++ e) (c.end_of.ensures.text is_text)))
    (ap (λ (h : List ℕ). (h ++ verdict_datum writer verdict) ++ codes "\n") (c.in_ok-text.ensures.text is_text) ∙ in_parts writer verdict))
    c.put_text.ensures.put

pub returns-clause-put_json : goal.returns-clause-put_json
returns-clause-put_json g c = λ is_json.
    let writer = schema_nodes c.args.writer.now in
    let verdict = c.args.verdict.now in
    let held : List ℕ = c.in_ok-text.text.items in
    let left : List ℕ = c.put_datum.new.text.items in
    let told = c.in_ok-text.ensures.json is_json in
    on_ok_weaker c.put_text.result (λ kept. (
      told.0,
      put_whole g.O.Output.keeps g.met.O.Output.chain c.args.out.now c.put_datum.new.out c.put_text.new.out
          held (verdict_datum writer verdict) left (codes "}\n") c.deref.result.now (json_line (judged_tree writer told.0 verdict))
          c.in_ok-put_datum.ensures.put
          (c.deref.ensures.value ∙ (c.in_ok-extend_from_slice.ensures.items ∙ ap (λ (e : List ℕ). left ++ e) (c.end_of.ensures.json is_json)))
          (told.1 writer) kept,
    ))
    c.put_text.ensures.put

pub returns-in_err-text-clause-front : goal.returns-in_err-text-clause-front
returns-in_err-text-clause-front g c = λ is_text.
    on_any_err (front_none g.O.Output.keeps c.args.out.now (verdict_text (schema_nodes c.args.writer.now) c.args.verdict.now) (g.met.O.Output.none c.args.out.now)) c.from_residual.result

pub returns-in_err-put_datum-clause-front : goal.returns-in_err-put_datum-clause-front
returns-in_err-put_datum-clause-front g c = λ is_text.
    let writer = schema_nodes c.args.writer.now in
    let verdict = c.args.verdict.now in
    let held : List ℕ = c.in_ok-text.text.items in
    on_any_err (front_before g.O.Output.keeps c.args.out.now c.put_datum.new.out (held ++ verdict_datum writer verdict) (codes "\n") (verdict_text writer verdict)
    (ap (λ (h : List ℕ). (h ++ verdict_datum writer verdict) ++ codes "\n") (c.in_ok-text.ensures.text is_text) ∙ in_parts writer verdict)
    c.in_err-put_datum.ensures.front) c.from_residual-in_err-put_datum.result

pub returns-in_err-extend_from_slice-clause-front : goal.returns-in_err-extend_from_slice-clause-front
returns-in_err-extend_from_slice-clause-front g c = λ is_text.
    let writer = schema_nodes c.args.writer.now in
    let verdict = c.args.verdict.now in
    let held : List ℕ = c.in_ok-text.text.items in
    on_any_err (front_before g.O.Output.keeps c.args.out.now c.put_datum.new.out (held ++ verdict_datum writer verdict) (codes "\n") (verdict_text writer verdict)
    (ap (λ (h : List ℕ). (h ++ verdict_datum writer verdict) ++ codes "\n") (c.in_ok-text.ensures.text is_text) ∙ in_parts writer verdict)
    (fronts_held g.O.Output.keeps c.args.out.now c.put_datum.new.out held (verdict_datum writer verdict) _ c.in_ok-put_datum.ensures.put)) c.from_residual-in_err-extend_from_slice.result

pub returns-clause-front : goal.returns-clause-front
returns-clause-front g c = λ is_text.
    let writer = schema_nodes c.args.writer.now in
    let verdict = c.args.verdict.now in
    let held : List ℕ = c.in_ok-text.text.items in
    let left : List ℕ = c.put_datum.new.text.items in
    on_err_weaker c.put_text.result (front_last g.O.Output.keeps g.met.O.Output.chain c.args.out.now c.put_datum.new.out c.put_text.new.out
    held (verdict_datum writer verdict) left (codes "\n") c.deref.result.now (verdict_text writer verdict)
    c.in_ok-put_datum.ensures.put
    (c.deref.ensures.value ∙ (c.in_ok-extend_from_slice.ensures.items ∙ ap (λ (e : List ℕ). left ++ e) (c.end_of.ensures.text is_text)))
    (ap (λ (h : List ℕ). (h ++ verdict_datum writer verdict) ++ codes "\n") (c.in_ok-text.ensures.text is_text) ∙ in_parts writer verdict))
    c.put_text.ensures.front

unnamed : NamedPath
unnamed = record { missing = None; path = [] }

pub returns-in_err-text-clause-front_json : goal.returns-in_err-text-clause-front_json
returns-in_err-text-clause-front_json g c = λ is_json.
    on_any_err (unnamed, front_none g.O.Output.keeps c.args.out.now (json_line (judged_tree (schema_nodes c.args.writer.now) unnamed c.args.verdict.now)) (g.met.O.Output.none c.args.out.now))
    c.from_residual.result

pub returns-in_err-put_datum-clause-front_json : goal.returns-in_err-put_datum-clause-front_json
returns-in_err-put_datum-clause-front_json g c = λ is_json.
    let writer = schema_nodes c.args.writer.now in
    let verdict = c.args.verdict.now in
    let told = c.in_ok-text.ensures.json is_json in
    on_any_err (
      told.0,
      front_before g.O.Output.keeps c.args.out.now c.put_datum.new.out (c.in_ok-text.text.items ++ verdict_datum writer verdict) (codes "}\n")
          (json_line (judged_tree writer told.0 verdict)) (told.1 writer) c.in_err-put_datum.ensures.front,
    ) c.from_residual-in_err-put_datum.result

pub returns-in_err-extend_from_slice-clause-front_json : goal.returns-in_err-extend_from_slice-clause-front_json
returns-in_err-extend_from_slice-clause-front_json g c = λ is_json.
    let writer = schema_nodes c.args.writer.now in
    let verdict = c.args.verdict.now in
    let held : List ℕ = c.in_ok-text.text.items in
    let told = c.in_ok-text.ensures.json is_json in
    on_any_err (
      told.0,
      front_before g.O.Output.keeps c.args.out.now c.put_datum.new.out (held ++ verdict_datum writer verdict) (codes "}\n")
          (json_line (judged_tree writer told.0 verdict)) (told.1 writer)
          (fronts_held g.O.Output.keeps c.args.out.now c.put_datum.new.out held (verdict_datum writer verdict) _ c.in_ok-put_datum.ensures.put),
    ) c.from_residual-in_err-extend_from_slice.result

pub returns-clause-front_json : goal.returns-clause-front_json
returns-clause-front_json g c = λ is_json.
    let writer = schema_nodes c.args.writer.now in
    let verdict = c.args.verdict.now in
    let left : List ℕ = c.put_datum.new.text.items in
    let told = c.in_ok-text.ensures.json is_json in
    on_err_weaker c.put_text.result (λ step. (
      told.0,
      front_last g.O.Output.keeps g.met.O.Output.chain c.args.out.now c.put_datum.new.out c.put_text.new.out
          c.in_ok-text.text.items (verdict_datum writer verdict) left (codes "}\n") c.deref.result.now (json_line (judged_tree writer told.0 verdict))
          c.in_ok-put_datum.ensures.put
          (c.deref.ensures.value ∙ (c.in_ok-extend_from_slice.ensures.items ∙ ap (λ (e : List ℕ). left ++ e) (c.end_of.ensures.json is_json)))
          (told.1 writer) step,
    ))
    c.put_text.ensures.front
