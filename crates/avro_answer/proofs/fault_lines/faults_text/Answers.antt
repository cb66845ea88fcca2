use Rattle.std.proofs.Common.{◌≡◌, ◌∙◌, ◌++◌, List, ℕ, ap, refl, subst, sym}
use Rattle.std.specs.Prelude.{vec_items}
use Rattle.avro_schema.specs.Node.{Node}
use Rattle.avro_schema.specs.SeenSchema.{schema_nodes}
use Rattle.avro_explain.specs.declared.found.Finding.{Finding}
use Rattle.avro_explain.specs.declared.found.Place.{Place}
use Rattle.avro_answer.specs.FaultLine.{AreFaultLines}
use Rattle.avro_answer.specs.FaultTree.{AreFaultTrees}
use Rattle.avro_answer.specs.inside.FaultsAdded.{AreTold}
use Rattle.avro_answer.specs.declared.form.Form.{Form}
use Rattle.avro_answer.proofs.fault_lines.faults_text.Goals as goal

-- what was put in a form, by what is put in each
put_told : (form : Form) (writer reader : List Node) (places : List Place) (faults : List Finding) (keeps : List ℕ → Type 0)
    → (form ≡ Form.Text → (text : List ℕ) × AreFaultLines writer reader places faults text × keeps text)
    → (form ≡ Form.Json → (text : List ℕ) × AreFaultTrees writer reader places faults text × keeps text)
    → (text : List ℕ) × AreTold form writer reader places faults text × keeps text
put_told Form.Text writer reader places faults keeps lines trees = lines refl
put_told Form.Json writer reader places faults keeps lines trees = trees refl

pub returns-in-Ok : goal.returns-in-Ok
returns-in-Ok c = λ exact.
    let writer = schema_nodes c.args.writer.now in
    let reader = schema_nodes c.args.reader.now in
    let places = c.args.found.now.places.items in
    let faults = c.args.found.now.faults.items in
    let (text, told, kept) = put_told c.args.form writer reader places faults (λ text. vec_items c.put_faults-put.new.out.writer ≡ vec_items c.new-out.result.writer ++ text)
    (λ is. c.in-Ok.ensures.put is exact) (λ is. c.in-Ok.ensures.json is exact) in
    subst (AreTold c.args.form writer reader places faults)
    (sym (ap vec_items c.into_inner.ensures ∙ kept ∙ ap (λ (held : List ℕ). held ++ text) (ap vec_items c.new-out.ensures.writer ∙ c.new.ensures.items))) told
