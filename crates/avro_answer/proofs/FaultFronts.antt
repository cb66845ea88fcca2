-- What was put of the faults where a step fails: a prefix of the text that has all of them.
use Rattle.std.proofs.Common.{◌≡◌, ◌∙◌, ◌<◌, ℕ, Bool, true, false, List, [], ◌∷◌, ◌++◌, None, get_or, length, refl, sym, ap, subst, append_assoc, append-nil}
use Rattle.std.proofs.lemmas.Option.{slice_get-get_or}
use Rattle.serde_json.specs.Written.{comma_if, compact_text}
use Rattle.avro_device.specs.PutFront.{PutsFrontOf}
use Rattle.avro_schema.specs.Node.{Node}
use Rattle.avro_explain.proofs.public.Ways.{has_ways}
use Rattle.avro_explain.specs.Places.{ArePlaced}
use Rattle.avro_explain.specs.declared.found.Finding.{Finding}
use Rattle.avro_explain.specs.declared.found.Place.{Place}
use Rattle.avro_answer.specs.FaultLine.{fault_line, missing_of, no_line, IsFaultAt}
use Rattle.avro_answer.specs.FaultTree.{node_tree}
use Rattle.avro_answer.specs.JsonAnswer.{faults_tree, found_tree, json_line}
use Rattle.avro_answer.specs.declared.form.Form.{Form}
use Rattle.avro_answer.specs.inside.FaultsAdded.{HavePlaces, AreFaultsAdded, AreLeft, AreTold, IsBegun, IsFaultAdded, IsFrontAdded, faults_end}
use Rattle.avro_answer.proofs.FaultLines.{told, trees_of}
use Rattle.avro_answer.proofs.VerdictParts.{front_before, front_none}

nowhere : Place
nowhere = record { w = record { 0 = 0 }; r = record { 0 = 0 }; from = None }

-- a prefix of the text that has all faults was put
abbrev pub IsFrontTold : {O : Type 0} → (O → List ℕ → O → Type 0) → O → O → Form → List Node → List Node → List Place → List Finding → Type 0
IsFrontTold keeps from to form writer reader places faults = (text : List ℕ) × AreTold form writer reader places faults text × PutsFrontOf keeps from to text

module _ (writer reader : List Node) (places : List Place) (placed : ArePlaced writer reader places) where
  fault_at : (fault : Finding) → fault.place < length places → IsFaultAt writer reader places fault
  fault_at fault within =
      let there = slice_get-get_or places fault.place nowhere within in
      let ways = has_ways writer reader places placed fault.place (get_or places fault.place nowhere) there in
      record {
        place = get_or places fault.place nowhere;
        there = there;
        writer_way = ways.in_writer;
        reader_way = ways.in_reader;
        leads_writer = λ _. ways.leads_writer;
        leads_reader = λ _. ways.leads_reader;
        way = λ _. ways.way;
      }

  -- what is added for a fault
  part_of : (form : Form) (later : Bool) (fault : Finding) → fault.place < length places
      → (part : List ℕ) × ((before : List ℕ) → IsFaultAdded form writer reader places later fault before (before ++ part))
  part_of Form.Text later fault within =
      let found = fault_at fault within in
      let line : List ℕ = fault_line writer reader found.place fault.detail found.writer_way found.reader_way in
      (line, λ before. record { line = line; is = record { found = found; written = refl }; added = refl })
  part_of Form.Json later fault within =
      let found = fault_at fault within in
      let tree = found_tree fault.detail (missing_of writer reader found.place fault.detail)
      (node_tree writer found.writer_way found.place.w.0) (node_tree reader found.reader_way found.place.r.0) in
      (comma_if later ++ compact_text tree, λ before. record { tree = tree; is = record { found = found; written = refl }; added = refl })

  -- what is added for several
  added_of : (form : Form) (later : Bool) (faults : List Finding) (before : List ℕ) → HavePlaces places faults
      → (more : List ℕ) × AreFaultsAdded form writer reader places later faults before (before ++ more)
  added_of form later [] before have = ([], append-nil before)
  added_of form later (fault ∷ faults) before have =
      let one = part_of form later fault have.0 in
      let rest = added_of form true faults (before ++ one.0) have.1 in (
        one.0 ++ rest.0,
        (
          before ++ one.0,
          one.1 before,
          subst (AreFaultsAdded form writer reader places true faults (before ++ one.0)) (append_assoc before one.0 rest.0) rest.1,
        ),
      )

  -- there is a text that has all of them
  all_told : (form : Form) (faults : List Finding) → HavePlaces places faults → (text : List ℕ) × AreTold form writer reader places faults text
  all_told Form.Text faults have =
      let begun : List ℕ = no_line (length faults) in
      let more = added_of Form.Text false faults begun have in
      ((begun ++ more.0) ++ faults_end Form.Text, told writer reader places Form.Text faults begun (begun ++ more.0) refl more.1)
  all_told Form.Json faults have =
      let more = added_of Form.Json false faults [] have in
      let added = trees_of writer reader places false faults [] more.0 more.1 in
      (json_line (faults_tree added.0), record { trees = added.0; each = added.1; written = refl })

  -- what was added so far has one that begins with it
  whole_of : (form : Form) (faults left : List Finding) (later : Bool) (begun text : List ℕ) → IsBegun form (length faults) begun
      → AreLeft form writer reader places faults left later begun text → (rest : List ℕ) × AreTold form writer reader places faults (text ++ rest)
  whole_of form faults left later begun text is have =
      let more = added_of form later left text have.placed in (
        more.0 ++ faults_end form,
        subst (AreTold form writer reader places faults) (append_assoc text more.0 (faults_end form))
            (told writer reader places form faults begun (text ++ more.0) is (have.whole (text ++ more.0) more.1)),
      )

  module _ {O : Type 0} (keeps : O → List ℕ → O → Type 0) (form : Form) (faults : List Finding) where
    -- nothing was put
    pub front_at_none : (s : O) → keeps s [] s → HavePlaces places faults → IsFrontTold keeps s s form writer reader places faults
    front_at_none s kept have = let all = all_told form faults have in (all.0, all.1, front_none keeps s all.0 kept)

    -- a prefix of what was added so far was put
    pub front_at_some : (first last : O) (begun : List ℕ) → IsBegun form (length faults) begun
        → IsFrontAdded keeps first last form writer reader places faults begun → IsFrontTold keeps first last form writer reader places faults
    front_at_some first last begun is f =
        let whole = whole_of form faults f.left f.later begun f.text is f.added in
        (f.text ++ whole.0, whole.1, front_before keeps first last f.text whole.0 (f.text ++ whole.0) refl f.put)

module _ (writer reader : List Node) (places : List Place) {O : Type 0} (keeps : O → List ℕ → O → Type 0) (form : Form) (faults : List Finding) where
  -- all were added, and some of the text is kept
  pub front_at_end : (first then : O) (begun rest : List ℕ) → IsBegun form (length faults) begun
      → (put : List ℕ) × keeps first put then × AreFaultsAdded form writer reader places false faults begun (put ++ rest)
      → IsFrontTold keeps first then form writer reader places faults
  front_at_end first then begun rest is (put, stood, added) = (
    (put ++ rest) ++ faults_end form,
    told writer reader places form faults begun (put ++ rest) is added,
    record { front = put; later = rest ++ faults_end form; kept = stood; split = append_assoc put rest (faults_end form) },
  )

  -- a prefix of what is kept and the end was put
  pub front_at_last : (chain : (s t u : O) (front back : List ℕ) → keeps s front t → keeps t back u → keeps s (front ++ back) u)
      (first then last : O) (begun rest whole : List ℕ) → IsBegun form (length faults) begun → whole ≡ rest ++ faults_end form
      → (put : List ℕ) × keeps first put then × AreFaultsAdded form writer reader places false faults begun (put ++ rest)
      → PutsFrontOf keeps then last whole → IsFrontTold keeps first last form writer reader places faults
  front_at_last chain first then last begun rest whole is same (put, stood, added) f = (
    (put ++ rest) ++ faults_end form,
    told writer reader places form faults begun (put ++ rest) is added,
    record {
      front = put ++ f.front;
      later = f.later;
      kept = chain first then last put f.front stood f.kept;
      split = append_assoc put rest (faults_end form) ∙ ap (λ t. put ++ t) (sym same ∙ f.split) ∙ sym (append_assoc put f.front f.later);
    },
  )
