-- The faults in a form, one after another, and the places of the faults of two schemas.
use Rattle.std.proofs.Common.{◌≡◌, ◌∙◌, ◌<◌, ◌≤◌, ◌+◌, ℕ, suc, Bool, true, false, List, [], ◌∷◌, ◌++◌, drop, get_or, Result, Ok, Err, length, refl, sym, ap, subst, arith, append_assoc, append-nil}
use Rattle.std.proofs.lemmas.List.{drop_more}
use Rattle.std.specs.List.{AllByRecursion, AllZip, concat}
use Rattle.std.specs.Prelude.{OnOk}
use Rattle.serde_json.specs.Data.{Data}
use Rattle.serde_json.specs.Written.{comma_if, compact_text, items_text}
use Rattle.avro_device.specs.PutFront.{PutsFrontOf}
use Rattle.avro_schema.specs.Node.{Node, node_at}
use Rattle.avro_explain.specs.Details.{details_of}
use Rattle.avro_explain.specs.Places.{findings, findings_at, findings_from}
use Rattle.avro_explain.specs.declared.found.Detail.{Detail}
use Rattle.avro_explain.specs.declared.found.Finding.{Finding}
use Rattle.avro_explain.specs.declared.found.Place.{Place}
use Rattle.avro_answer.specs.FaultLine.{IsFaultLine}
use Rattle.avro_answer.specs.FaultTree.{IsFaultTree}
use Rattle.avro_answer.specs.JsonAnswer.{tree_items}
use Rattle.avro_answer.specs.declared.form.Form.{Form}
use Rattle.avro_answer.specs.declared.named_fault.NamedFault.{NamedFault}
use Rattle.avro_answer.specs.inside.FaultsAdded.{HavePlaces, AreFaultsAdded, AreLeft, AreTold, IsBegun, IsFaultAdded, IsFrontAdded, faults_end}
use Rattle.avro_answer.specs.inside.NamedLine.{IsNamed, named_line, named_tree}

-- what is left of a list at an index
pub next_left : (items xs : List Finding) (i : ℕ) (d : Finding) → xs ≡ items → i < length xs → drop i items ≡ get_or xs i d ∷ drop (i + 1) items
next_left items xs i d is within = subst (λ (fs : List Finding). drop i fs ≡ get_or xs i d ∷ drop (i + 1) fs) is (drop_more xs i d within)

pub on_ok : {A E P Q : Type 0} → (P → Q) → (r : Result A E) → OnOk r P → OnOk r Q
on_ok f (Ok a) h = f h
on_ok f (Err e) h = tt

all_both : {X : Type 0} (P : X → Type 0) (xs ys : List X) → AllByRecursion P xs → AllByRecursion P ys → AllByRecursion P (xs ++ ys)
all_both P [] ys first second = second
all_both P (x ∷ xs) ys first second = (first.0, all_both P xs ys first.1 second)

of_one : (n index : ℕ) (details : List Detail) → index < n → AllByRecursion (λ (fault : Finding). fault.place < n) (findings index details)
of_one n index [] within = tt
of_one n index (d ∷ ds) within = (within, of_one n index ds within)

of_all : (writer reader : List Node) (n index : ℕ) (places : List Place) → index + length places ≤ n
    → AllByRecursion (λ (fault : Finding). fault.place < n) (findings_from writer reader index places)
of_all writer reader n index [] within = tt
of_all writer reader n index (p ∷ places) within =
    all_both (λ (fault : Finding). fault.place < n) (findings_at writer reader index p) (findings_from writer reader (suc index) places)
    (of_one n index (details_of writer reader (node_at writer p.w.0) (node_at reader p.r.0)) (omega (arith, within)))
    (of_all writer reader n (suc index) places (omega (arith, within)))

-- an item of a list after its comma, and the items after it
after_item : (before comma text rest : List ℕ) → (before ++ (comma ++ text)) ++ rest ≡ before ++ (comma ++ (text ++ rest))
after_item before comma text rest = append_assoc before (comma ++ text) rest ∙ ap (λ t. before ++ t) (append_assoc comma text rest)

module _ (writer reader : List Node) (places : List Place) where
  -- each fault of the places is of one of them
  pub placed : (faults : List Finding) → faults ≡ findings_from writer reader 0 places → HavePlaces places faults
  placed faults are = subst (HavePlaces places) (sym are) (of_all writer reader (length places) 0 places (omega arith))

  -- what is written of a fault by names is its line, or its tree
  pub line_of_named : (fault : Finding) (named : NamedFault) → IsNamed writer reader places fault named → IsFaultLine writer reader places fault (named_line named)
  line_of_named fault named is = record {
    found = is.found;
    written = rw (is.detail, is.missing, is.writer_at, is.reader_at, is.written, is.read) refl;
  }

  pub tree_of_named : (fault : Finding) (named : NamedFault) → IsNamed writer reader places fault named → IsFaultTree writer reader places fault (named_tree named)
  tree_of_named fault named is = record {
    found = is.found;
    written = rw (is.detail, is.missing, is.writer_node, is.reader_node, is.writer_at, is.reader_at, is.written, is.read) refl;
  }

  -- a fault is added to what is put and what is kept
  behind : (form : Form) (later : Bool) (fault : Finding) (put old new : List ℕ) → IsFaultAdded form writer reader places later fault old new
      → IsFaultAdded form writer reader places later fault (put ++ old) (put ++ new)
  behind Form.Text later fault put old new one = record {
    line = one.line;
    is = one.is;
    added = ap (λ t. put ++ t) one.added ∙ sym (append_assoc put old one.line);
  }
  behind Form.Json later fault put old new one = record {
    tree = one.tree;
    is = one.is;
    added = ap (λ t. put ++ t) one.added ∙ sym (append_assoc put old (comma_if later ++ compact_text one.tree));
  }

  -- the lines that were added
  lines_of : (later : Bool) (faults : List Finding) (before after : List ℕ) → AreFaultsAdded Form.Text writer reader places later faults before after
      → (lines : List (List ℕ)) × AllZip (IsFaultLine writer reader places) faults lines × (after ≡ before ++ concat lines)
  lines_of later [] before after added = ([], tt, added ∙ sym (append-nil before))
  lines_of later (fault ∷ faults) before after (between, one, added) =
      let more = lines_of true faults between after added in
      (one.line ∷ more.0, (one.is, more.1), more.2 ∙ ap (λ t. t ++ concat more.0) one.added ∙ append_assoc before one.line (concat more.0))

  -- the trees that were added, as the items of an array
  pub trees_of : (later : Bool) (faults : List Finding) (before after : List ℕ) → AreFaultsAdded Form.Json writer reader places later faults before after
      → (trees : List Data) × AllZip (IsFaultTree writer reader places) faults trees × (after ++ 93 ∷ [] ≡ before ++ items_text later (tree_items trees))
  trees_of later [] before after added = ([], tt, ap (λ t. t ++ 93 ∷ []) added)
  trees_of later (fault ∷ faults) before after (between, one, added) =
      let more = trees_of true faults between after added in
      let rest : List ℕ = items_text true (tree_items more.0) in
      (one.tree ∷ more.0, (one.is, more.1), more.2 ∙ ap (λ t. t ++ rest) one.added ∙ after_item before (comma_if later) (compact_text one.tree) rest)

  pub told : (form : Form) (faults : List Finding) (begun text : List ℕ) → IsBegun form (length faults) begun
      → AreFaultsAdded form writer reader places false faults begun text → AreTold form writer reader places faults (text ++ faults_end form)
  told Form.Text faults begun text is added =
      let more = lines_of false faults begun text added in
      record { lines = more.0; each = more.1; written = append-nil text ∙ more.2 ∙ ap (λ b. b ++ concat more.0) is }
  told Form.Json faults begun text is added =
      let more = trees_of false faults begun text added in
      record { trees = more.0; each = more.1; written = sym (append_assoc text (93 ∷ []) (125 ∷ 10 ∷ [])) ∙ ap (λ t. t ++ 125 ∷ 10 ∷ []) more.2 ∙ is more.0 }

  module _ (form : Form) where
    -- all are left at first
    pub left_all : (faults : List Finding) (text : List ℕ) → HavePlaces places faults → AreLeft form writer reader places faults faults false text text
    left_all faults text have = record { placed = have; whole = λ after added. added }

    -- one is left no more
    pub left_more : (faults left rest : List Finding) (later : Bool) (fault : Finding) (before old new : List ℕ) → left ≡ fault ∷ rest
        → (fault.place < length places → IsFaultAdded form writer reader places later fault old new)
        → AreLeft form writer reader places faults left later before old → AreLeft form writer reader places faults rest true before new
    left_more faults left rest later fault before old new is one have =
        let all = subst (HavePlaces places) is have.placed in record {
          placed = all.1;
          whole = λ after added.
              subst (λ fs. AreFaultsAdded form writer reader places later fs old after → AreFaultsAdded form writer reader places false faults before after) is (have.whole after)
              (new, one all.0, added);
        }

    module _ {O : Type 0} (keeps : O → List ℕ → O → Type 0) (chain : (s t u : O) (front back : List ℕ) → keeps s front t → keeps t back u → keeps s (front ++ back) u)
        (first then last : O) (faults : List Finding) where
      -- the same where a part of what was kept is put then
      pub put_more : (left rest : List Finding) (later : Bool) (fault : Finding) (before old mid new : List ℕ) → left ≡ fault ∷ rest
          → (fault.place < length places → IsFaultAdded form writer reader places later fault old mid)
          → (piece : List ℕ) × keeps then piece last × (mid ≡ piece ++ new)
          → (put : List ℕ) × keeps first put then × AreLeft form writer reader places faults left later before (put ++ old)
          → (put : List ℕ) × keeps first put last × AreLeft form writer reader places faults rest true before (put ++ new)
      put_more left rest later fault before old mid new is one (piece, appended, cut) (put, stood, have) = (
        put ++ piece,
        chain first then last put piece stood appended,
        subst (AreLeft form writer reader places faults rest true before) (ap (λ t. put ++ t) cut ∙ sym (append_assoc put piece new))
            (left_more faults left rest later fault before (put ++ old) (put ++ mid) is (λ h. behind form later fault put old mid (one h)) have),
      )

      -- nothing more was put
      pub front_kept : (left : List Finding) (later : Bool) (before old : List ℕ)
          → (put : List ℕ) × keeps first put then × AreLeft form writer reader places faults left later before (put ++ old)
          → IsFrontAdded keeps first then form writer reader places faults before
      front_kept left later before old (put, stood, have) = record {
        text = put ++ old;
        left = left;
        later = later;
        added = have;
        put = record { front = put; later = old; kept = stood; split = refl };
      }

      -- one is left no more, and a prefix of what was kept then was put
      pub front_more : (left rest : List Finding) (later : Bool) (fault : Finding) (before old mid : List ℕ) → left ≡ fault ∷ rest
          → (fault.place < length places → IsFaultAdded form writer reader places later fault old mid) → PutsFrontOf keeps then last mid
          → (put : List ℕ) × keeps first put then × AreLeft form writer reader places faults left later before (put ++ old)
          → IsFrontAdded keeps first last form writer reader places faults before
      front_more left rest later fault before old mid is one f (put, stood, have) = record {
        text = put ++ mid;
        left = rest;
        later = true;
        added = left_more faults left rest later fault before (put ++ old) (put ++ mid) is (λ h. behind form later fault put old mid (one h)) have;
        put = record {
          front = put ++ f.front;
          later = f.later;
          kept = chain first then last put f.front stood f.kept;
          split = ap (λ t. put ++ t) f.split ∙ sym (append_assoc put f.front f.later);
        };
      }

      -- all are put, and what was kept of them with the end
      pub put_all : (known : Form) → form ≡ known → (begun rest whole : List ℕ) → IsBegun form (length faults) begun → whole ≡ rest ++ faults_end form
          → (put : List ℕ) × keeps first put then × AreFaultsAdded form writer reader places false faults begun (put ++ rest) → keeps then whole last
          → (text : List ℕ) × AreTold known writer reader places faults text × keeps first text last
      put_all known is begun rest whole start same (put, stood, added) appended = (
        put ++ whole,
        subst (λ f. AreTold f writer reader places faults (put ++ whole)) is
            (subst (AreTold form writer reader places faults) (append_assoc put rest (faults_end form) ∙ ap (λ t. put ++ t) (sym same))
            (told form faults begun (put ++ rest) start added)),
        chain first then last put whole stood appended,
      )
