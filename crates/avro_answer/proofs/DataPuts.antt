-- What was put of the text of a datum.
use Rattle.std.proofs.Common.{◌≡◌, ◌≢◌, ◌∙◌, ℕ, List, [], ◌++◌, Option, Some, None, Result, Ok, Err, refl, sym, ap, subst, append_assoc}
use Rattle.std.specs.Prelude.{◌⊎◌, IsErrOf, OnErr, OnOk}
use Rattle.std.specs.Option.{IfSome}
use Rattle.std.specs.Result.{IfErr}
use Rattle.avro_schema.specs.Fits.{LimitValues}
use Rattle.avro_schema.specs.Node.{Node}
use Rattle.avro_cursor.specs.declared.error.ReadError.{ReadError}
use Rattle.avro_device.specs.PutFront.{PutsFrontOf}
use Rattle.avro_resolve.specs.declared.error.ReadResolveError.{ReadResolveError}
use Rattle.avro_resolve.specs.declared.error.ReadResolveError.TheVariants.{Read}
use Rattle.avro_display.specs.Pieces.{PutsText}
use Rattle.avro_display.specs.declared.put_error.PutError.{PutError}
use Rattle.avro_display.proofs.public.Fronts.{fronts_both, fronts_held, fronts_longer}
use Rattle.avro_answer.specs.DataPut.{DatumPut}
use Rattle.avro_answer.specs.ReadAnswer.{Found}
use Rattle.avro_answer.specs.DataRead.{fault_found, IsDatumTold}
use Rattle.avro_answer.specs.declared.data_error.DataError.{DataError}
use Rattle.avro_answer.specs.declared.form.Form.{Form}
use Rattle.avro_answer.specs.inside.AtFront.{of_put}
use Rattle.avro_answer.specs.inside.DatumParts.{head_of, tail_of, text_around}

-- what is sure holds of a fault, too
pub surely : {P : Type 0} (o : Option Found) → P → IfSome o (λ _. P)
surely (Some f) h = h
surely None h = tt

-- no fault is found where memory runs out
pub no_fault : {A : Type 0} (P : Found → Type 0) (r : Result A ReadResolveError) → IfErr r (λ e. e ≡ Read ReadError.OutOfMemory) → IfErr r (λ e. IfSome (fault_found e) P)
no_fault P (Ok a) h = tt
no_fault P (Err e) h = subst (λ x. IfSome (fault_found x) P) (sym h) tt

-- ---- A result of putting, as one of data

module _ {O A : Type 0} (keeps : O → List ℕ → O → Type 0) (failures : O → ℕ) (stuck : O → Type 0) (writer : List Node) (reader : Option (List Node)) (limits : LimitValues) (form : Form) (bytes : List ℕ) (s t : O) (text : List ℕ)
    (told : IsDatumTold writer reader limits form 0 bytes text) where
  by_put : (r : Result A PutError) → OnOk r (keeps s text t) → OnErr r (PutsFrontOf keeps s t text) → OnOk r (failures t ≡ failures s)
      → (IsErrOf r PutError.CannotWrite → (failures t ≢ failures s) ⊎ stuck t) → (IsErrOf r PutError.OutOfMemory → failures t ≡ failures s)
      → DatumPut keeps failures stuck writer reader limits form 0 bytes s t (of_put r)
  by_put (Ok x) put front works fails memory =
      record { put = (text, told, put); front = tt; refused = tt; works = works; fails = λ is. absurd cc; memory = λ is. absurd cc; unused = tt }
  by_put (Err e) put front works fails memory =
      record { put = tt; front = (text, told, front); refused = tt; works = tt; fails = λ is. fails cc; memory = λ is. memory cc; unused = tt }

  pub as_put : (r : Result A PutError) (d : Result A DataError) → d ≡ of_put r → OnOk r (keeps s text t) → OnErr r (PutsFrontOf keeps s t text) → OnOk r (failures t ≡ failures s)
      → (IsErrOf r PutError.CannotWrite → (failures t ≢ failures s) ⊎ stuck t) → (IsErrOf r PutError.OutOfMemory → failures t ≡ failures s)
      → DatumPut keeps failures stuck writer reader limits form 0 bytes s t d
  as_put r d same put front works fails memory =
      subst (λ (x : Result A DataError). DatumPut keeps failures stuck writer reader limits form 0 bytes s t x) (sym same) (by_put r put front works fails memory)

-- ---- A text in parts

module _ {O : Type 0} (keeps : O → List ℕ → O → Type 0) where
  -- nothing was put
  pub none_put : (s : O) (text : List ℕ) → keeps s [] s → PutsFrontOf keeps s s text
  none_put s text none = record { front = []; later = text; kept = none; split = refl }

-- the display behind a head and before a tail
in_parts : (form : Form) (display : List ℕ) (len : ℕ) → head_of form len ++ (display ++ tail_of form) ≡ text_around form display len
in_parts form display len = sym (append_assoc (head_of form len) display (tail_of form))

module _ {O : Type 0} (keeps : O → List ℕ → O → Type 0) (form : Form) (display : List ℕ) (len : ℕ) (held : List ℕ) (begun : held ≡ head_of form len) where
  whole : held ++ (display ++ tail_of form) ≡ text_around form display len
  whole = ap (λ h. h ++ (display ++ tail_of form)) begun ∙ in_parts form display len

  -- a prefix of the display was put
  pub front_of_display : (s t : O) → PutsFrontOf keeps s t (held ++ display) → PutsFrontOf keeps s t (text_around form display len)
  front_of_display s t f = subst (λ b. PutsFrontOf keeps s t b) whole (fronts_longer keeps s t held display (tail_of form) f)

  module _ (s t : O) (left : List ℕ) (put : PutsText keeps s held display t left) where
    -- the tail was not
    pub front_of_tail : PutsFrontOf keeps s t (text_around form display len)
    front_of_tail = front_of_display s t (fronts_held keeps s t held display left put)

    module _ (chain : (s t u : O) (front back : List ℕ) → keeps s front t → keeps t back u → keeps s (front ++ back) u)
        (u : O) (last tail : List ℕ) (grown : last ≡ left ++ tail) (ended : tail ≡ tail_of form) where
      -- all was put
      pub all_put : keeps t last u → keeps s (text_around form display len) u
      all_put k = subst (λ b. keeps s b u)
          (ap (λ b. put.0 ++ b) (grown ∙ ap (λ b. left ++ b) ended) ∙ sym (append_assoc put.0 left (tail_of form)) ∙ ap (λ b. b ++ tail_of form) (sym put.2)
          ∙ append_assoc held display (tail_of form) ∙ whole)
          (chain s t u put.0 last put.1 k)

      -- a prefix of what was left was put
      pub front_of_last : PutsFrontOf keeps t u last → PutsFrontOf keeps s u (text_around form display len)
      front_of_last f = subst (λ b. PutsFrontOf keeps s u b) whole
          (fronts_both keeps chain s t u held display left (tail_of form) put (subst (λ b. PutsFrontOf keeps t u b) (grown ∙ ap (λ b. left ++ b) ended) f))
