-- The lines of several encoded data.
use Rattle.std.proofs.Common.{◌≡◌, ◌≢◌, ◌∙◌, ℕ, ◌+◌, ◌<◌, ◌≤◌, Bool, true, false, List, [], ◌∷◌, ◌++◌, length, get_or, take, drop, max, codes, Option, Result, Ok, Err, refl, sym, ap, subst, append_assoc, append-nil}
use Rattle.std.proofs.lemmas.Grind.{flat_map-append}
use Rattle.std.proofs.lemmas.List.{drop_all}
use Rattle.std.proofs.lemmas.List.Folds.{list_all-append}
use Rattle.std.proofs.lemmas.Slice.Zip.{all_zipped_more}
use Rattle.std.specs.Prelude.{◌&&◌, if◌then◌else◌, flat_map, IfOk}
use Rattle.std.specs.List.{AllZip, list_all}
use Rattle.std.specs.Option.{IfSome}
use Rattle.avro_schema.specs.Node.{Node}
use Rattle.avro_schema.specs.Fits.{LimitValues}
use Rattle.avro_cursor.specs.declared.error.ReadError.{ReadError}
use Rattle.avro_compare.specs.Seen.{fault_of}
use Rattle.avro_compare.specs.declared.error.Fault.{Fault}
use Rattle.avro_resolve.specs.declared.error.ReadResolveError.{ReadResolveError}
use Rattle.avro_answer.specs.DataRead.{error_text, fault_found, IsDatumTold}
use Rattle.avro_answer.specs.HistoryAnswer.{cut_texts}
use Rattle.avro_answer.specs.ReadAnswer.{Found, broken, unresolved, datum, IsAllFound, nodes_for}
use Rattle.avro_answer.specs.ReadsAnswer.{LinesRead, all_status, found_line, is_datum}
use Rattle.avro_answer.specs.declared.form.Form.{Form}
use Rattle.avro_answer.specs.inside.AtFront.{IsFaultTold, IsLinePut, IsLineTold}
use Rattle.avro_answer.proofs.HistoryTexts.{cut_ahead}

either : (a b : Bool) → (if (a && (b && true)) then 0 else 1) ≡ max (if (b && true) then 0 else 1) (if a then 0 else 1)
either true true = refl
either true false = refl
either false true = refl
either false false = refl

-- the status of one more
status_more : (all : List Found) (found : Found) → all_status (all ++ (found ∷ [])) ≡ max (all_status (found ∷ [])) (all_status all)
status_more all found =
    ap (λ b. if b then 0 else 1) (list_all-append is_datum all (found ∷ [])) ∙ either (list_all is_datum all) (is_datum found)

module _ (writer : List Node) (reader : Option (List Node)) (limits : LimitValues) (skip : ℕ) (bytes lengths : List ℕ) where
  abbrev line : Found → List ℕ
  line = found_line (nodes_for writer reader)

  -- the lines of the data that were passed
  pub record LinesSoFar (rest : List ℕ) (i : ℕ) (text : List ℕ) (status : ℕ) : Type 0 where
    pub passed : List (List ℕ)
    pub whole : cut_texts bytes lengths ≡ passed ++ cut_texts rest (drop i lengths)
    pub all : List Found
    pub each : AllZip (IsAllFound writer reader limits skip) passed all
    pub told : text ≡ flat_map (found_line (nodes_for writer reader)) all
    pub status_is : status ≡ all_status all

  pub no_lines : LinesSoFar bytes 0 [] 0
  no_lines = record { passed = []; whole = refl; all = []; each = tt; told = refl; status_is = refl }

  pub one_line : (rest : List ℕ) (i : ℕ) (text : List ℕ) (status : ℕ) → LinesSoFar rest i text status
      → (front back : List ℕ) → i < length lengths → front ≡ take (get_or lengths i 0) rest → back ≡ drop (get_or lengths i 0) rest
      → (here : List ℕ) (more : ℕ) → IsLineTold writer reader limits skip front here more
      → LinesSoFar back (i + 1) (text ++ here) (max more status)
  one_line rest i text status before front back inside front_is back_is here more h = record {
    passed = before.passed ++ (front ∷ []);
    whole = before.whole ∙ ap (λ l. before.passed ++ l) (cut_ahead rest lengths i front back inside front_is back_is)
        ∙ sym (append_assoc before.passed (front ∷ []) (cut_texts back (drop (i + 1) lengths)));
    all = before.all ++ (h.found ∷ []);
    each = all_zipped_more (IsAllFound writer reader limits skip) before.passed before.all front h.found before.each h.is_found;
    told = ap (λ t. t ++ here) before.told ∙ ap (λ t. flat_map line before.all ++ t) (h.told ∙ sym (append-nil (line h.found)))
        ∙ sym (flat_map-append line before.all (h.found ∷ []));
    status_is = ap (λ s. max s status) h.status_is ∙ ap (max (all_status (h.found ∷ []))) before.status_is ∙ sym (status_more before.all h.found);
  }

  pub all_lines : (rest : List ℕ) (i : ℕ) (text : List ℕ) (status : ℕ) → LinesSoFar rest i text status → length lengths ≤ i
      → LinesRead writer reader limits skip (cut_texts bytes lengths) text status
  all_lines rest i text status h past = record {
    all = h.all;
    each = subst (λ l. AllZip (IsAllFound writer reader limits skip) l h.all)
        (sym (h.whole ∙ ap (λ l. h.passed ++ cut_texts rest l) (drop_all i lengths past) ∙ append-nil h.passed)) h.each;
    told = h.told;
    status_is = h.status_is;
  }

module _ (text : List ℕ) (status : ℕ) (is_one : status ≡ 1) where
  -- the line of a fault of resolution, and that of one of the bytes
  fault_lined : (f : Fault) → text ≡ codes "{\"fault\":\"" ++ error_text (ReadResolveError.Resolve f) ++ codes "\"}\n"
      → IsFaultTold (ReadResolveError.Resolve f) text status
  fault_lined f h = record { found = unresolved (fault_of f); says = refl; told = λ _. h; status_is = is_one }

  reading_lined : (e : ReadError) → (e ≡ ReadError.OutOfMemory → ⊥) → text ≡ codes "{\"fault\":\"" ++ error_text (ReadResolveError.Read e) ++ codes "\"}\n"
      → IsFaultTold (ReadResolveError.Read e) text status
  reading_lined ReadError.OutOfMemory other h = absurd (other refl)
  reading_lined (ReadError.EndOfInput place) other h = record { found = broken _; says = refl; told = λ _. h; status_is = is_one }
  reading_lined (ReadError.InvalidNumber place) other h = record { found = broken _; says = refl; told = λ _. h; status_is = is_one }
  reading_lined (ReadError.InvalidBoolean place) other h = record { found = broken _; says = refl; told = λ _. h; status_is = is_one }
  reading_lined (ReadError.InvalidText place) other h = record { found = broken _; says = refl; told = λ _. h; status_is = is_one }
  reading_lined (ReadError.UnknownIndex place) other h = record { found = broken _; says = refl; told = λ _. h; status_is = is_one }
  reading_lined (ReadError.InvalidLength place) other h = record { found = broken _; says = refl; told = λ _. h; status_is = is_one }
  reading_lined (ReadError.WrongBlockSize place) other h = record { found = broken _; says = refl; told = λ _. h; status_is = is_one }
  reading_lined (ReadError.DuplicateKey place) other h = record { found = broken _; says = refl; told = λ _. h; status_is = is_one }
  reading_lined ReadError.LimitExceeded other h = record { found = broken _; says = refl; told = λ _. h; status_is = is_one }

  -- the line of an error that is not that memory ran out
  pub error_lined : (e : ReadResolveError) → e ≢ ReadResolveError.Read ReadError.OutOfMemory → text ≡ codes "{\"fault\":\"" ++ error_text e ++ codes "\"}\n" → IsFaultTold e text status
  error_lined (ReadResolveError.Read e) other h = reading_lined e (λ is. other (ap ReadResolveError.Read is)) h
  error_lined (ReadResolveError.Resolve f) other h = fault_lined f h

module _ (writer : List Node) (reader : Option (List Node)) (limits : LimitValues) (skip : ℕ) (bytes : List ℕ) where
  -- a datum that is told, and a fault
  pub datum_line : (text : List ℕ) (status : ℕ) → status ≡ 0 → IsDatumTold writer reader limits Form.Json skip bytes text → IsLineTold writer reader limits skip bytes text status
  datum_line text status is h = record { found = datum h.value h.len; is_found = h.is_found; told = h.told; status_is = is }

  fault_line : (e : ReadResolveError) → IfSome (fault_found e) (IsAllFound writer reader limits skip bytes) → (text : List ℕ) (status : ℕ) → IsFaultTold e text status → IsLineTold writer reader limits skip bytes text status
  fault_line e is_found text status h = record {
    found = h.found;
    is_found = subst (λ o. IfSome o (IsAllFound writer reader limits skip bytes)) h.says is_found;
    told = h.told (nodes_for writer reader);
    status_is = h.status_is;
  }

  -- the line of a fault was put where nothing had been
  pub fault_put : {E : Type 0} (e : ReadResolveError) → IfSome (fault_found e) (IsAllFound writer reader limits skip bytes) → (from same to : List ℕ) → IfSome (fault_found e) (λ _. same ≡ from)
      → (result : Result ℕ E) → IfOk result (λ status. (line : List ℕ) × IsFaultTold e line status × (to ≡ same ++ line)) → IfOk result (IsLinePut writer reader limits skip bytes from to)
  fault_put e is_found from same to is (Ok status) (line, told, put) =
      (line, fault_line e is_found line status told, put ∙ ap (λ (b : List ℕ). b ++ line) (subst (λ o. IfSome o (λ _. same ≡ from)) told.says is))
  fault_put e is_found from same to is (Err x) h = tt
