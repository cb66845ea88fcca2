-- What was read of texts that follow one another, and what is left of them.
use Rattle.std.proofs.Common.{◌≡◌, ℕ, ◌+◌, ◌<◌, ◌≤◌, Bool, true, false, List, [], ◌∷◌, ◌++◌, length, get_or, take, drop, refl, sym, ap, ◌∙◌, subst, arith, append_assoc, append-nil}
use Rattle.std.proofs.lemmas.List.{drop_more, drop_all}
use Rattle.std.proofs.lemmas.Slice.Zip.{all_zipped_more}
use Rattle.std.proofs.lemmas.Bool.{eqb-true, eqb-false}
use Rattle.std.specs.Prelude.{◌==◌}
use Rattle.std.specs.List.{AllZip, AllByRecursion}
use Rattle.avro_schema.specs.Node.{Node}
use Rattle.avro_schema_json.specs.declared.error.SchemaError.{SchemaError}
use Rattle.avro_answer.specs.HistoryAnswer.{cut_texts, IsFirstRefused, RefusesHistory, AllHaveSchemas}
use Rattle.avro_answer.specs.ReadText.{IsReadAs}
use Rattle.avro_answer.specs.RefusalText.{HasCode, HasSchema, RefusesOne}
use Rattle.avro_answer.specs.inside.Read.{RefusesReader}
use Rattle.avro_answer.specs.declared.refusal.Refusal.{Refusal}

have_schemas : (texts : List (List ℕ)) (schemas : List (List Node)) → AllZip IsReadAs texts schemas → AllByRecursion HasSchema texts
have_schemas [] [] h = tt
have_schemas [] (s ∷ schemas) h = absurd h
have_schemas (t ∷ texts) [] h = absurd h
have_schemas (t ∷ texts) (s ∷ schemas) h = ((s, h.0), have_schemas texts schemas h.1)

-- what holds of all holds of one that stands among them
one_among : {X : Type 0} (P : X → Type 0) (before : List X) (x : X) (after : List X) → AllByRecursion P (before ++ (x ∷ after)) → P x
one_among P [] x after h = h.0
one_among P (y ∷ before) x after h = one_among P before x after h.1

-- the next text, and what is cut after it
pub cut_ahead : (rest lengths : List ℕ) (i : ℕ) (front back : List ℕ) → i < length lengths → front ≡ take (get_or lengths i 0) rest → back ≡ drop (get_or lengths i 0) rest
    → cut_texts rest (drop i lengths) ≡ front ∷ cut_texts back (drop (i + 1) lengths)
cut_ahead rest lengths i front back here front_is back_is =
    ap (cut_texts rest) (drop_more lengths i 0 here)
    ∙ ap (λ t. t ∷ cut_texts (drop (get_or lengths i 0) rest) (drop (i + 1) lengths)) (sym front_is)
    ∙ ap (λ t. front ∷ cut_texts t (drop (i + 1) lengths)) (sym back_is)

-- the texts that were passed declare the schemas that were read
pub record ReadSoFar (texts lengths rest : List ℕ) (i : ℕ) (schemas : List (List Node)) : Type 0 where
  pub passed : List (List ℕ)
  pub whole : cut_texts texts lengths ≡ passed ++ cut_texts rest (drop i lengths)
  pub declared : AllZip IsReadAs passed schemas

pub read_none : (texts lengths : List ℕ) → ReadSoFar texts lengths texts 0 []
read_none texts lengths = record { passed = []; whole = refl; declared = tt }

module _ (texts lengths rest : List ℕ) (i : ℕ) (schemas : List (List Node)) (before : ReadSoFar texts lengths rest i schemas) where
  module _ (front back : List ℕ) (here : i < length lengths) (front_is : front ≡ take (get_or lengths i 0) rest) (back_is : back ≡ drop (get_or lengths i 0) rest) where
    parted : cut_texts texts lengths ≡ before.passed ++ (front ∷ cut_texts back (drop (i + 1) lengths))
    parted = before.whole ∙ ap (λ l. before.passed ++ l) (cut_ahead rest lengths i front back here front_is back_is)

    pub read_one : (nodes : List Node) → IsReadAs front nodes → ReadSoFar texts lengths back (i + 1) (schemas ++ (nodes ∷ []))
    read_one nodes declares = record {
      passed = before.passed ++ (front ∷ []);
      whole = parted ∙ sym (append_assoc before.passed (front ∷ []) (cut_texts back (drop (i + 1) lengths)));
      declared = all_zipped_more IsReadAs before.passed schemas front nodes before.declared declares;
    }

    is_first : (after : List (List ℕ)) → cut_texts back (drop (i + 1) lengths) ≡ after → (e : SchemaError) → HasCode front e → IsFirstRefused (cut_texts texts lengths) after e
    is_first after is e code = record {
      before = before.passed;
      refused = front;
      parted = parted ∙ ap (λ l. before.passed ++ (front ∷ l)) is;
      declare = have_schemas before.passed schemas before.declared;
      code = code;
    }

    -- the last of the texts is refused, or another one
    pub last_refused : length lengths ≤ i + 1 → (r : Refusal) → RefusesReader front r → RefusesHistory (cut_texts texts lengths) r
    last_refused past (Refusal.Writer e) h = absurd h
    last_refused past (Refusal.Reader e) h = is_first [] (ap (cut_texts back) (drop_all (i + 1) lengths past)) e h
    last_refused past (Refusal.Certificate e) h = h
    last_refused past Refusal.OutOfMemory h = tt

    pub other_refused : i + 1 < length lengths → (r : Refusal) → RefusesOne front r → RefusesHistory (cut_texts texts lengths) r
    other_refused more (Refusal.Writer e) h = (
      take (get_or lengths (i + 1) 0) back,
      cut_texts (drop (get_or lengths (i + 1) 0) back) (drop (i + 1 + 1) lengths),
      is_first _ (ap (cut_texts back) (drop_more lengths (i + 1) 0 more)) e h,
    )
    other_refused more (Refusal.Reader e) h = absurd h
    other_refused more (Refusal.Certificate e) h = h
    other_refused more Refusal.OutOfMemory h = tt

    pub one_refused : (is_last : Bool) → is_last ≡ (i + 1 == length lengths) → (r : Refusal)
        → (is_last ≡ true → RefusesReader front r) → (is_last ≡ false → RefusesOne front r) → RefusesHistory (cut_texts texts lengths) r
    one_refused true e r reader writer = let same : i + 1 ≡ length lengths = eqb-true (i + 1) (length lengths) (sym e) in last_refused (omega arith) r (reader refl)
    one_refused false e r reader writer =
        let differ : i + 1 ≡ length lengths → ⊥ = eqb-false (i + 1) (length lengths) (sym e) in other_refused (omega (arith, differ, here)) r (writer refl)

    pub has_schema : AllHaveSchemas (cut_texts texts lengths) → HasSchema front
    has_schema h = one_among HasSchema before.passed front (cut_texts back (drop (i + 1) lengths)) (subst AllHaveSchemas parted h)

  pub all_read : length lengths ≤ i → AllZip IsReadAs (cut_texts texts lengths) schemas
  all_read past =
      subst (λ l. AllZip IsReadAs l schemas)
      (sym (before.whole ∙ ap (λ l. before.passed ++ cut_texts rest l) (drop_all i lengths past) ∙ append-nil before.passed)) before.declared
