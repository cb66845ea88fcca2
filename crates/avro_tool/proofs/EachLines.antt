-- What was put of the first files: with any answer for the others after it, it is an answer for all.
use Rattle.std.proofs.Common.{◌≡◌, ◌≢◌, ℕ, ◌+◌, ◌<◌, ◌≤◌, min, max, ◌⊎◌, inl, inr, Bool, true, false, Bor, List, [], ◌∷◌, ◌++◌, length, get_or, drop, map, refl, sym, ap, ◌∙◌, subst, arith, append_assoc, append-nil}
use Rattle.std.proofs.lemmas.Bool.Decides.{eqb_tells}
use Rattle.std.proofs.lemmas.List.{drop_more, length-map, length-drop}
use Rattle.std.specs.Prelude.{◌==◌, if◌then◌else◌}
use Rattle.avro_schema.specs.declared.schema.Schema.{Schema}
use Rattle.avro_judge.specs.JudgeRanges.{JudgeLimitValues}
use Rattle.avro_answer.specs.declared.form.Form.{Form}
use Rattle.avro_tool.specs.EachAnswer.{later_of, EachAnswer}
use Rattle.avro_tool.specs.FoundStatus.{finding_status, IsVerdict, worse}
use Rattle.avro_tool.specs.ModeAnswer.{ModeAnswer}
use Rattle.avro_tool.specs.declared.Finding.{Finding}
use Rattle.avro_tool.specs.declared.request.Mode.{Mode}

-- the status of two by whether each is 1
abbrev status_by : Bool → Bool → ℕ → ℕ → ℕ
status_by p q a b = if p then 1 else (if q then 1 else max a b)

by_tests : (a b : ℕ) (p q : Bool) → ((p ≡ true) × (a ≡ 1)) ⊎ ((p ≡ false) × (a ≢ 1)) → ((q ≡ true) × (b ≡ 1)) ⊎ ((q ≡ false) × (b ≢ 1))
    → ((a ≡ 1) × (status_by p q a b ≡ 1)) ⊎ ((b ≡ 1) × (status_by p q a b ≡ 1)) ⊎ ((a ≢ 1) × (b ≢ 1) × (status_by p q a b ≡ max a b))
by_tests a b true q (inl h) k = inl (h.1, refl)
by_tests a b true q (inr h) k = absurd (cc)
by_tests a b false q (inl h) k = absurd (cc)
by_tests a b false true (inr h) (inl k) = inr (inl (k.1, refl))
by_tests a b false true (inr h) (inr k) = absurd (cc)
by_tests a b false false (inr h) (inl k) = absurd (cc)
by_tests a b false false (inr h) (inr k) = inr (inr (h.1, k.1, refl))

-- the status of two is 1 where that of one is, and else the greater one
pub worse_is : (a b : ℕ) → ((a ≡ 1) × (worse a b ≡ 1)) ⊎ ((b ≡ 1) × (worse a b ≡ 1)) ⊎ ((a ≢ 1) × (b ≢ 1) × (worse a b ≡ max a b))
worse_is a b = by_tests a b (a == 1) (b == 1) (eqb_tells a 1) (eqb_tells b 1)

pub worse-zero : (a : ℕ) → worse a 0 ≡ a
worse-zero a = grind (arith, worse_is a 0)

pub zero-worse : (a : ℕ) → worse 0 a ≡ a
zero-worse a = grind (arith, worse_is 0 a)

pub worse_assoc : (a b c : ℕ) → worse (worse a b) c ≡ worse a (worse b c)
worse_assoc a b c = grind (arith, worse_is a b, worse_is (worse a b) c, worse_is b c, worse_is a (worse b c))

-- What was put between two states, and what was found, of the first files: any answer for the others, after it, is one for all.
pub record SoFar {O : Type 0} (keeps : O → List ℕ → O → Type 0) (from to : O) (found : Finding) (left all : List ℕ → ℕ → Type 0) : Type 0 where
  pub verdict : IsVerdict found
  pub text : List ℕ
  pub kept : keeps from text to
  pub rest : (more : List ℕ) (other : ℕ) → left more other → all (text ++ more) (worse (finding_status found) other)

module _ {O : Type 0} (keeps : O → List ℕ → O → Type 0) where
  pub none_yet : (s : O) (all : List ℕ → ℕ → Type 0) → keeps s [] s → SoFar keeps s s Finding.Yes all all
  none_yet s all none = record {
    verdict = tt;
    text = [];
    kept = none;
    rest = λ more other given. subst (λ n. all more n) (sym (zero-worse other)) given;
  }

  pub one_more : ((s t u : O) (front back : List ℕ) → keeps s front t → keeps t back u → keeps s (front ++ back) u)
      → (from mid to : O) (found other both : Finding) (left next all : List ℕ → ℕ → Type 0) (lines : List ℕ)
      → SoFar keeps from mid found left all → keeps mid lines to → IsVerdict both
      → finding_status both ≡ worse (finding_status found) (finding_status other)
      → ((more : List ℕ) (n : ℕ) → next more n → left (lines ++ more) (worse (finding_status other) n))
      → SoFar keeps from to both next all
  one_more chain from mid to found other both left next all lines before put verdict worst step = record {
    verdict = verdict;
    text = before.text ++ lines;
    kept = chain from mid to before.text lines before.kept put;
    rest = λ more n given.
        subst (λ s. all ((before.text ++ lines) ++ more) (worse s n)) (sym worst)
        (subst (λ s. all ((before.text ++ lines) ++ more) s) (sym (worse_assoc (finding_status found) (finding_status other) n))
        (subst (λ t. all t (worse (finding_status found) (worse (finding_status other) n))) (sym (append_assoc before.text lines more))
        (before.rest (lines ++ more) (worse (finding_status other) n) (step more n given))));
  }

  pub all_done : (from to : O) (found : Finding) (left all : List ℕ → ℕ → Type 0) → SoFar keeps from to found left all → left [] 0
      → (text : List ℕ) × all text (finding_status found) × keeps from text to
  all_done from to found left all before none = (
    before.text,
    subst (λ t. all t (finding_status found)) (append-nil before.text)
        (subst (λ n. all (before.text ++ []) n) (worse-zero (finding_status found)) (before.rest [] 0 none)),
    before.kept,
  )

-- the names of files
abbrev pub names_of : List (Bor (List ℕ)) → List (List ℕ)
names_of files = map (λ w. w.now) files

module _ (form : Form) (mode : Mode) (is_next : Bool) (last : Schema) (limits : JudgeLimitValues) where
  -- what is answered of files and schemas from an index on
  abbrev pub EachFrom : ℕ → List (Bor (List ℕ)) → List Schema → List ℕ → ℕ → Type 0
  EachFrom i files schemas text status = EachAnswer form mode is_next (names_of (drop i files)) (drop i schemas) last limits text status

  pub each_more : (files : List (Bor (List ℕ))) (schemas : List Schema) (i : ℕ) (d : Bor (List ℕ)) (earlier later : Schema) (after : List Schema) (lines : List ℕ) (one : ℕ)
      → i < length files → i < length schemas → earlier ≡ get_or schemas i earlier → after ≡ drop (i + 1) schemas → later ≡ later_of is_next after last
      → ModeAnswer form mode (get_or files i d).now earlier later limits lines one
      → (more : List ℕ) (n : ℕ) → EachFrom (i + 1) files schemas more n → EachFrom i files schemas (lines ++ more) (worse one n)
  each_more files schemas i d earlier later after lines one named here is rest next answer more n given =
      let file = (get_or files i d).now in
      let files_are : names_of (drop i files) ≡ file ∷ names_of (drop (i + 1) files) = ap names_of (drop_more files i d named) in
      let schemas_are : drop i schemas ≡ earlier ∷ drop (i + 1) schemas =
      drop_more schemas i earlier here ∙ ap (λ (s : Schema). s ∷ drop (i + 1) schemas) (sym is) in
      let later_is : later ≡ later_of is_next (drop (i + 1) schemas) last = next ∙ ap (λ (others : List Schema). later_of is_next others last) rest in
      let whole : EachAnswer form mode is_next (file ∷ names_of (drop (i + 1) files)) (earlier ∷ drop (i + 1) schemas) last limits (lines ++ more) (worse one n) =
      (lines, more, one, n, subst (λ s. ModeAnswer form mode file earlier s limits lines one) later_is answer, given, refl, refl) in
      subst (λ fs. EachAnswer form mode is_next fs (drop i schemas) last limits (lines ++ more) (worse one n)) (sym files_are)
      (subst (λ ss. EachAnswer form mode is_next (file ∷ names_of (drop (i + 1) files)) ss last limits (lines ++ more) (worse one n)) (sym schemas_are) whole)

  each_none : (files : List (List ℕ)) (schemas : List Schema) → min (length files) (length schemas) ≡ 0 → EachAnswer form mode is_next files schemas last limits [] 0
  each_none [] schemas none = (refl, refl)
  each_none (file ∷ files) [] none = (refl, refl)
  each_none (file ∷ files) (earlier ∷ after) none = absurd (omega (arith, none))

  pub each_done : (files : List (Bor (List ℕ))) (schemas : List Schema) (i count : ℕ) → count ≡ min (length files) (length schemas) → count ≤ i
      → EachFrom i files schemas [] 0
  each_done files schemas i count least past =
      each_none (names_of (drop i files)) (drop i schemas)
      (omega (arith, length-map (drop i files) (λ (w : Bor (List ℕ)). w.now), length-drop i files, length-drop i schemas, least, past))
