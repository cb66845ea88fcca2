-- The lines of a history so far, and one more.
use Rattle.std.proofs.Common.{◌≡◌, ℕ, ◌+◌, ◌<◌, ◌≤◌, Bool, true, false, ◌⊎◌, inl, inr, List, [], ◌∷◌, ◌++◌, length, get_or, take, map, Result, Ok, Err, refl, sym, ap, ◌∙◌, subst, arith, append_assoc, append-nil}
use Rattle.std.proofs.lemmas.List.{get_or_append_left, get_or_at, length_push, length-map, length-take-le, map-append, take_more}
use Rattle.std.proofs.lemmas.List.Folds.{list_any-append}
use Rattle.std.specs.Prelude.{◌==◌, ◌||◌, if◌then◌else◌, IfOk}
use Rattle.std.specs.List.{list_any, concat}
use borrow.Author.Count.{below_more}
use Rattle.avro_schema.specs.Node.{Node}
use Rattle.avro_schema.specs.SeenSchema.{schema_nodes}
use Rattle.avro_schema.specs.declared.schema.Schema.{Schema}
use Rattle.avro_certificate.specs.CertificateText.{decimal}
use Rattle.avro_judge.specs.JudgeRanges.{JudgeLimitValues}
use Rattle.avro_answer.specs.JudgeAnswer.{StatusAnswer}
use Rattle.avro_answer.specs.HistoryAnswer.{LineAnswer, LineJson, LinesOf, LinesAnswer, LinesJson, LinesStatus, SchemasOf, SchemasStatus, worst}

pub if_ok : {A E : Type 0} (P Q : A → Type 0) → ((a : A) → P a → Q a) → (r : Result A E) → IfOk r P → IfOk r Q
if_ok P Q f (Ok a) h = f a h
if_ok P Q f (Err e) h = tt

-- the status of two
abbrev pub worse_of : ℕ → ℕ → ℕ
worse_of a b = if a == 1 || b == 1 then 1 else (if a == 2 || b == 2 then 2 else 0)

-- a status of a verdict
abbrev pub IsStatus : ℕ → Type 0
IsStatus n = (n ≡ 0) ⊎ (n ≡ 1) ⊎ (n ≡ 2)

-- the status of lines, by whether one is a no, and whether one is undecided
abbrev of_tests : Bool → Bool → ℕ
of_tests a b = if a then 1 else (if b then 2 else 0)

one_more : (a b : Bool) (n : ℕ) → IsStatus n → worse_of (of_tests a b) n ≡ of_tests (a || (n == 1 || false)) (b || (n == 2 || false))
one_more true b n h = refl
one_more false true n (inl e) = subst (λ m. worse_of 2 m ≡ of_tests (m == 1 || false) true) (sym e) refl
one_more false true n (inr (inl e)) = subst (λ m. worse_of 2 m ≡ of_tests (m == 1 || false) true) (sym e) refl
one_more false true n (inr (inr e)) = subst (λ m. worse_of 2 m ≡ of_tests (m == 1 || false) true) (sym e) refl
one_more false false n (inl e) = subst (λ m. worse_of 0 m ≡ of_tests (m == 1 || false) (m == 2 || false)) (sym e) refl
one_more false false n (inr (inl e)) = subst (λ m. worse_of 0 m ≡ of_tests (m == 1 || false) (m == 2 || false)) (sym e) refl
one_more false false n (inr (inr e)) = subst (λ m. worse_of 0 m ≡ of_tests (m == 1 || false) (m == 2 || false)) (sym e) refl

worst_more : (statuses : List ℕ) (n : ℕ) → IsStatus n → worse_of (worst statuses) n ≡ worst (statuses ++ (n ∷ []))
worst_more statuses n h =
    one_more (list_any (λ s. s == 1) statuses) (list_any (λ s. s == 2) statuses) n h
    ∙ ap (λ a. of_tests a (list_any (λ s. s == 2) statuses || (n == 2 || false))) (sym (list_any-append (λ s. s == 1) statuses (n ∷ [])))
    ∙ ap (λ b. of_tests (list_any (λ s. s == 1) (statuses ++ (n ∷ []))) b) (sym (list_any-append (λ s. s == 2) statuses (n ∷ [])))

concat_more : (lines : List (List ℕ)) (line : List ℕ) → concat lines ++ line ≡ concat (lines ++ (line ∷ []))
concat_more [] line = sym (append-nil line)
concat_more (l ∷ lines) line = append_assoc l (concat lines) line ∙ ap (λ t. l ++ t) (concat_more lines line)

module _ (Line : List ℕ → List Node → List ℕ → ℕ → Type 0) where
  no_lines : LinesOf Line [] [] 0
  no_lines = record { lines = []; statuses = []; as_many = (refl, refl); each = λ k h. absurd (omega arith); text_is = refl; status_is = refl }

  lines_more : (writers : List (List Node)) (writer : List Node) (status other : ℕ) → IsStatus other → (text line : List ℕ) → LinesOf Line writers text status
      → Line (decimal (length writers)) writer line other → LinesOf Line (writers ++ (writer ∷ [])) (text ++ line) (worse_of status other)
  lines_more writers writer status other is_status text line before answer = record {
    lines = before.lines ++ (line ∷ []);
    statuses = before.statuses ++ (other ∷ []);
    as_many = (
      omega (arith, before.as_many.0, length_push before.lines line, length_push writers writer),
      omega (arith, before.as_many.1, length_push before.statuses other, length_push writers writer),
    );
    each = λ k h. below_more
        (λ n. Line (decimal n) (get_or (writers ++ (writer ∷ [])) n []) (get_or (before.lines ++ (line ∷ [])) n []) (get_or (before.statuses ++ (other ∷ [])) n 0))
        (length writers)
        (λ n below. rw (
          get_or_append_left writers (writer ∷ []) [] n below,
          get_or_append_left before.lines (line ∷ []) [] n (omega (arith, before.as_many.0)),
          get_or_append_left before.statuses (other ∷ []) 0 n (omega (arith, before.as_many.1)),
        ) (before.each n below))
        (rw (
          get_or_at writers writer [] [] (length writers) refl,
          get_or_at before.lines line [] [] (length writers) before.as_many.0,
          get_or_at before.statuses other [] 0 (length writers) before.as_many.1,
        ) answer)
        k (omega (arith, h, length_push writers writer));
    text_is = ap (λ t. t ++ line) before.text_is ∙ concat_more before.lines line;
    status_is = ap (λ s. worse_of s other) before.status_is ∙ worst_more before.statuses other is_status;
  }

module _ (reader : List Node) (limits : JudgeLimitValues) where
  pub no_statuses : LinesStatus [] reader limits 0
  no_statuses = record { statuses = []; as_many = refl; each = λ k h. absurd (omega arith); status_is = refl }

  module _ (writers : List (List Node)) (writer : List Node) (status other : ℕ) (is_status : IsStatus other) where
    pub statuses_more : LinesStatus writers reader limits status → StatusAnswer writer reader limits other
        → LinesStatus (writers ++ (writer ∷ [])) reader limits (worse_of status other)
    statuses_more before answer = record {
      statuses = before.statuses ++ (other ∷ []);
      as_many = omega (arith, before.as_many, length_push before.statuses other, length_push writers writer);
      each = λ k h. below_more
          (λ n. StatusAnswer (get_or (writers ++ (writer ∷ [])) n []) reader limits (get_or (before.statuses ++ (other ∷ [])) n 0))
          (length writers)
          (λ n below. rw (
            get_or_append_left writers (writer ∷ []) [] n below,
            get_or_append_left before.statuses (other ∷ []) 0 n (omega (arith, before.as_many)),
          ) (before.each n below))
          (rw (
            get_or_at writers writer [] [] (length writers) refl,
            get_or_at before.statuses other [] 0 (length writers) before.as_many,
          ) answer)
          k (omega (arith, h, length_push writers writer));
      status_is = ap (λ s. worse_of s other) before.status_is ∙ worst_more before.statuses other is_status;
    }

-- the nodes of the first schemas
abbrev pub first_nodes : ℕ → List Schema → List (List Node)
first_nodes i schemas = map schema_nodes (take i schemas)

one_more_nodes : (schemas : List Schema) (i : ℕ) (schema : Schema) → i < length schemas → schema ≡ get_or schemas i schema
    → first_nodes (i + 1) schemas ≡ first_nodes i schemas ++ (schema_nodes schema ∷ [])
one_more_nodes schemas i schema here is =
    ap (map schema_nodes) (take_more schemas i schema here)
    ∙ map-append schema_nodes (take i schemas) (get_or schemas i schema ∷ [])
    ∙ ap (λ (s : Schema). first_nodes i schemas ++ (schema_nodes s ∷ [])) (sym is)

length_nodes : (schemas : List Schema) (i : ℕ) → i ≤ length schemas → length (first_nodes i schemas) ≡ i
length_nodes schemas i h = length-map (take i schemas) schema_nodes ∙ length-take-le i schemas h

-- What the lines of the first schemas are, where they are text and where they are JSON, and what their status says.
pub record LinesSoFar (is_text is_json : Type 0) (writers : List (List Node)) (reader : List Node) (limits : JudgeLimitValues) (text : List ℕ) (status : ℕ) : Type 0 where
  pub lines : is_text → LinesAnswer writers reader limits text status
  pub trees : is_json → LinesJson writers reader limits text status
  pub statuses : LinesStatus writers reader limits status

-- the lines of the first schemas and of one more
next_lines : (Line : List ℕ → List Node → List ℕ → ℕ → Type 0) (schemas : List Schema) (i : ℕ) (schema : Schema) → i < length schemas → schema ≡ get_or schemas i schema
    → (text line longer : List ℕ) (status other worse : ℕ) → IsStatus other → LinesOf Line (first_nodes i schemas) text status
    → Line (decimal i) (schema_nodes schema) line other → longer ≡ text ++ line → worse ≡ worse_of status other → LinesOf Line (first_nodes (i + 1) schemas) longer worse
next_lines Line schemas i schema here is text line longer status other worse known before answer longer_is worse_is =
    let ws = first_nodes i schemas in
    subst (λ l. LinesOf Line l longer worse) (sym (one_more_nodes schemas i schema here is))
    (subst (λ n. LinesOf Line (ws ++ (schema_nodes schema ∷ [])) longer n) (sym worse_is)
    (subst (λ l. LinesOf Line (ws ++ (schema_nodes schema ∷ [])) l (worse_of status other)) (sym longer_is)
    (lines_more Line ws (schema_nodes schema) status other known text line before
    (subst (λ n. Line (decimal n) (schema_nodes schema) line other) (sym (length_nodes schemas i (omega arith))) answer))))

module _ (is_text is_json : Type 0) (reader : List Node) (limits : JudgeLimitValues) where
  pub so_far_none : (text : List ℕ) → text ≡ [] → LinesSoFar is_text is_json [] reader limits text 0
  so_far_none text none = record {
    lines = λ _. subst (λ t. LinesAnswer [] reader limits t 0) (sym none) (no_lines (λ word writer. LineAnswer word writer reader limits));
    trees = λ _. subst (λ t. LinesJson [] reader limits t 0) (sym none) (no_lines (λ word writer. LineJson word writer reader limits));
    statuses = no_statuses reader limits;
  }

  pub so_far_more : (schemas : List Schema) (i : ℕ) (schema : Schema) → i < length schemas → schema ≡ get_or schemas i schema
      → (text line longer : List ℕ) (status other worse : ℕ) → LinesSoFar is_text is_json (first_nodes i schemas) reader limits text status
      → (is_text → LineAnswer (decimal i) (schema_nodes schema) reader limits line other) → (is_json → LineJson (decimal i) (schema_nodes schema) reader limits line other)
      → StatusAnswer (schema_nodes schema) reader limits other
      → longer ≡ text ++ line → worse ≡ worse_of status other
      → LinesSoFar is_text is_json (first_nodes (i + 1) schemas) reader limits longer worse
  so_far_more schemas i schema here is text line longer status other worse before answer tree status_answer longer_is worse_is =
      let ws = first_nodes i schemas in
      record {
        lines = λ t. next_lines (λ word writer. LineAnswer word writer reader limits) schemas i schema here is text line longer status other worse status_answer.known
            (before.lines t) (answer t) longer_is worse_is;
        trees = λ t. next_lines (λ word writer. LineJson word writer reader limits) schemas i schema here is text line longer status other worse status_answer.known
            (before.trees t) (tree t) longer_is worse_is;
        statuses =
            subst (λ l. LinesStatus l reader limits worse) (sym (one_more_nodes schemas i schema here is))
            (subst (λ n. LinesStatus (ws ++ (schema_nodes schema ∷ [])) reader limits n) (sym worse_is)
            (statuses_more reader limits ws (schema_nodes schema) status other status_answer.known before.statuses status_answer));
      }

-- two lists that end with an element each are one where their fronts are one and their ends are
same_ends : {X : Type 0} (xs ys : List X) (x y : X) → xs ++ (x ∷ []) ≡ ys ++ (y ∷ []) → (xs ≡ ys) × (x ≡ y)
same_ends [] [] x y h = (refl, cc)
same_ends [] (b ∷ ys) x y h = absurd (omega (arith, ap length h, length_push ys y))
same_ends (a ∷ xs) [] x y h = absurd (omega (arith, ap length h, length_push xs x))
same_ends (a ∷ xs) (b ∷ ys) x y h =
    let first : a ≡ b = cc in
    let rest : xs ++ (x ∷ []) ≡ ys ++ (y ∷ []) = cc in
    let both = same_ends xs ys x y rest in
    let fronts : xs ≡ ys = both.0 in (cc, both.1)

never_none : {X : Type 0} (xs : List X) (x : X) → xs ++ (x ∷ []) ≡ [] → ⊥
never_none xs x h = omega (arith, ap length h, length_push xs x)

pub snoc_nodes : (schemas writers : List Schema) (reader : Schema) → schemas ≡ writers ++ (reader ∷ []) → map schema_nodes schemas ≡ map schema_nodes writers ++ (schema_nodes reader ∷ [])
snoc_nodes schemas writers reader e = ap (map schema_nodes) e ∙ map-append schema_nodes writers (reader ∷ [])

module _ (schemas writers : List (List Node)) (reader : List Node) (e : schemas ≡ writers ++ (reader ∷ [])) where
  pub lines_of_all : (Lines : List (List Node) → List Node → List ℕ → ℕ → Type 0) (text : List ℕ) (status : ℕ) → Lines writers reader text status
      → SchemasOf Lines schemas text status
  lines_of_all Lines text status answer = record {
    none = λ h. absurd (never_none writers reader (sym e ∙ h));
    lines = λ ws r h.
        let same = same_ends writers ws reader r (sym e ∙ h) in
        subst (λ x. Lines ws x text status) same.1 (subst (λ x. Lines x reader text status) same.0 answer);
  }

  pub status_of_all : (limits : JudgeLimitValues) (status : ℕ) → LinesStatus writers reader limits status → SchemasStatus schemas limits status
  status_of_all limits status answer = record {
    none = λ h. absurd (never_none writers reader (sym e ∙ h));
    lines = λ ws r h.
        let same = same_ends writers ws reader r (sym e ∙ h) in
        subst (λ x. LinesStatus ws x limits status) same.1 (subst (λ x. LinesStatus x reader limits status) same.0 answer);
  }
