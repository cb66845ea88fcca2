-- The parts of a text, and where its last dot is.
use Rattle.std.proofs.Common.{◌≡◌, ◌≢◌, ℕ, zero, suc, ◌+◌, ◌-◌, ◌<◌, ◌≤◌, true, false, not, ◌&&◌, cond, List, [], ◌∷◌, ◌++◌, length, get_or, take, drop, Some, None, ◌⊎◌, ⊎_elim, inl, inr, ◌==◌, refl, sym, ◌∙◌, ap, subst, arith, ne_eqb, eq-eqb, take-append-drop, length-drop, get_or-drop}
use Rattle.std.specs.Str.{NoCharPasses}
use Rattle.std.specs.Str.Pattern.{RFindsChar}
use Rattle.std.proofs.lemmas.Str.{len_utf8_ascii}
use Rattle.std.proofs.lemmas.Str.Pattern.{NoCharPasses-char, drop_at_char}
use Rattle.std.specs.List.{list_all, before_last, after_last}
use Rattle.std.proofs.lemmas.Bool.{cond-true, cond-false, or_parts, or_from, and_parts, and_from, not_from_true, not_from_false, cases_eq, cases_Bool}
use Rattle.std.proofs.lemmas.List.{drop_more}
use Rattle.std.proofs.lemmas.List.Folds.{list_all-append, list_any_at}
use Rattle.std.proofs.lemmas.List.Sums.{suffix_len_is}
use Rattle.avro_name.proofs.public.Names.{parts_at}
use Rattle.avro_name.specs.Name.{Name, is_simple_name, onto_first, dotted_parts, is_dotted_name, is_namespace, is_primitive_word, is_full_name, has_dot, split_name, name_of}

-- a text without a dot is one part
parts_alone : (text : List ℕ) → has_dot text ≡ false → dotted_parts text ≡ text ∷ []
parts_alone [] h = refl
parts_alone (c ∷ cs) h =
    let both = or_parts (c == 46) (has_dot cs) h in
    cond-false (c == 46) ([] ∷ dotted_parts cs) (onto_first c (dotted_parts cs)) both.0 ∙ ap (onto_first c) (parts_alone cs both.1)

-- a text that is nowhere a dot
pub no_dot : (text : List ℕ) → ((i : ℕ) → i < length text → get_or text i 0 ≢ 46) → has_dot text ≡ false
no_dot [] h = refl
no_dot (c ∷ cs) h = or_from (c == 46) (has_dot cs) (ne_eqb c 46 (h zero (omega arith))) (no_dot cs (λ i l. h (suc i) (omega arith)))

-- simple names joined by dots are a namespace
dotted_namespace : (text : List ℕ) → is_dotted_name text ≡ true → is_namespace text ≡ true
dotted_namespace [] h = refl
dotted_namespace (c ∷ cs) h = h

-- a dot, and none after it
pub record IsLastDot (text : List ℕ) (i : ℕ) : Type 0 where
  pub within : i < length text
  pub here : get_or text i 0 ≡ 46
  pub after : (k : ℕ) → i < k → k < length text → get_or text k 0 ≢ 46

-- a text without a dot is the simple part
pub split_alone : (text enclosing : List ℕ) → has_dot text ≡ false → split_name text enclosing ≡ record { namespace = enclosing; simple = text }
split_alone text enclosing h = cond-false (has_dot text) _ _ h

-- and is a simple name where it is simple names joined by dots
pub good_alone : (text enclosing : List ℕ) → has_dot text ≡ false → is_dotted_name text ≡ true → is_namespace enclosing ≡ true
    → (is_namespace enclosing && is_simple_name text) ≡ true
good_alone text enclosing none dotted good =
    let parts : (is_simple_name text && true) ≡ true = ap (list_all is_simple_name) (sym (parts_alone text none)) ∙ dotted in
    and_from (is_namespace enclosing) (is_simple_name text) good (and_parts (is_simple_name text) true parts).0

-- a text with a dot is cut at the last one
pub split_last : (text enclosing : List ℕ) (i : ℕ) → IsLastDot text i → split_name text enclosing ≡ record { namespace = take i text; simple = drop (i + 1) text }
split_last text enclosing i last =
    let within = last.within in
    let tail = suffix_len_is (λ c. not (c == 46)) text (i + 1) 0 (omega arith)
    (λ k above below. not_from_false _ (ne_eqb _ 46 (last.after k (omega arith) below)))
    (λ _. let place : i ≡ i + 1 - 1 = omega arith in not_from_true _ (eq-eqb _ 46 (ap (λ k. get_or text k 0) (sym place) ∙ last.here))) in
    let front : before_last (λ c. c == 46) text ≡ take i text = ap (λ k. take k text) (omega arith) in
    let back : after_last (λ c. c == 46) text ≡ drop (i + 1) text = ap (λ k. drop k text) (omega arith) in
    let some : has_dot text ≡ true = list_any_at (λ c. c == 46) text i 0 within (eq-eqb _ 46 last.here) in
    let parts : List ℕ → List ℕ → Name = λ namespace simple. record { namespace = namespace; simple = simple } in
    cond-true (has_dot text) _ _ some ∙ ap (λ namespace. parts namespace (after_last (λ c. c == 46) text)) front ∙ ap (parts (take i text)) back

-- and then has a namespace before it and a simple name after it, where it is simple names joined by dots
pub good_last : (text : List ℕ) (i : ℕ) → IsLastDot text i → is_dotted_name text ≡ true → (is_namespace (take i text) && is_simple_name (drop (i + 1) text)) ≡ true
good_last text i last dotted =
    let within = last.within in
    let cut : text ≡ take i text ++ 46 ∷ drop (i + 1) text =
    sym (take-append-drop i text) ∙ ap (λ l. take i text ++ l) (drop_more text i 0 within ∙ ap (λ c. c ∷ drop (i + 1) text) last.here) in
    let alone = parts_alone (drop (i + 1) text)
    (no_dot (drop (i + 1) text) (λ k l e. last.after (i + 1 + k) (omega arith) (omega (arith, length-drop (i + 1) text)) (sym (get_or-drop (i + 1) text k 0) ∙ e))) in
    let parts : dotted_parts text ≡ dotted_parts (take i text) ++ drop (i + 1) text ∷ [] =
    ap dotted_parts cut ∙ parts_at (take i text) (drop (i + 1) text) ∙ ap (λ l. dotted_parts (take i text) ++ l) alone in
    let both : (is_dotted_name (take i text) && (is_simple_name (drop (i + 1) text) && true)) ≡ true =
    sym (list_all-append is_simple_name (dotted_parts (take i text)) (drop (i + 1) text ∷ [])) ∙ ap (list_all is_simple_name) (sym parts) ∙ dotted in
    let halves = and_parts (is_dotted_name (take i text)) (is_simple_name (drop (i + 1) text) && true) both in
    and_from (is_namespace (take i text)) (is_simple_name (drop (i + 1) text)) (dotted_namespace (take i text) halves.0) (and_parts (is_simple_name (drop (i + 1) text)) true halves.1).0

-- the last dot, as the search from the end finds it
pub found_last : (text : List ℕ) (i j : ℕ) → RFindsChar 46 text (Some (i, j)) → IsLastDot text i × (j ≡ i + 1)
found_last text i j found =
    let ends : j ≡ i + 1 = found.1.ends ∙ ap (λ n. i + n) (len_utf8_ascii 46 (omega arith)) in
    let cut = ap length (drop_at_char 46 text i j found.1 (omega arith)) in (
      record {
        within = omega (arith, cut, length-drop i text);
        here = found.1.byte (omega arith);
        after = λ k above below e.
            NoCharPasses-char 46 (drop j text) (k - j) found.0 (omega arith) (omega (arith, length-drop j text))
            (get_or-drop j text (k - j) 0 ∙ ap (λ n. get_or text n 0) (omega arith) ∙ e);
      },
      ends,
    )

-- no dot, as the search from the end finds none
pub found_none : (text : List ℕ) → NoCharPasses (λ c. c == 46) text → has_dot text ≡ false
found_none text none = no_dot text (λ i within. NoCharPasses-char 46 text i none (omega arith) within)

-- among the first characters a dot is last, or there is none
last_below : (text : List ℕ) (n : ℕ) → n ≤ length text
    → ((i : ℕ) → i < n → get_or text i 0 ≢ 46) ⊎ ((i : ℕ) × (i < n) × (get_or text i 0 ≡ 46) × ((k : ℕ) → i < k → k < n → get_or text k 0 ≢ 46))
last_below text zero within = inl (λ i l. absurd (omega arith))
last_below text (suc n) within =
    ⊎_elim
    (λ dot. inr (n, omega arith, dot, λ k above below. absurd (omega arith)))
    (λ other.
    ⊎_elim
    (λ none. inl (λ i l. ⊎_elim (λ here e. other (ap (λ j. get_or text j 0) (sym here) ∙ e)) (λ apart. none i (omega arith)) (cases_eq i n)))
    (λ some. inr (some.0, omega arith, some.2, λ k above l. ⊎_elim (λ here e. other (ap (λ j. get_or text j 0) (sym here) ∙ e)) (λ apart. some.3 k above (omega arith)) (cases_eq k n)))
    (last_below text n (omega arith)))
    (cases_eq (get_or text n 0) 46)

-- the parts of a text of simple names joined by dots are a namespace and a simple name
good_split : (text enclosing : List ℕ) → is_dotted_name text ≡ true → is_namespace enclosing ≡ true
    → (is_namespace (split_name text enclosing).namespace && is_simple_name (split_name text enclosing).simple) ≡ true
good_split text enclosing dotted good =
    let AreGood : Name → Type 0 = λ name. (is_namespace name.namespace && is_simple_name name.simple) ≡ true in
    ⊎_elim
    (λ none. let alone = no_dot text none in subst AreGood (sym (split_alone text enclosing alone)) (good_alone text enclosing alone dotted good))
    (λ some.
    let last : IsLastDot text some.0 = record { within = some.1; here = some.2; after = some.3 } in
    subst AreGood (sym (split_last text enclosing some.0 last)) (good_last text some.0 last dotted))
    (last_below text (length text) (omega arith))

-- equal names that are there are equal
Some_same : {a b : Name} → Some a ≡ Some b → a ≡ b
Some_same e = cc

-- what a text means in a namespace is a fullname
pub name_is_full_lem : (text enclosing : List ℕ) (name : Name) → is_namespace enclosing ≡ true → name_of text enclosing ≡ Some name → is_full_name name ≡ true
name_is_full_lem text enclosing name good named =
    let split = split_name text enclosing in
    ⊎_elim
    (λ yes.
    let both = and_parts (is_dotted_name text) (not (is_primitive_word split.simple)) yes in
    let same : split ≡ name = Some_same (sym (cond-true _ (Some split) None yes) ∙ named) in
    subst (λ (n : Name). is_full_name n ≡ true) same
    (and_from (is_namespace split.namespace && is_simple_name split.simple) (not (is_primitive_word split.simple)) (good_split text enclosing both.0 good) both.1))
    (λ no. let none : None ≡ Some name = sym (cond-false _ (Some split) None no) ∙ named in absurd (cc))
    (cases_Bool (is_dotted_name text && not (is_primitive_word split.simple)))
