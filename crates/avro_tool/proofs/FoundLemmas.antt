-- What is read of a command's rows is what its getters answer.
use Rattle.std.proofs.Common.{◌≡◌, ◌≢◌, ◌∙◌, ℕ, List, ◌∷◌, Option, Some, None, Result, Ok, Err, refl, sym, ap, ap₂, arith, codes, [], drop, get_or, map, option_map, ◌<◌, ◌^◌, Box, IsSomeAnd, IsErrAnd, IfOk, IfErr, subst, true}
use Rattle.std.proofs.lemmas.Option.{none-some}
use Rattle.std.specs.Option.{option_map_or}
use Rattle.std.specs.Box.{box_value}
use Rattle.std.specs.Borrow.{Bor}
use Rattle.std.specs.Str.Parse.{IsNumeral, ParsesUnsigned, digits_value, without_leading_plus}
use Rattle.clap.specs.Matches.{ReadsOne, found_of, subcommand_name_of}
use Rattle.clap.specs.Simple.{App, HasMatchesOf, is_simple, subcommand_of, subcommand_rows, subcommand_rows_of}
use Rattle.clap.specs.Takes.{takes}
use Rattle.clap.specs.Walk.{Row, all_of, rows_of}
use Rattle.clap.specs.declared.parser.matches.Found.{Found}
use Rattle.clap.specs.declared.parser.matches.ArgMatches.{ArgMatches}
use Rattle.clap.specs.declared.parser.matches.ArgMatches.TheViews.{out-ArgMatches, out-SubCommand}
use Rattle.clap.specs.declared.parser.matches.SubCommand.{SubCommand}
use Rattle.clap.proofs.WalkLemmas.{first_value-rows, one_text-rows, raw_values-rows}
use Rattle.avro_tool.proofs.GrammarLemmas.{both}
use Rattle.avro_tool.proofs.PlainLaws.{is_entered, taken}
use Rattle.avro_tool.specs.PlainWords.{AreApart, HaveNoOption, PlainWords, files_of, name_of}
use Rattle.avro_tool.specs.declared.failure.Failure.{Failure}
use Rattle.avro_tool.specs.declared.request.Request.{Request}
use Rattle.avro_tool.specs.inside.Grammar.{app_with, command_app}
use Rattle.avro_tool.specs.declared.number_options.NumberOption.{NumberOption}
use Rattle.avro_tool.specs.inside.PlainFound.{FindsCheck, FindsConfirm, FindsCopy, FindsExplain, FindsHeader, FindsJudge, FindsRead, FindsShow, GivesOk, GivesOrMemory, IsEntered, default_digits, default_number, found_in, read_of}

abbrev or_else : {X : Type 0} → X → Option X → X
or_else x None = x
or_else x (Some y) = y

-- the item at a place of what is read
at : {xs ys : List (Option (List ℕ))} → (k : ℕ) → xs ≡ ys → get_or xs k None ≡ get_or ys k None
at k e = ap (λ (xs : List (Option (List ℕ))). get_or xs k None) e

pub finds_judge : (a b : List ℕ) (f : Found) → read_of (PlainWords.judge a b) (rows_of f) ≡ found_in (PlainWords.judge a b) → FindsJudge a b f
finds_judge a b f e = record {
  writer_is = first_value-rows f (codes "writer") ∙ at 0 e;
  reader_is = first_value-rows f (codes "reader") ∙ at 1 e;
  certificate = first_value-rows f (codes "certificate") ∙ at 2 e;
  refutation = first_value-rows f (codes "refutation") ∙ at 3 e;
  limits = record {
    pairs = one_text-rows f (codes "max-pairs") ∙ at 4 e;
    size = one_text-rows f (codes "max-size") ∙ at 5 e;
    depth = one_text-rows f (codes "max-depth") ∙ at 6 e;
  };
  json = one_text-rows f (codes "json") ∙ at 7 e;
}

pub finds_explain : (a b : List ℕ) (f : Found) → read_of (PlainWords.explain a b) (rows_of f) ≡ found_in (PlainWords.explain a b) → FindsExplain a b f
finds_explain a b f e = record {
  writer_is = first_value-rows f (codes "writer") ∙ at 0 e;
  reader_is = first_value-rows f (codes "reader") ∙ at 1 e;
  pairs = one_text-rows f (codes "max-pairs") ∙ at 2 e;
  json = one_text-rows f (codes "json") ∙ at 3 e;
}

pub finds_confirm : (a b c : List ℕ) (f : Found) → read_of (PlainWords.confirm a b c) (rows_of f) ≡ found_in (PlainWords.confirm a b c) → FindsConfirm a b c f
finds_confirm a b c f e = record {
  writer_is = first_value-rows f (codes "writer") ∙ at 0 e;
  reader_is = first_value-rows f (codes "reader") ∙ at 1 e;
  certificate_is = first_value-rows f (codes "certificate") ∙ at 2 e;
  json = one_text-rows f (codes "json") ∙ at 3 e;
}

-- one text is found
one_found : (o : Option (List (List ℕ))) (a : List ℕ) → option_map_or (map Some) o [] ≡ Some a ∷ [] → o ≡ Some (a ∷ [])
one_found None a e = absurd (cc)
one_found (Some []) a e = absurd (cc)
one_found (Some (x ∷ [])) a e = ap (λ (xs : List (Option (List ℕ))). Some (get_or (map (or_else []) xs) 0 [] ∷ [])) e
one_found (Some (x ∷ y ∷ rest)) a e = absurd (cc)

pub finds_check : (a : List ℕ) (f : Found) → read_of (PlainWords.check a) (rows_of f) ≡ found_in (PlainWords.check a) → FindsCheck a f
finds_check a f e = record {
  files_are = raw_values-rows f (codes "files") ∙ one_found (all_of (codes "files") (rows_of f)) a (ap (drop 2) e);
  json = one_text-rows f (codes "json") ∙ at 0 e;
  progress = one_text-rows f (codes "progress") ∙ at 1 e;
}

pub finds_show : (a : List ℕ) (f : Found) → read_of (PlainWords.show a) (rows_of f) ≡ found_in (PlainWords.show a) → FindsShow a f
finds_show a f e = record {
  file_is = first_value-rows f (codes "file") ∙ at 0 e;
  reader = first_value-rows f (codes "reader") ∙ at 1 e;
  limit = first_value-rows f (codes "limit") ∙ at 2 e;
}

pub finds_header : (a : List ℕ) (f : Found) → read_of (PlainWords.header a) (rows_of f) ≡ found_in (PlainWords.header a) → FindsHeader a f
finds_header a f e = record {
  file_is = first_value-rows f (codes "file") ∙ at 0 e;
  metadata = one_text-rows f (codes "metadata") ∙ at 1 e;
}

pub finds_read : (a b : List ℕ) (f : Found) → read_of (PlainWords.read a b) (rows_of f) ≡ found_in (PlainWords.read a b) → FindsRead a b f
finds_read a b f e = record {
  writer_is = first_value-rows f (codes "writer") ∙ at 0 e;
  data_is = first_value-rows f (codes "data") ∙ at 1 e;
  reader = first_value-rows f (codes "reader") ∙ at 2 e;
  skip = first_value-rows f (codes "skip") ∙ at 3 e;
  json = one_text-rows f (codes "json") ∙ at 4 e;
}

pub finds_copy : (a b : List ℕ) (f : Found) → a ≢ b → read_of (PlainWords.copy a b) (rows_of f) ≡ found_in (PlainWords.copy a b) → FindsCopy a b f
finds_copy a b f apart e = record {
  apart = apart;
  input_is = first_value-rows f (codes "input") ∙ at 0 e;
  output_is = first_value-rows f (codes "output") ∙ at 1 e;
  reader = first_value-rows f (codes "reader") ∙ at 2 e;
  sync = first_value-rows f (codes "sync") ∙ at 3 e;
  progress = one_text-rows f (codes "progress") ∙ at 4 e;
}

pub some_same : {X : Type 0} (x y : X) → Some x ≡ Some y → x ≡ y
some_same x y h = ap (or_else x) h

-- the command that was entered, by its name and its rows
pub entered_rows : {Z : Type 0} (s : Option (Box SubCommand Z)) (r : Option (Bor (List ℕ) × Bor ArgMatches))
    → option_map (λ p. p.0.now) r ≡ option_map (λ b. (out-SubCommand (box_value b)).name.now) s
    → option_map (λ p. rows_of (found_of p.1.now)) r ≡ option_map (λ p. p.1) (subcommand_rows s)
    → option_map {U = List ℕ × List Row} (λ p. (p.0.now, rows_of (found_of p.1.now))) r ≡ subcommand_rows s
entered_rows None None e rows = refl
entered_rows None (Some p) e rows = absurd (none-some _ (sym e))
entered_rows (Some b) None e rows = absurd (none-some _ e)
entered_rows (Some b) (Some p) e rows = ap₂ (λ (n : List ℕ) (x : List Row). Some (n, x)) (some_same _ _ e) (some_same _ _ rows)

-- the command that was entered has the name and the rows of plain words
pub entered_named : (plain : PlainWords) (m : ArgMatches) (r : Option (Bor (List ℕ) × Bor ArgMatches))
    → option_map (λ p. p.0.now) r ≡ subcommand_name_of m
    → option_map (λ p. rows_of (found_of p.1.now)) r ≡ option_map (λ p. p.1) (subcommand_rows (out-ArgMatches m).subcommand)
    → IsEntered plain (subcommand_rows_of m)
    → IsSomeAnd r (λ p. (p.0.now ≡ name_of plain) × (read_of plain (rows_of (found_of p.1.now)) ≡ found_in plain))
entered_named plain m r name rows entered = go r (subst (IsEntered plain) (sym (entered_rows (out-ArgMatches m).subcommand r name rows)) entered)
  where
    go : (o : Option (Bor (List ℕ) × Bor ArgMatches)) → IsEntered plain (option_map {U = List ℕ × List Row} (λ p. (p.0.now, rows_of (found_of p.1.now))) o)
        → IsSomeAnd o (λ p. (p.0.now ≡ name_of plain) × (read_of plain (rows_of (found_of p.1.now)) ≡ found_in plain))
    go None h = absurd (none-some _ h)
    go (Some p) h = let same = some_same _ _ h in (ap (λ q. q.0) same, ap (λ q. q.1) same)

ok_or_memory : (plain : PlainWords) (r : Result (Option Request) Failure) → GivesOk plain r → GivesOrMemory plain r
ok_or_memory plain (Ok x) h = (h, tt)
ok_or_memory plain (Err e) h = absurd h

-- a command gives the request of plain words, if it does so by its name and what its getters find
pub by_command : (result : Result (Option Request) Failure) (name : List ℕ) (f : Found)
    → (name ≡ codes "judge" → (a b : List ℕ) → FindsJudge a b f → GivesOk (PlainWords.judge a b) result)
    → (name ≡ codes "explain" → (a b : List ℕ) → FindsExplain a b f → GivesOk (PlainWords.explain a b) result)
    → (name ≡ codes "confirm" → (a b c : List ℕ) → FindsConfirm a b c f → GivesOk (PlainWords.confirm a b c) result)
    → (name ≡ codes "check" → (a : List ℕ) → FindsCheck a f → GivesOrMemory (PlainWords.check a) result)
    → (name ≡ codes "show" → (a : List ℕ) → FindsShow a f → GivesOk (PlainWords.show a) result)
    → (name ≡ codes "header" → (a : List ℕ) → FindsHeader a f → GivesOk (PlainWords.header a) result)
    → (name ≡ codes "read" → (a b : List ℕ) → FindsRead a b f → GivesOk (PlainWords.read a b) result)
    → (name ≡ codes "copy" → (a b : List ℕ) → FindsCopy a b f → GivesOk (PlainWords.copy a b) result)
    → (plain : PlainWords) → AreApart plain → name ≡ name_of plain → read_of plain (rows_of f) ≡ found_in plain → GivesOrMemory plain result
by_command result name f judge explain confirm check show header read copy (PlainWords.judge a b) apart n given = ok_or_memory (PlainWords.judge a b) result (judge n a b (finds_judge a b f given))
by_command result name f judge explain confirm check show header read copy (PlainWords.explain a b) apart n given = ok_or_memory (PlainWords.explain a b) result (explain n a b (finds_explain a b f given))
by_command result name f judge explain confirm check show header read copy (PlainWords.confirm a b c) apart n given = ok_or_memory (PlainWords.confirm a b c) result (confirm n a b c (finds_confirm a b c f given))
by_command result name f judge explain confirm check show header read copy (PlainWords.check a) apart n given = check n a (finds_check a f given)
by_command result name f judge explain confirm check show header read copy (PlainWords.show a) apart n given = ok_or_memory (PlainWords.show a) result (show n a (finds_show a f given))
by_command result name f judge explain confirm check show header read copy (PlainWords.header a) apart n given = ok_or_memory (PlainWords.header a) result (header n a (finds_header a f given))
by_command result name f judge explain confirm check show header read copy (PlainWords.read a b) apart n given = ok_or_memory (PlainWords.read a b) result (read n a b (finds_read a b f given))
by_command result name f judge explain confirm check show header read copy (PlainWords.copy a b) apart n given = ok_or_memory (PlainWords.copy a b) result (copy n a b (finds_copy a b f apart given))

-- a parse of plain words enters their command
pub parsed_entered : (plain : PlainWords) (app : App) (words : List (List ℕ)) (m : ArgMatches) → app ≡ app_with (command_app plain)
    → words ≡ name_of plain ∷ files_of plain → HaveNoOption (files_of plain) → HasMatchesOf app words m → IsEntered plain (subcommand_rows_of m)
parsed_entered plain app words m app_is words_are free has =
    let simple : is_simple app ≡ true = ap is_simple app_is ∙ (both _ _ (taken plain free)).0 in
    subst (IsEntered plain) (sym ((has simple).1 ∙ ap₂ subcommand_of app_is words_are)) (is_entered plain free)

-- and fails only for want of memory
pub parsed_taken : (plain : PlainWords) (app : App) (words : List (List ℕ)) → app ≡ app_with (command_app plain)
    → words ≡ name_of plain ∷ files_of plain → HaveNoOption (files_of plain) → takes app words ≡ true
parsed_taken plain app words app_is words_are free = ap₂ takes app_is words_are ∙ taken plain free

pub err_and_both : {T E : Type 0} (r : Result T E) (P : T → Type 0) (Q : E → Type 0) → IsErrAnd r Q → IfOk r P × IfErr r Q
err_and_both (Ok x) P Q h = absurd h
err_and_both (Err e) P Q h = (tt, h)

-- a numeral that fits is read
reads : {E : Type 0} (G : List ℕ → Result ℕ E → Type 0) (t : List ℕ) (n : ℕ) (r : Option ℕ) → ReadsOne G t r
    → ((x : Result ℕ E) → G t x → ParsesUnsigned 32 10 t x)
    → IsNumeral 10 (without_leading_plus t) → digits_value 10 (without_leading_plus t) ≡ n → n < 2 ^ 32 → r ≡ Some n
reads G t n (Some v) g parses numeral value fits = ap Some ((parses (Ok v) g).1 ∙ value)
reads G t n None g parses numeral value fits = absurd (parses (Err g.0) g.1 (numeral, rw value fits))

pub reads_default : {E : Type 0} (G : List ℕ → Result ℕ E → Type 0) (option : NumberOption) (r : Option ℕ) → ReadsOne G (default_digits option) r
    → ((t : List ℕ) (x : Result ℕ E) → G t x → ParsesUnsigned 32 10 t x) → r ≡ Some (default_number option)
reads_default G NumberOption.MaxPairs r g parses = reads G _ _ r g (parses _) (omega arith, (omega arith, (omega arith, (omega arith, (omega arith, (omega arith, (omega arith, (omega arith, tt)))))))) refl (omega arith)
reads_default G NumberOption.MaxSize r g parses = reads G _ _ r g (parses _) (omega arith, (omega arith, (omega arith, (omega arith, (omega arith, tt))))) refl (omega arith)
reads_default G NumberOption.MaxDepth r g parses = reads G _ _ r g (parses _) (omega arith, (omega arith, (omega arith, (omega arith, tt)))) refl (omega arith)
