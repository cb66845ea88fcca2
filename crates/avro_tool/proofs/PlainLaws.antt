-- What a parse makes of plain words.
use Rattle.std.proofs.Common.{◌≡◌, ◌∙◌, ℕ, Bool, true, false, ◌&&◌, List, [], ◌∷◌, Option, Some, refl, ap, option_map}
use Rattle.clap.specs.Simple.{Shape, built_leaf, inherited, marked_built, subcommand_of, with_leaf_noted}
use Rattle.clap.specs.Takes.{level_passes, takes}
use Rattle.clap.specs.Walk.{Held, Row, finished, nothing_held, rows_after}
use Rattle.clap.proofs.OnLiterals.{clap_on_literals}
use Rattle.avro_tool.specs.PlainWords.{HaveNoOption, PlainWords, files_of, name_of}
use Rattle.avro_tool.specs.inside.Grammar.{app_with, command_app}
use Rattle.avro_tool.specs.inside.PlainFound.{IsEntered, found_in, read_of}
use Rattle.avro_tool.proofs.PlainWalk.{Reaches, end_after, ends, level_plain, walk_plain}

-- the command, as it is built below the program
abbrev leaf : PlainWords → Shape
leaf plain = built_leaf (inherited (with_leaf_noted (marked_built (app_with (command_app plain)).top)) (command_app plain).top)

enters : (plain : PlainWords) → subcommand_of (app_with (command_app plain)) (name_of plain ∷ files_of plain)
    ≡ Some (name_of plain, rows_after (leaf plain).rules [] (files_of plain))
unfolding clap_on_literals
enters (PlainWords.judge a b) = refl
enters (PlainWords.explain a b) = refl
enters (PlainWords.confirm a b c) = refl
enters (PlainWords.check a) = refl
enters (PlainWords.show a) = refl
enters (PlainWords.header a) = refl
enters (PlainWords.read a b) = refl
enters (PlainWords.copy a b) = refl

reaches : (plain : PlainWords) → Reaches (leaf plain) nothing_held 1 (files_of plain)
unfolding clap_on_literals
reaches (PlainWords.judge a b) = (refl, refl, (tt, refl, tt))
reaches (PlainWords.explain a b) = (refl, refl, (tt, refl, tt))
reaches (PlainWords.confirm a b c) = (refl, refl, (refl, refl, (tt, refl, tt)))
reaches (PlainWords.check a) = (tt, refl, tt)
reaches (PlainWords.show a) = (tt, refl, tt)
reaches (PlainWords.header a) = (tt, refl, tt)
reaches (PlainWords.read a b) = (refl, refl, (tt, refl, tt))
reaches (PlainWords.copy a b) = (refl, refl, (tt, refl, tt))

finds : (plain : PlainWords) → read_of plain (finished (leaf plain).rules (end_after (leaf plain) nothing_held 1 (files_of plain))) ≡ found_in plain
unfolding clap_on_literals
finds (PlainWords.judge a b) = refl
finds (PlainWords.explain a b) = refl
finds (PlainWords.confirm a b c) = refl
finds (PlainWords.check a) = refl
finds (PlainWords.show a) = refl
finds (PlainWords.header a) = refl
finds (PlainWords.read a b) = refl
finds (PlainWords.copy a b) = refl

ends_well : (plain : PlainWords) → ends (leaf plain) (end_after (leaf plain) nothing_held 1 (files_of plain)) ≡ true
unfolding clap_on_literals
ends_well (PlainWords.judge a b) = refl
ends_well (PlainWords.explain a b) = refl
ends_well (PlainWords.confirm a b c) = refl
ends_well (PlainWords.check a) = refl
ends_well (PlainWords.show a) = refl
ends_well (PlainWords.header a) = refl
ends_well (PlainWords.read a b) = refl
ends_well (PlainWords.copy a b) = refl

takes_level : (plain : PlainWords) → takes (app_with (command_app plain)) (name_of plain ∷ files_of plain)
    ≡ (level_passes (leaf plain) [] nothing_held (files_of plain) false && true)
unfolding clap_on_literals
takes_level (PlainWords.judge a b) = refl
takes_level (PlainWords.explain a b) = refl
takes_level (PlainWords.confirm a b c) = refl
takes_level (PlainWords.check a) = refl
takes_level (PlainWords.show a) = refl
takes_level (PlainWords.header a) = refl
takes_level (PlainWords.read a b) = refl
takes_level (PlainWords.copy a b) = refl

pub taken : (plain : PlainWords) → HaveNoOption (files_of plain) → takes (app_with (command_app plain)) (name_of plain ∷ files_of plain) ≡ true
taken plain free = takes_level plain ∙ ap (λ (b : Bool). b && true) (level_plain (leaf plain) (files_of plain) free (reaches plain) (ends_well plain))

pub is_entered : (plain : PlainWords) → HaveNoOption (files_of plain) → IsEntered plain (subcommand_of (app_with (command_app plain)) (name_of plain ∷ files_of plain))
is_entered plain free =
    let read : Option (List ℕ × List Row) → Option (List ℕ × List (Option (List ℕ))) = option_map {U = List ℕ × List (Option (List ℕ))} (λ p. (p.0, read_of plain p.1)) in
    ap read (enters plain)
    ∙ ap (λ (h : Held). Some (name_of plain, read_of plain (finished (leaf plain).rules h))) (walk_plain (leaf plain) nothing_held 1 (files_of plain) free (reaches plain))
    ∙ ap (λ (xs : List (Option (List ℕ))). Some (name_of plain, xs)) (finds plain)
