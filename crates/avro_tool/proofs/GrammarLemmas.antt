-- What the builders of the grammar make of rows.
use Rattle.std.proofs.Common.{◌≡◌, ◌∙◌, ℕ, Bool, true, false, not, ◌&&◌, ◌||◌, List, [], ◌∷◌, map, fold, refl, sym, ap, ap₂, true≢false, is_some, ◌++◌, ne_eqb, suc, length, arith}
use Rattle.std.specs.List.{list_all}
use Rattle.clap.specs.Adds.{AddsConflicts}
use Rattle.std.specs.Borrow.{Bor}
use Rattle.clap.specs.Built.{AddsArg, AddsInTurn}
use Rattle.clap.specs.Simple.{App, app_of, new_rule, with_rule}
use Rattle.clap.specs.Walk.{Rule, is_empty, is_simple_arg, rule_of}
use Rattle.clap.specs.declared.builder.arg.Arg.{Arg}
use Rattle.clap.specs.declared.builder.command.Command.{Command}
use Rattle.clap.specs.declared.builder.command.Command.TheViews.{out-Command}
use Rattle.avro_tool.specs.declared.grammar.Choice.{Choice}
use Rattle.avro_tool.specs.declared.grammar.Takes.{Takes}
use Rattle.avro_tool.specs.inside.Grammar.{ArgumentWords, rule_in, rule_taking}

pub both : (a b : Bool) → (a && b) ≡ true → (a ≡ true) × (b ≡ true)
both true b h = (refl, h)
both false b h = (h, absurd (true≢false (sym h)))

not_true : (b : Bool) → not b ≡ true → b ≡ false
not_true true h = sym h
not_true false h = refl

-- a simple argument is not global
pub simple_local : (a : Arg) → is_simple_arg a ≡ true → a.global ≡ false
simple_local a h =
    let h1 = (both (is_empty a.overrides.items) _ h).1 in
    let h2 = (both (is_empty a.default_vals_ifs.items) _ h1).1 in
    let h3 = (both (is_empty a.groups.items) _ h2).1 in
    let h4 = (both (not (is_some a.val_delim)) _ h3).1 in
    let h5 = (both (not (is_some a.terminator)) _ h4).1 in
    let h6 = (both (not a.allow_hyphen_values) _ h5).1 in
    let h7 = (both (not a.allow_negative_numbers) _ h6).1 in
    let h8 = (both (not a.require_equals) _ h7).1 in
    not_true a.global (both (not a.last) (not a.global) h8).1

-- arguments that are added in turn bring their rules
pub added_rules : (old new : Command) (xs : List Arg) → AddsInTurn AddsArg old xs new → (out-Command old).has_globals ≡ false
    → list_all (λ (r : Rule). r.is_simple) (map rule_of xs) ≡ true
    → (app_of new ≡ fold with_rule (app_of old) (map rule_of xs)) × ((out-Command new).has_globals ≡ false)
added_rules old new [] h local simple = (ap app_of (sym h), ap (λ (c : Command). (out-Command c).has_globals) (sym h) ∙ local)
added_rules old new (x ∷ xs) h local simple =
    let two = both (is_simple_arg x) (list_all (λ (r : Rule). r.is_simple) (map rule_of xs)) simple in
    let stays : x.global ≡ false = simple_local x two.0 in
    let local2 : (out-Command h.0).has_globals ≡ false = h.1.globals ∙ ap₂ (λ (a b : Bool). a || b) local stays in
    let rest = added_rules h.0 new xs h.2 local2 two.1 in
    (rest.0 ∙ ap (λ (a : App). fold with_rule a (map rule_of xs)) (h.1.shape stays), rest.1)

taking_simple : (id : List ℕ) (takes : Takes) → (rule_taking (new_rule id) id takes).is_simple ≡ true
taking_simple id (Takes.Word name) = refl
taking_simple id (Takes.Words name) = refl
taking_simple id (Takes.Option name Choice.Any) = refl
taking_simple id (Takes.Option name (Choice.Or default)) = refl
taking_simple id (Takes.Option name (Choice.Among words default)) = refl
taking_simple id Takes.Nothing = refl

-- each argument of a row is simple
pub rows_simple : (xs : List ArgumentWords) → list_all (λ (r : Rule). r.is_simple) (map rule_in xs) ≡ true
rows_simple [] = refl
rows_simple (x ∷ xs) = ap₂ (λ (a b : Bool). a && b) (taking_simple x.0.now x.1) (rows_simple xs)

-- an argument with no rival is as its row takes it
pub unrivalled : (id : List ℕ) (takes : Takes) (b : Bool) → false ≡ b → rule_taking (new_rule id) id takes ≡ record (rule_taking (new_rule id) id takes) { is_free = not b }
unrivalled id takes b e = kept takes ∙ ap (λ (x : Bool). record (rule_taking (new_rule id) id takes) { is_free = not x }) e
  where
    kept : (t : Takes) → rule_taking (new_rule id) id t ≡ record (rule_taking (new_rule id) id t) { is_free = true }
    kept (Takes.Word name) = refl
    kept (Takes.Words name) = refl
    kept (Takes.Option name Choice.Any) = refl
    kept (Takes.Option name (Choice.Or default)) = refl
    kept (Takes.Option name (Choice.Among words default)) = refl
    kept Takes.Nothing = refl

some_items : {X : Type 0} (xs : List X) (x : X) → is_empty (xs ++ x ∷ []) ≡ false
some_items [] x = refl
some_items (y ∷ ys) x = ne_eqb (suc (length (ys ++ x ∷ []))) 0 (λ e. omega arith)

not_free : (e b t : Bool) → b ≡ false → (not e && (b && t)) ≡ false
not_free true b t h = refl
not_free false b t h = ap (λ (x : Bool). x && t) h

-- an argument with a rival is not free
pub rival_rule : (a r : Arg) (x : Bor (List ℕ)) → AddsConflicts a r (x ∷ []) → rule_of r ≡ record (rule_of a) { is_free = false }
rival_rule a r x h =
    let others : Bool = is_empty a.needs.items && (is_empty a.r_ifs.items && (is_empty a.r_ifs_all.items && (is_empty a.r_unless.items && is_empty a.r_unless_all.items))) in
    let free : Bool = not a.exclusive && (is_empty r.conflicts.items && others) in
    let is_rule : rule_of r ≡ record (rule_of a) { is_free = free } = ap rule_of h.0 in
    let some : is_empty r.conflicts.items ≡ false = ap is_empty h.1 ∙ some_items a.conflicts.items x in
    is_rule ∙ ap (λ (f : Bool). record (rule_of a) { is_free = f }) (not_free a.exclusive (is_empty r.conflicts.items) others some)
