use Rattle.std.proofs.Common.{◌≡◌, ℕ, ◌+◌, List, [], refl, take, drop, true, sym, ap, ◌∙◌}
use Rattle.std.proofs.lemmas.Bool.{and_parts}
use Rattle.avro_name.specs.Name.{Name, is_namespace, is_simple_name}
use Rattle.avro_name.proofs.Dots.{found_last, found_none, split_last, good_last, split_alone, good_alone}
use Rattle.avro_name.proofs.full_name.split.Goals as goal

pub of_text-requires : goal.of_text-requires
of_text-requires c =
    let text = c.args.text.now in
    let at = c.in-Some.ensures.cases in
    let last = found_last text at.0 at.1 at.2 in
    ap is_namespace at.3 ∙ (and_parts (is_namespace (take at.0 text)) (is_simple_name (drop (at.0 + 1) text)) (good_last text at.0 last.0 c.requires)).0

pub returns-in_ok-of_text-in-Some-clause-parts : goal.returns-in_ok-of_text-in-Some-clause-parts
returns-in_ok-of_text-in-Some-clause-parts c =
    let text = c.args.text.now in
    let at = c.in-Some.ensures.cases in
    let last = found_last text at.0 at.1 at.2 in
    let cut = split_last text c.args.enclosing.now at.0 last.0 in
    let back : drop (at.0 + 1) text ≡ c.in-Some.simple.now = ap (λ n. drop n text) (sym last.1) ∙ sym at.4 in
    let front : take at.0 text ≡ c.in_ok-of_text-in-Some.field-0 = sym at.3 ∙ sym c.in_ok-of_text-in-Some.ensures.spelled in
    let parts : List ℕ → List ℕ → Name = λ namespace simple. record { namespace = namespace; simple = simple } in
    cut ∙ ap (λ namespace. parts namespace (drop (at.0 + 1) text)) front ∙ ap (parts c.in_ok-of_text-in-Some.field-0) back

pub returns-in_ok-of_text-in-Some-clause-good : goal.returns-in_ok-of_text-in-Some-clause-good
returns-in_ok-of_text-in-Some-clause-good c =
    let text = c.args.text.now in
    let at = c.in-Some.ensures.cases in
    let last = found_last text at.0 at.1 at.2 in
    let back : c.in-Some.simple.now ≡ drop (at.0 + 1) text = at.4 ∙ ap (λ n. drop n text) last.1 in
    ap is_simple_name back ∙ (and_parts (is_namespace (take at.0 text)) (is_simple_name (drop (at.0 + 1) text)) (good_last text at.0 last.0 c.requires)).1

pub returns-in_ok-clone-in-None-clause-parts : goal.returns-in_ok-clone-in-None-clause-parts
returns-in_ok-clone-in-None-clause-parts c =
    let parts : List ℕ → Name = λ namespace. record { namespace = namespace; simple = c.args.text.now } in
    split_alone c.args.text.now c.args.enclosing.now (found_none c.args.text.now c.in-None.ensures.cases)
    ∙ ap parts (sym c.in_ok-clone-in-None.ensures.cases)

pub returns-in_ok-clone-in-None-clause-good : goal.returns-in_ok-clone-in-None-clause-good
returns-in_ok-clone-in-None-clause-good c =
    let text = c.args.text.now in
    (and_parts (is_namespace []) (is_simple_name text) (good_alone text [] (found_none text c.in-None.ensures.cases) c.requires refl)).1
