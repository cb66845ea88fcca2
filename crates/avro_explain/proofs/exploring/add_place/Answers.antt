use Rattle.std.proofs.Common.{◌≡◌, ◌∙◌, ℕ, ◌&&◌, Bool, true, false, not, refl, ap, sym, rules, ◌==◌}
use Rattle.std.specs.List.{list_any}
use Rattle.avro_certificate.specs.Closed.{is_among_pairs}
use Rattle.avro_explain.specs.Places.{pair_of, pairs_of}
use Rattle.avro_explain.specs.inside.Walks.{key_of}
use Rattle.avro_explain.proofs.KnownPairs.{known_there, place_added, place_known}
use Rattle.avro_explain.proofs.exploring.add_place.Goals as goal

pub returns-in_ok-push-clause-places : goal.returns-in_ok-push-clause-places
returns-in_ok-push-clause-places c =
    let old = c.args.walk.now.places.items in
    let p = c.args.place in
    let eq : (ℕ × ℕ) → (ℕ × ℕ) → Bool = λ a b. a.0 == b.0 && a.1 == b.1 in
    let is : c.in_ok-insert.field-0 ≡ true = search rules in
    let own : c.in_ok-insert.field-0 ≡ not (is_among_pairs (pairs_of old) (pair_of p)) =
    c.in_ok-insert.ensures.added ∙ ap not (ap (list_any (eq (key_of p))) c.requires ∙ known_there eq (λ a b. refl) old p) in
    place_added old c.push.new.self.items p (sym is ∙ own) c.in_ok-push.ensures.items

pub returns-else-branch-clause-places : goal.returns-else-branch-clause-places
returns-else-branch-clause-places c =
    let old = c.args.walk.now.places.items in
    let p = c.args.place in
    let eq : (ℕ × ℕ) → (ℕ × ℕ) → Bool = λ a b. a.0 == b.0 && a.1 == b.1 in
    let is : c.in_ok-insert.field-0 ≡ false = search rules in
    let own : c.in_ok-insert.field-0 ≡ not (is_among_pairs (pairs_of old) (pair_of p)) =
    c.in_ok-insert.ensures.added ∙ ap not (ap (list_any (eq (key_of p))) c.requires ∙ known_there eq (λ a b. refl) old p) in
    place_known old p (sym is ∙ own)
