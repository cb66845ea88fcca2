use Rattle.std.proofs.Common.{ℕ, List, ◌≡◌, ◌∙◌, subst}
use Rattle.std.specs.List.Sorted.{IsPermutation}
use Rattle.indexmap.specs.IndexSet.{keys}
use Rattle.avro_judge.proofs.SortedKeys.{moved_keys, moved_rise}
use Rattle.avro_judge.proofs.certifying.sorted_keys.Goals as goal

pub returns-clause-same : goal.returns-clause-same
returns-clause-same c =
    let copied : c.in_ok-numbers.numbers.items ≡ keys c.args.known.now = c.in_ok-numbers.ensures.items_if_clones_equal (λ x y h. h) ∙ c.as_slice.ensures.keys in
    moved_keys (keys c.args.known.now) c.sort_unstable.new.self.items
    (subst (λ (ks : List ℕ). IsPermutation ks c.sort_unstable.new.self.items) copied c.sort_unstable.ensures.permutation)

pub returns-clause-rising : goal.returns-clause-rising
returns-clause-rising c =
    let copied : c.in_ok-numbers.numbers.items ≡ keys c.args.known.now = c.in_ok-numbers.ensures.items_if_clones_equal (λ x y h. h) ∙ c.as_slice.ensures.keys in
    moved_rise (keys c.args.known.now) c.sort_unstable.new.self.items
    (subst (λ (ks : List ℕ). IsPermutation ks c.sort_unstable.new.self.items) copied c.sort_unstable.ensures.permutation)
    c.sort_unstable.ensures.sorted c.as_slice.ensures.unique
