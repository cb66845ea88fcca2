-- A name occurs at one node of a schema.
use Rattle.std.proofs.Common.{arith, ◌≡◌, ℕ, zero, suc, true, not, List, [], ◌∷◌, Option, Some, None, refl, sym, ◌∙◌, ap, map, filter_map, slice_get}
use Rattle.std.specs.List.{list_any}
use Rattle.std.proofs.lemmas.Bool.{and_parts, false≢true, not-true}
use Rattle.avro_name.specs.Name.{Name, same_name}
use Rattle.avro_name.proofs.public.Names.{same_name-self, same_name-is}
use Rattle.avro_schema.specs.Node.{Node, node_at, node_name}
use Rattle.avro_schema.specs.Distinct.{are_distinct}
use Rattle.avro_schema.specs.WellFormed.{is_schema}
use Rattle.avro_schema.proofs.public.GoodNodes.{names_apart}
use Rattle.avro_canonical.proofs.Words.{some-is, none_apart}
use Rattle.avro_canonical.proofs.NamesWritten.{names-seen, apart-at, named-at}

-- a name is that of one id
one_id : (name : Name) (os : List (Option Name)) (p q : ℕ) → are_distinct same_name (filter_map (λ o. o) os) ≡ true
    → slice_get os p ≡ Some (Some name) → slice_get os q ≡ Some (Some name) → p ≡ q
one_id name [] p q distinct here there = absurd (none_apart here)
one_id name (None ∷ os) zero q distinct here there = absurd (none_apart (some-is here))
one_id name (None ∷ os) (suc p) zero distinct here there = absurd (none_apart (some-is there))
one_id name (None ∷ os) (suc p) (suc q) distinct here there = ap suc (one_id name os p q distinct here there)
one_id name (Some first ∷ os) zero zero distinct here there = refl
one_id name (Some first ∷ os) zero (suc q) distinct here there =
    let none = not-true (list_any (same_name first) (filter_map (λ o. o) os)) (and_parts (not (list_any (same_name first) (filter_map (λ o. o) os))) (are_distinct same_name (filter_map (λ o. o) os)) distinct).0 in
    absurd (false≢true (sym (apart-at first os q name none there) ∙ ap (λ it. same_name it name) (some-is (some-is here)) ∙ same_name-self name))
one_id name (Some first ∷ os) (suc p) zero distinct here there =
    let none = not-true (list_any (same_name first) (filter_map (λ o. o) os)) (and_parts (not (list_any (same_name first) (filter_map (λ o. o) os))) (are_distinct same_name (filter_map (λ o. o) os)) distinct).0 in
    absurd (false≢true (sym (apart-at first os p name none here) ∙ ap (λ it. same_name it name) (some-is (some-is there)) ∙ same_name-self name))
one_id name (Some first ∷ os) (suc p) (suc q) distinct here there =
    ap suc (one_id name os p q (and_parts (not (list_any (same_name first) (filter_map (λ o. o) os))) (are_distinct same_name (filter_map (λ o. o) os)) distinct).1 here there)

distinct_in : (nodes : List Node) → is_schema nodes ≡ true → are_distinct same_name (filter_map (λ o. o) (map node_name nodes)) ≡ true
distinct_in nodes h = grind (arith, names-seen, names_apart)

pub one_named : (nodes : List Node) (p q : ℕ) (first second : Name) → is_schema nodes ≡ true → node_name (node_at nodes p) ≡ Some first → node_name (node_at nodes q) ≡ Some second
    → same_name first second ≡ true → node_at nodes p ≡ node_at nodes q
one_named nodes p q first second formed here there same =
    ap (node_at nodes) (one_id second (map node_name nodes) p q (distinct_in nodes formed)
    (named-at nodes p second (here ∙ ap (λ name. Some name) (same_name-is first second same))) (named-at nodes q second there))
