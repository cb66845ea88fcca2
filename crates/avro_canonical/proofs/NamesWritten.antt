-- The marks of nodes whose names are written.
use Rattle.std.proofs.Common.{arith, subst, ◌≡◌, ℕ, zero, suc, List, [], ◌∷◌, refl, ap, ◌∙◌, sym, true, false, not, Some, None, Option, map, filter_map, length, replicate, slice_set, slice_get, option_map, unwrap_or}
use Rattle.std.proofs.lemmas.Bool.{and_parts, or_parts, not-true}
use Rattle.std.proofs.lemmas.Option.{slice_get-map, none-some}
use Rattle.std.proofs.lemmas.List.{length-map}
use Rattle.std.specs.List.{list_any}
use Rattle.avro_name.specs.Name.{Name, same_name}
use Rattle.avro_name.proofs.public.Names.{same_name-self, same_name-sym}
use Rattle.avro_schema.specs.Node.{Node, node_name, node_at}
use Rattle.avro_schema.specs.Distinct.{are_distinct}
use Rattle.avro_canonical.specs.Canonical.{is_among}
use Rattle.avro_canonical.specs.inside.Pending.{is_name_written, is_written, marks_of}
use Rattle.avro_canonical.proofs.Words.{some-is}

named_or : (name : Name) (written : List Name) (other : Name) → same_name name other ≡ false → is_among other (name ∷ written) ≡ is_among other written
named_or name written other apart = rw (same_name-sym other name, apart) refl

pub names-seen : (ns : List Node) → filter_map node_name ns ≡ filter_map (λ o. o) (map node_name ns)
names-seen [] = refl
names-seen (n ∷ ns) = rw (names-seen ns) refl

pub marks-seen : (written : List Name) (ns : List Node) → marks_of written ns ≡ map (is_name_written written) (map node_name ns)
marks-seen written [] = refl
marks-seen written (n ∷ ns) = ap (λ marks. is_written written n ∷ marks) (marks-seen written ns)

none-yet : (os : List (Option Name)) → replicate (length os) false ≡ map (is_name_written []) os
none-yet [] = refl
none-yet (None ∷ os) = ap (λ marks. false ∷ marks) (none-yet os)
none-yet (_ ∷ os) = ap (λ marks. false ∷ marks) (none-yet os)

pub no_marks_yet : (nodes : List Node) → replicate (length nodes) false ≡ marks_of [] nodes
no_marks_yet nodes = rw (marks-seen [] nodes, ← none-yet (map node_name nodes), length-map nodes node_name) refl

no_none : {A : Type 0} {x : A} → Some x ≡ None → ⊥
no_none {x = x} e = none-some x (sym e)

found-name : (name : Name) (o : Option Node) → node_name (unwrap_or o Node.null) ≡ Some name → option_map node_name o ≡ Some (Some name)
found-name name o h = grind (arith, none-some)

-- a type is in the list
pub named-at : (nodes : List Node) (p : ℕ) (name : Name) → node_name (node_at nodes p) ≡ Some name → slice_get (map node_name nodes) p ≡ Some (Some name)
named-at nodes p name h = slice_get-map node_name nodes p ∙ found-name name (slice_get nodes p) h

-- a name that is none of some changes none of their marks
marks-apart : (name : Name) (written : List Name) (os : List (Option Name)) → list_any (same_name name) (filter_map (λ o. o) os) ≡ false
    → map (is_name_written written) os ≡ map (is_name_written (name ∷ written)) os
marks-apart name written [] apart = refl
marks-apart name written (None ∷ os) apart = ap (λ marks. false ∷ marks) (marks-apart name written os apart)
marks-apart name written (Some other ∷ os) apart =
    let both = or_parts (same_name name other) (list_any (same_name name) (filter_map (λ o. o) os)) apart in
    rw (named_or name written other both.0) (ap (λ marks. is_among other written ∷ marks) (marks-apart name written os both.1))

-- a name that is at an index is another than one that is apart from all
pub apart-at : (name : Name) (os : List (Option Name)) (p : ℕ) (other : Name) → list_any (same_name name) (filter_map (λ o. o) os) ≡ false
    → slice_get os p ≡ Some (Some other) → same_name name other ≡ false
apart-at name [] p other apart at = absurd (no_none (sym at))
apart-at name (None ∷ os) zero other apart at = absurd (no_none (some-is (sym at)))
apart-at name (Some first ∷ os) zero other apart at =
    subst (λ o. same_name name o ≡ false) (some-is (some-is at)) (or_parts (same_name name first) (list_any (same_name name) (filter_map (λ o. o) os)) apart).0
apart-at name (None ∷ os) (suc p) other apart at = apart-at name os p other apart at
apart-at name (Some first ∷ os) (suc p) other apart at =
    apart-at name os p other (or_parts (same_name name first) (list_any (same_name name) (filter_map (λ o. o) os)) apart).1 at

marked-at : (written : List Name) (name : Name) (os : List (Option Name)) (p : ℕ) → are_distinct same_name (filter_map (λ o. o) os) ≡ true
    → slice_get os p ≡ Some (Some name) → slice_set (map (is_name_written written) os) p true ≡ map (is_name_written (name ∷ written)) os
marked-at written name [] p distinct at = absurd (no_none (sym at))
marked-at written name (None ∷ os) zero distinct at = absurd (no_none (some-is (sym at)))
marked-at written name (Some first ∷ os) zero distinct at =
    let none = not-true (list_any (same_name first) (filter_map (λ o. o) os)) (and_parts (not (list_any (same_name first) (filter_map (λ o. o) os))) (are_distinct same_name (filter_map (λ o. o) os)) distinct).0 in
    let is : first ≡ name = some-is (some-is at) in
    subst (λ it. true ∷ map (is_name_written written) os ≡ map (is_name_written (it ∷ written)) (Some first ∷ os)) is
    (rw (same_name-self first) (ap (λ marks. true ∷ marks) (marks-apart first written os none)))
marked-at written name (None ∷ os) (suc p) distinct at = ap (λ marks. false ∷ marks) (marked-at written name os p distinct at)
marked-at written name (Some first ∷ os) (suc p) distinct at =
    let parts = and_parts (not (list_any (same_name first) (filter_map (λ o. o) os))) (are_distinct same_name (filter_map (λ o. o) os)) distinct in
    let none = not-true (list_any (same_name first) (filter_map (λ o. o) os)) parts.0 in
    let other : same_name name first ≡ false = same_name-sym name first ∙ apart-at first os p name none at in
    rw (named_or name written first other) (ap (λ marks. is_among first written ∷ marks) (marked-at written name os p parts.1 at))

-- marking a type's node is writing its name
pub marked : (written : List Name) (name : Name) (nodes : List Node) (p : ℕ) → are_distinct same_name (filter_map node_name nodes) ≡ true
    → slice_get (map node_name nodes) p ≡ Some (Some name) → slice_set (marks_of written nodes) p true ≡ marks_of (name ∷ written) nodes
marked written name nodes p distinct at =
    rw (marks-seen written nodes, marks-seen (name ∷ written) nodes)
    (marked-at written name (map node_name nodes) p (subst (λ names. are_distinct same_name names ≡ true) (names-seen nodes) distinct) at)
