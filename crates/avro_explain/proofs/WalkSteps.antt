-- What holds of the places when one more is added, and when all are that a place leads to.
use Rattle.std.proofs.Common.{◌≡◌, ℕ, zero, suc, ◌+◌, ◌<◌, ◌≤◌, ◌⊎◌, Bool, true, false, not, cond, ◌||◌, List, [], ◌∷◌, ◌++◌, Option, Some, None, map, length, take, inl, inr, refl, sym, ◌∙◌, ap, subst, append_assoc, arith, slice_get, option_map, nat_lt}
use Rattle.std.proofs.lemmas.Bool.{false≢true, true≢false, and_from, ltb-true, ltb-false, not_from_false}
use Rattle.std.proofs.lemmas.List.{append-nil, map-append, length-append, length-map}
use Rattle.std.proofs.lemmas.List.Folds.{list_any-append}
use Rattle.std.specs.List.{list_any}
use Rattle.avro_schema.specs.Distinct.{are_distinct}
use Rattle.avro_schema.specs.Node.{Node, node_at}
use Rattle.avro_compare.specs.Children.{Pair, children_of}
use Rattle.avro_certificate.specs.Closed.{same_pair, is_among, is_among_pairs}
use Rattle.avro_certificate.specs.Evidence.{IsReached, roots, child}
use Rattle.avro_certificate.proofs.public.Tests.{or_cases, or_from_left, same_pair-true, and_left, and_right, not_true, or_left, or_right}
use Rattle.avro_compare.specs.Leads.{leads_at, lead_pair}
use Rattle.avro_explain.specs.Places.{pair_of, pairs_of, came, round_of, AreReached, AreTooMany, IsFoundBy, findings_at, findings_from}
use Rattle.avro_explain.specs.Search.{roots_place, with_place, led_from, with_lead, with_leads, leads_of_place, places_after}
use Rattle.avro_explain.specs.inside.Walks.{IsWalk}
use Rattle.avro_explain.specs.declared.found.Finding.{Finding}
use Rattle.avro_compare.specs.declared.comparison.Lead.{Lead}
use Rattle.avro_explain.specs.declared.found.Place.{Place}
use Rattle.avro_compare.specs.declared.comparison.Step.{Step}
use Rattle.avro_compare.proofs.public.LeadPairs.{lead_children}
use Rattle.avro_explain.proofs.LeadPairs.{IsLead, later_lead, lead_among, same_itself}
use Rattle.avro_least.proofs.public.Keys.{some_same}
use Rattle.avro_compare.proofs.public.Lists.{get_last}
use Rattle.std.proofs.lemmas.Map.Keys.{any_passes_from_place}
use Rattle.std.proofs.lemmas.Option.{slice_get-map, slice_get_within}

pub one_more : (k : ℕ) → suc k ≡ k + 1
one_more k = omega arith

-- what stands at an index, of a list and one more

pub get_kept : {A : Type 0} (xs ys : List A) (k : ℕ) (x : A) → slice_get xs k ≡ Some x → slice_get (xs ++ ys) k ≡ Some x
get_kept [] ys k x h = absurd (grind arith)
get_kept (y ∷ xs) ys zero x h = h
get_kept (y ∷ xs) ys (suc k) x h = get_kept xs ys k x h

get_more : {A : Type 0} (xs : List A) (x y : A) (k : ℕ) → slice_get (xs ++ x ∷ []) k ≡ Some y → (slice_get xs k ≡ Some y) ⊎ ((k ≡ length xs) × (x ≡ y))
get_more [] x y zero h = inr (refl, cc)
get_more [] x y (suc k) h = absurd (grind arith)
get_more (z ∷ xs) x y zero h = inl h
get_more (z ∷ xs) x y (suc k) h = elim (get_more xs x y k h) [
  | inl before ↦ inl before
  | inr here ↦ inr (ap suc here.0, here.1)
]

pub get_there : {A : Type 0} (xs : List A) (k : ℕ) → k < length xs → (x : A) × (slice_get xs k ≡ Some x)
get_there [] k h = absurd (omega (arith, h))
get_there (x ∷ xs) zero h = (x, refl)
get_there (x ∷ xs) (suc k) h = get_there xs k (omega (arith, h))

-- the faults of the places up to one, and of that one
module _ (writer reader : List Node) where
  findings_next : (index : ℕ) (places rest : List Place) (k n : ℕ) (q : Place) → slice_get places k ≡ Some q → n ≡ index + k
      → findings_from writer reader index (take (suc k) (places ++ rest)) ≡ findings_from writer reader index (take k places) ++ findings_at writer reader n q
  findings_next index [] rest k n q h e = absurd (grind arith)
  findings_next index (p ∷ ps) rest zero n q h e =
      append-nil (findings_at writer reader index p) ∙ ap (λ (x : Place). findings_at writer reader index x) (some_same p q h)
      ∙ ap (λ (i : ℕ). findings_at writer reader i q) (start index n e)
    where
      start : (i m : ℕ) → m ≡ i + 0 → i ≡ m
      start i m f = omega (arith, f)
  findings_next index (p ∷ ps) rest (suc k) n q h e =
      ap (λ (fs : List Finding). findings_at writer reader index p ++ fs) (findings_next (suc index) ps rest k n q h (omega (arith, e)))
      ∙ sym (append_assoc (findings_at writer reader index p) (findings_from writer reader (suc index) (take k ps)) (findings_at writer reader n q))

  pub findings_more : (places new : List Place) (rest : List Place) (next : ℕ) (q : Place) (before after : List Finding) → new ≡ places ++ rest → slice_get places next ≡ Some q
      → before ≡ findings_from writer reader 0 (take next places) → after ≡ before ++ findings_at writer reader next q
      → after ≡ findings_from writer reader 0 (take (next + 1) new)
  findings_more places new rest next q before after is here b a =
      a ∙ ap (λ (fs : List Finding). fs ++ findings_at writer reader next q) b ∙ sym (findings_next 0 places rest next next q here (omega arith))
      ∙ ap (λ (k : ℕ). findings_from writer reader 0 (take k (places ++ rest))) (one_more next) ∙ ap (λ (ps : List Place). findings_from writer reader 0 (take (next + 1) ps)) (sym is)

-- pairs that stand once, with one that is not there
distinct_more : (ps : List Pair) (p : Pair) → are_distinct same_pair ps ≡ true → is_among_pairs ps p ≡ false → are_distinct same_pair (ps ++ p ∷ []) ≡ true
distinct_more [] p h none = refl
distinct_more (q ∷ qs) p h none =
    and_from (not (list_any (same_pair q) (qs ++ p ∷ []))) (are_distinct same_pair (qs ++ p ∷ []))
    (not_from_false (list_any (same_pair q) (qs ++ p ∷ [])) (list_any-append (same_pair q) qs (p ∷ []) ∙ both_false (list_any (same_pair q) qs) (same_pair q p)
    (not_true (list_any (same_pair q) qs) (and_left _ _ h)) (turned (same_pair q p) refl)))
    (distinct_more qs p (and_right (not (list_any (same_pair q) qs)) _ h) (or_right (same_pair p q) (is_among_pairs qs p) none))
  where
    both_false : (a b : Bool) → a ≡ false → b ≡ false → (a || (b || false)) ≡ false
    both_false true b e f = e
    both_false false true e f = f
    both_false false false e f = refl

    turned : (t : Bool) → same_pair q p ≡ t → same_pair q p ≡ false
    turned true e = absurd (true≢false (sym (subst (λ (x : Pair). same_pair p x ≡ true) (sym (same_pair-true q p e)) (same_itself p)) ∙ or_left (same_pair p q) (is_among_pairs qs p) none))
    turned false e = e

-- the place of a pair that is there
record IsThere (places : List Place) (c : Pair) : Type 0 where
  index : ℕ
  place : Place
  there : slice_get places index ≡ Some place
  is : pair_of place ≡ c

place_of : (places : List Place) (c : Pair) → is_among_pairs (pairs_of places) c ≡ true → IsThere places c
place_of [] c h = absurd (false≢true h)
place_of (p ∷ ps) c h = elim (or_cases (same_pair c (pair_of p)) (is_among_pairs (pairs_of ps) c) h) [
  | inl same ↦ record { index = 0; place = p; there = refl; is = sym (same_pair-true c (pair_of p) same) }
  | inr later ↦ let own = place_of ps c later in record { index = suc own.index; place = own.place; there = own.there; is = own.is }
]

pub pair_there : (places : List Place) (k : ℕ) (p : Place) → slice_get places k ≡ Some p → is_among_pairs (pairs_of places) (pair_of p) ≡ true
pair_there places k p h = any_passes_from_place (same_pair (pair_of p)) (pairs_of places) k (pair_of p)
    (slice_get-map pair_of places k ∙ ap (option_map pair_of) h) (same_itself (pair_of p))

found_there : (places : List Place) (rounds : ℕ) (c : Pair) → IsFoundBy places rounds c → is_among_pairs (pairs_of places) c ≡ true
found_there places rounds c own = subst (λ (x : Pair). is_among_pairs (pairs_of places) x ≡ true) own.is (pair_there places own.index own.place own.there)

found_kept : (places more : List Place) (rounds : ℕ) (c : Pair) → IsFoundBy places rounds c → IsFoundBy (places ++ more) rounds c
found_kept places more rounds c own =
    record { index = own.index; place = own.place; there = get_kept places more own.index own.place own.there; is = own.is; early = own.early }

module _ (writer reader : List Node) (dead : List ℕ) where
  -- a place that may be added
  record IsNext (places : List Place) (rounds : ℕ) (p : Place) : Type 0 where
    reached : IsReached writer reader dead (pair_of p)
    came_here : came writer reader places (length places) p p.from
    round : round_of p.from ≡ rounds

  came_more : (places more : List Place) (k : ℕ) (p : Place) (o : Option (ℕ × Step)) → came writer reader places k p o → came writer reader (places ++ more) k p o
  came_more places more k p None h = h
  came_more places more k p (Some from) h =
      record { before = h.before; place = h.place; there = get_kept places more from.0 h.place h.there; index = h.index; leads = h.leads }

  walk_more : (count rounds : ℕ) (places : List Place) (p : Place) → IsWalk writer reader dead count rounds places → IsNext places rounds p
      → is_among_pairs (pairs_of places) (pair_of p) ≡ false → IsWalk writer reader dead count rounds (places ++ p ∷ [])
  walk_more count rounds places p walk next none = record {
    root = λ live. found_kept places (p ∷ []) 0 _ (walk.root live);
    reached = λ k q got. elim (get_more places p q k got) [
      | inl before ↦ walk.reached k q before
      | inr here ↦ subst (λ (x : Place). IsReached writer reader dead (pair_of x)) here.1 next.reached
    ];
    once = subst (λ (ps : List Pair). are_distinct same_pair ps ≡ true) (sym (map-append pair_of places (p ∷ []))) (distinct_more (pairs_of places) (pair_of p) walk.once none);
    placed = λ k q got. elim (get_more places p q k got) [
      | inl before ↦ came_more places (p ∷ []) k q q.from (walk.placed k q before)
      | inr here ↦ came_more places (p ∷ []) k q q.from (subst (λ (x : Place). came writer reader places k x x.from) here.1
          (subst (λ (i : ℕ). came writer reader places i p p.from) (sym here.0) next.came_here))
    ];
    early = λ k q got. early_more k q (get_more places p q k got);
    breadth = λ j k a b at_j at_k le. ordered j k a b (get_more places p a j at_j) (get_more places p b k at_k) le;
    counted = omega (arith, walk.counted, length-append places (p ∷ []));
    followed = λ k q got within c among live. found_kept places (p ∷ []) (suc k) c (followed_more k q (get_more places p q k got) within c among live);
  }
    where
      early_more : (k : ℕ) (q : Place) → (slice_get places k ≡ Some q) ⊎ ((k ≡ length places) × (p ≡ q)) → round_of q.from ≤ rounds
      early_more k q (inl before) = walk.early k q before
      early_more k q (inr here) = subst (λ (x : Place). round_of x.from ≤ rounds) here.1 (omega (arith, next.round))

      ordered : (j k : ℕ) (a b : Place) → (slice_get places j ≡ Some a) ⊎ ((j ≡ length places) × (p ≡ a)) → (slice_get places k ≡ Some b) ⊎ ((k ≡ length places) × (p ≡ b))
          → j ≤ k → round_of a.from ≤ round_of b.from
      ordered j k a b (inl before) (inl here) le = walk.breadth j k a b before here le
      ordered j k a b at_j (inr here) le =
          let early = early_more j a at_j in
          subst (λ (x : Place). round_of a.from ≤ round_of x.from) here.1 (omega (arith, next.round, early))
      ordered j k a b (inr last) (inl before) le = absurd (omega (arith, last.0, le, slice_get_within places k b before))

      followed_more : (k : ℕ) (q : Place) → (slice_get places k ≡ Some q) ⊎ ((k ≡ length places) × (p ≡ q)) → k < count → (c : Pair)
          → is_among_pairs (children_of writer reader q.w.0 q.r.0 (node_at writer q.w.0) (node_at reader q.r.0)) c ≡ true → is_among dead c.w ≡ false
          → IsFoundBy places (suc k) c
      followed_more k q (inl before) within c among live = walk.followed k q before within c among live
      followed_more k q (inr here) within c among live = absurd (omega (arith, here.0, within, walk.counted))

  walk_place : (count rounds : ℕ) (places : List Place) (p : Place) → IsWalk writer reader dead count rounds places → IsNext places rounds p
      → IsWalk writer reader dead count rounds (with_place places p)
  walk_place count rounds places p walk next = decided (is_among_pairs (pairs_of places) (pair_of p)) refl
    where
      decided : (t : Bool) → is_among_pairs (pairs_of places) (pair_of p) ≡ t → IsWalk writer reader dead count rounds (cond t places (places ++ p ∷ []))
      decided true e = walk
      decided false e = walk_more count rounds places p walk next e

  -- the place that is gone through, and what it leads to
  module _ (at : ℕ) (q : Place) where
    abbrev leads_here : List Lead
    leads_here = leads_at writer reader q.w.0 q.r.0

    walk_lead : (places : List Place) (lead : Lead) → IsWalk writer reader dead at (suc at) places → slice_get places at ≡ Some q → IsLead leads_here lead
        → IsWalk writer reader dead at (suc at) (with_lead dead at places lead)
    walk_lead places lead walk here own = decided (is_among dead lead.w.0) refl
      where
        among : is_among_pairs (children_of writer reader q.w.0 q.r.0 (node_at writer q.w.0) (node_at reader q.r.0)) (lead_pair lead) ≡ true
        among = subst (λ (ps : List Pair). is_among_pairs ps (lead_pair lead) ≡ true)
            (lead_children writer reader q.w.0 q.r.0 (node_at writer q.w.0) (node_at reader q.r.0)) (lead_among leads_here own.index lead own.there)

        decided : (t : Bool) → is_among dead lead.w.0 ≡ t → IsWalk writer reader dead at (suc at) (cond t places (with_place places (led_from at lead)))
        decided true e = walk
        decided false e = walk_place at (suc at) places (led_from at lead) walk (record {
          reached = child (pair_of q) (lead_pair lead) (walk.reached at q here) among e;
          came_here = record { before = slice_get_within places at q here; place = q; there = here; index = own.index; leads = own.there };
          round = refl;
        })

    place_extended : (places : List Place) (p : Place) → (rest : List Place) × (with_place places p ≡ places ++ rest)
    place_extended places p = decided (is_among_pairs (pairs_of places) (pair_of p))
      where
        decided : (t : Bool) → (rest : List Place) × (cond t places (places ++ p ∷ []) ≡ places ++ rest)
        decided true = ([], sym (append-nil places))
        decided false = (p ∷ [], refl)

    lead_extended : (places : List Place) (lead : Lead) → (rest : List Place) × (with_lead dead at places lead ≡ places ++ rest)
    lead_extended places lead = decided (is_among dead lead.w.0)
      where
        decided : (t : Bool) → (rest : List Place) × (cond t places (with_place places (led_from at lead)) ≡ places ++ rest)
        decided true = ([], sym (append-nil places))
        decided false = place_extended places (led_from at lead)

    pub extended : (places : List Place) (leads : List Lead) → (rest : List Place) × (with_leads dead at places leads ≡ places ++ rest)
    extended places [] = ([], sym (append-nil places))
    extended places (lead ∷ leads) =
        let one = lead_extended places lead in
        let more = extended (with_lead dead at places lead) leads in
        (one.0 ++ more.0, more.1 ∙ ap (λ (ps : List Place). ps ++ more.0) one.1 ∙ append_assoc places one.0 more.0)

    still_here : (places : List Place) (lead : Lead) (k : ℕ) (p : Place) → slice_get places k ≡ Some p → slice_get (with_lead dead at places lead) k ≡ Some p
    still_here places lead k p h =
        let one = lead_extended places lead in
        subst (λ (ps : List Place). slice_get ps k ≡ Some p) (sym one.1) (get_kept places one.0 k p h)

    walk_leads : (places : List Place) (leads : List Lead) → ((lead : Lead) → IsLead leads lead → IsLead leads_here lead) → IsWalk writer reader dead at (suc at) places
        → slice_get places at ≡ Some q → IsWalk writer reader dead at (suc at) (with_leads dead at places leads)
    walk_leads places [] own walk here = walk
    walk_leads places (lead ∷ leads) own walk here =
        walk_leads (with_lead dead at places lead) leads (λ l there. own l (later_lead lead leads l there))
        (walk_lead places lead walk here (own lead (record { index = 0; there = refl }))) (still_here places lead at q here)

    pairs_kept : (places rest : List Place) (c : Pair) → is_among_pairs (pairs_of places) c ≡ true → is_among_pairs (pairs_of (places ++ rest)) c ≡ true
    pairs_kept places rest c h = subst (λ (ps : List Pair). is_among_pairs ps c ≡ true) (sym (map-append pair_of places rest))
        (list_any-append (same_pair c) (pairs_of places) (pairs_of rest) ∙ or_from_left (is_among_pairs (pairs_of places) c) (is_among_pairs (pairs_of rest) c) h)

    place_found : (places : List Place) (p : Place) → is_among_pairs (pairs_of (with_place places p)) (pair_of p) ≡ true
    place_found places p = decided (is_among_pairs (pairs_of places) (pair_of p)) refl
      where
        decided : (t : Bool) → is_among_pairs (pairs_of places) (pair_of p) ≡ t → is_among_pairs (pairs_of (cond t places (places ++ p ∷ []))) (pair_of p) ≡ true
        decided true e = e
        decided false e = pair_there (places ++ p ∷ []) (length places) p (get_last places p)

    lead_found : (places : List Place) (lead : Lead) → is_among dead lead.w.0 ≡ false → is_among_pairs (pairs_of (with_lead dead at places lead)) (lead_pair lead) ≡ true
    lead_found places lead live = subst (λ (t : Bool). is_among_pairs (pairs_of (cond t places (with_place places (led_from at lead)))) (lead_pair lead) ≡ true) (sym live)
        (place_found places (led_from at lead))

    -- each child that lives is found
    all_found : (places : List Place) (leads : List Lead) (c : Pair) → is_among_pairs (map lead_pair leads) c ≡ true → is_among dead c.w ≡ false
        → is_among_pairs (pairs_of (with_leads dead at places leads)) c ≡ true
    all_found places [] c among live = absurd (false≢true among)
    all_found places (lead ∷ leads) c among live = elim (or_cases (same_pair c (lead_pair lead)) (is_among_pairs (map lead_pair leads) c) among) [
      | inl same ↦
          let is : c ≡ lead_pair lead = same_pair-true c (lead_pair lead) same in
          let more = extended (with_lead dead at places lead) leads in
          subst (λ (ps : List Place). is_among_pairs (pairs_of ps) c ≡ true) (sym more.1)
          (pairs_kept (with_lead dead at places lead) more.0 c
          (subst (λ (x : Pair). is_among_pairs (pairs_of (with_lead dead at places lead)) x ≡ true) (sym is)
          (lead_found places lead (subst (λ (x : Pair). is_among dead x.w ≡ false) is live))))
      | inr later ↦ all_found (with_lead dead at places lead) leads c later live
    ]

    -- what holds when the place was gone through
    pub walk_visit : (places : List Place) → IsWalk writer reader dead at at places → slice_get places at ≡ Some q
        → IsWalk writer reader dead (suc at) (suc at) (with_leads dead at places leads_here)
    walk_visit places walk here = record {
      root = all.root;
      reached = all.reached;
      once = all.once;
      placed = all.placed;
      early = all.early;
      breadth = all.breadth;
      counted = slice_get_within new at q here_new;
      followed = λ k p got within c among live. followed_now k p got within c among live (decided k within);
    }
      where
        wider : IsWalk writer reader dead at (suc at) places
        wider = record {
          root = walk.root;
          reached = walk.reached;
          once = walk.once;
          placed = walk.placed;
          early = λ k p got. omega (arith, walk.early k p got);
          breadth = walk.breadth;
          counted = walk.counted;
          followed = walk.followed;
        }

        new : List Place
        new = with_leads dead at places leads_here

        all : IsWalk writer reader dead at (suc at) new
        all = walk_leads places leads_here (λ lead own. own) wider here

        here_new : slice_get new at ≡ Some q
        here_new =
            let more = extended places leads_here in
            subst (λ (ps : List Place). slice_get ps at ≡ Some q) (sym more.1) (get_kept places more.0 at q here)

        decided : (k : ℕ) → k < suc at → (k < at) ⊎ (k ≡ at)
        decided k h = split (nat_lt k at) refl
          where
            split : (t : Bool) → nat_lt k at ≡ t → (k < at) ⊎ (k ≡ at)
            split true e = inl (ltb-true k at e)
            split false e = inr (omega (arith, h, ltb-false k at e))

        followed_now : (k : ℕ) (p : Place) → slice_get new k ≡ Some p → k < suc at → (c : Pair)
            → is_among_pairs (children_of writer reader p.w.0 p.r.0 (node_at writer p.w.0) (node_at reader p.r.0)) c ≡ true → is_among dead c.w ≡ false
            → (k < at) ⊎ (k ≡ at) → IsFoundBy new (suc k) c
        followed_now k p got within c among live (inl before) = all.followed k p got before c among live
        followed_now k p got within c among live (inr same) =
            let is : p ≡ q = some_same p q (sym (subst (λ (i : ℕ). slice_get new i ≡ Some p) same got) ∙ here_new) in
            let of_q = subst (λ (x : Place). is_among_pairs (children_of writer reader x.w.0 x.r.0 (node_at writer x.w.0) (node_at reader x.r.0)) c ≡ true) is among in
            let found = place_of new c (all_found places leads_here c
            (subst (λ (ps : List Pair). is_among_pairs ps c ≡ true) (sym (lead_children writer reader q.w.0 q.r.0 (node_at writer q.w.0) (node_at reader q.r.0))) of_q) live) in
            record { index = found.index; place = found.place; there = found.there; is = found.is; early = omega (arith, all.early found.index found.place found.there, same) }

  -- the places of the search, when one more was gone through
  pub searched_more : (at : ℕ) (places new : List Place) (q : Place) → places ≡ places_after writer reader dead at → slice_get places at ≡ Some q
      → new ≡ with_leads dead at places (leads_at writer reader q.w.0 q.r.0) → new ≡ places_after writer reader dead (at + 1)
  searched_more at places new q is here added =
      added
      ∙ ap (λ (o : Option Place). with_leads dead at places (leads_of_place writer reader o)) (sym here)
      ∙ ap (λ (ps : List Place). with_leads dead at ps (leads_of_place writer reader (slice_get ps at))) is
      ∙ ap (λ (k : ℕ). places_after writer reader dead k) (one_more at)

  -- the roots' place alone
  pub walk_start : IsWalk writer reader dead 0 0 (roots_place (is_among dead 0))
  walk_start = decided (is_among dead 0) refl
    where
      roots_at : Place
      roots_at = record { w = record { 0 = 0 }; r = record { 0 = 0 }; from = None }

      first : (k : ℕ) (p : Place) → slice_get (roots_at ∷ []) k ≡ Some p → (k ≡ 0) × (roots_at ≡ p)
      first zero p h = (refl, some_same roots_at p h)
      first (suc k) p h = absurd (grind arith)

      decided : (t : Bool) → is_among dead 0 ≡ t → IsWalk writer reader dead 0 0 (roots_place t)
      decided true e = record {
        root = λ live. absurd (true≢false (sym e ∙ live));
        reached = λ k p got. absurd (omega (arith, slice_get_within [] k p got));
        once = refl;
        placed = λ k p got. absurd (omega (arith, slice_get_within [] k p got));
        early = λ k p got. absurd (omega (arith, slice_get_within [] k p got));
        breadth = λ j k p q got at_k le. absurd (omega (arith, slice_get_within [] j p got));
        counted = omega arith;
        followed = λ k p got within. absurd (omega (arith, within));
      }
      decided false e = record {
        root = λ live. record { index = 0; place = roots_at; there = refl; is = refl; early = omega arith };
        reached = λ k p got. subst (λ (x : Place). IsReached writer reader dead (pair_of x)) (first k p got).1 (roots e);
        once = refl;
        placed = λ k p got. subst (λ (x : Place). came writer reader (roots_at ∷ []) k x x.from) (first k p got).1 (refl, refl);
        early = λ k p got. subst (λ (x : Place). round_of x.from ≤ 0) (first k p got).1 (omega arith);
        breadth = λ j k p q got at_k le. subst (λ (x : Place). round_of x.from ≤ round_of q.from) (first j p got).1 (omega arith);
        counted = omega arith;
        followed = λ k p got within. absurd (omega (arith, within));
      }

  -- what was reached when all places were gone through
  reached_there : (rounds : ℕ) (places : List Place) → IsWalk writer reader dead (length places) rounds places → (p : Pair) → IsReached writer reader dead p
      → is_among_pairs (pairs_of places) p ≡ true
  reached_there rounds places walk p (roots live) = found_there places 0 p (walk.root live)
  reached_there rounds places walk p (child q c before among live) =
      let own = place_of places q (reached_there rounds places walk q before) in
      found_there places (suc own.index) p (walk.followed own.index own.place own.there (slice_get_within places own.index own.place own.there) p
      (subst (λ (x : Pair). is_among_pairs (children_of writer reader x.w x.r (node_at writer x.w) (node_at reader x.r)) p ≡ true) (sym own.is) among) live)

  pub there_reached : (count rounds : ℕ) (places : List Place) → IsWalk writer reader dead count rounds places → (p : Pair) → is_among_pairs (pairs_of places) p ≡ true
      → IsReached writer reader dead p
  there_reached count rounds places walk p among =
      let own = place_of places p among in
      subst (λ (x : Pair). IsReached writer reader dead x) own.is (walk.reached own.index own.place own.there)

  pub all_reached : (rounds : ℕ) (places : List Place) → IsWalk writer reader dead (length places) rounds places → AreReached writer reader dead (pairs_of places)
  all_reached rounds places walk =
      record { all_reached = reached_there rounds places walk; no_other = there_reached (length places) rounds places walk; once = walk.once }

  pub too_many : (count rounds limit : ℕ) (places : List Place) → IsWalk writer reader dead count rounds places → limit < length places
      → (pairs : List Pair) × AreTooMany writer reader dead limit pairs
  too_many count rounds limit places walk more =
      (pairs_of places, record { reached = there_reached count rounds places walk; once = walk.once; more = omega (arith, more, length-map places pair_of) })
