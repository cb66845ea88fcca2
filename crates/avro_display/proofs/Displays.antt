-- The text of what is displayed, part by part.
use Rattle.std.proofs.Common.{◌≡◌, ◌<◌, ◌≤◌, ◌+◌, ◌*◌, ℕ, zero, suc, List, [], ◌∷◌, ◌++◌, length, drop, get_or, Bool, true, Option, Some, None, refl, ap, subst, ◌∙◌, arith, append_assoc}
use Rattle.std.proofs.lemmas.List.{drop_more, drop_all}
use Rattle.std.specs.List.{AllByRecursion}
use Rattle.serde_json.specs.Data.{Data, Items, no_items, item}
use Rattle.serde_json.specs.Written.{comma_if, compact_text, items_text, members_text}
use Rattle.avro_device.specs.PutFront.{PutsFrontOf}
use Rattle.avro_display.specs.Displayed.{items_count, item_at, members_left, object_text}
use Rattle.avro_display.specs.Order.{in_order}
use Rattle.avro_display.specs.Pieces.{PutsText}
use Rattle.avro_display.specs.Table.{head_text}
use Rattle.avro_display.specs.declared.member.Member.{Member}
use Rattle.avro_display.proofs.public.Fronts.{fronts_last, fronts_more}
use Rattle.avro_display.proofs.public.Putting.{puts_more, puts_last}

-- a measure that falls from a part to its parts
abbrev pub weight : {P : Type 0} → (P → ℕ) → Option P → ℕ
weight levels (Some p) = 4 * levels p + 3
weight levels None = 0

-- the items from an index on
abbrev pub items_from : ℕ → Items → Items
items_from zero ds = ds
items_from (suc i) no_items = no_items
items_from (suc i) (item d ds) = items_from i ds

item_here : (i : ℕ) (ds : Items) → i < items_count ds → items_from i ds ≡ item (item_at ds i) (items_from (i + 1) ds)
item_here i no_items within = absurd (omega (arith, within))
item_here zero (item d ds) within = refl
item_here (suc i) (item d ds) within =
    let next : suc (i + 1) ≡ suc i + 1 = omega arith in
    item_here i ds (omega (arith, within)) ∙ ap (λ (j : ℕ). item (item_at ds i) (items_from j (item d ds))) next

item_none : (i : ℕ) (ds : Items) → items_count ds ≤ i → items_from i ds ≡ no_items
item_none zero no_items past = refl
item_none (suc i) no_items past = refl
item_none zero (item d ds) past = absurd (omega (arith, past))
item_none (suc i) (item d ds) past = item_none i ds (omega (arith, past))

-- what holds of each holds at an index
pub all_at : {A : Type 0} (P : A → Type 0) (xs : List A) (i : ℕ) (x : A) → i < length xs → AllByRecursion P xs → P (get_or xs i x)
all_at P [] i x within all = absurd (omega (arith, within))
all_at P (y ∷ ys) zero x within all = all.0
all_at P (y ∷ ys) (suc i) x within all = all_at P ys i x (omega (arith, within)) all.1

-- ---- the next part of what is left

next_item : (text : List ℕ) (later : Bool) (ds : Items) (i : ℕ) (next : List ℕ) → i < items_count ds → next ≡ text ++ comma_if later
    → text ++ items_text later (items_from i ds) ≡ next ++ (compact_text (item_at ds i) ++ items_text true (items_from (i + 1) ds))
next_item text later ds i next within has = rw (item_here i ds within, has) (simp append_assoc)

next_entry : (text : List ℕ) (later : Bool) (tree : ℕ → Data) (left rest : List (List ℕ × ℕ)) (e : List ℕ × ℕ) (next : List ℕ) → left ≡ e ∷ rest
    → next ≡ text ++ (comma_if later ++ head_text e.0)
    → text ++ members_text later (in_order tree left) ≡ next ++ (compact_text (tree e.1) ++ members_text true (in_order tree rest))
next_entry text later tree left rest e next is has = rw (is, has) (simp append_assoc)

next_member : (text : List ℕ) (tree : ℕ → Data) (ms : List Member) (i : ℕ) (m : Member) (next : List ℕ) → i < length ms → m ≡ get_or ms i m → next ≡ text ++ m.head.items
    → text ++ members_left tree (drop i ms) ≡ next ++ (compact_text (tree m.field) ++ members_left tree (drop (i + 1) ms))
next_member text tree ms i m next within at has = rw (drop_more ms i m within, ← at, has) (simp append_assoc)

-- ---- a list of parts goes out one after another

module _ {O : Type 0} (keeps : O → List ℕ → O → Type 0) (chain : (s t u : O) (front back : List ℕ) → keeps s front t → keeps t back u → keeps s (front ++ back) u)
    (s t u : O) (held whole text then : List ℕ) where
  pub items_more : (later : Bool) (ds : Items) (i : ℕ) (next : List ℕ) → i < items_count ds → next ≡ text ++ comma_if later
      → PutsText keeps s held whole t (text ++ items_text later (items_from i ds))
      → PutsText keeps t next (compact_text (item_at ds i)) u then
      → PutsText keeps s held whole u (then ++ items_text true (items_from (i + 1) ds))
  items_more later ds i next within has all step =
      let part = compact_text (item_at ds i) in
      let tail = items_text true (items_from (i + 1) ds) in
      puts_more keeps chain s t u held whole (text ++ items_text later (items_from i ds)) next part then tail (next_item text later ds i next within has) all step

  pub items_last : (later : Bool) (ds : Items) (i : ℕ) → items_count ds ≤ i
      → PutsText keeps s held whole t (text ++ items_text later (items_from i ds)) → PutsText keeps t text (93 ∷ []) u then → PutsText keeps s held whole u then
  items_last later ds i past all step =
      puts_last keeps chain s t u held whole (text ++ items_text later (items_from i ds)) text (93 ∷ []) then (rw (item_none i ds past)) all step

  pub entries_more : (later : Bool) (tree : ℕ → Data) (left rest : List (List ℕ × ℕ)) (e : List ℕ × ℕ) (next : List ℕ) → left ≡ e ∷ rest
      → next ≡ text ++ (comma_if later ++ head_text e.0) → PutsText keeps s held whole t (text ++ members_text later (in_order tree left)) → PutsText keeps t next (compact_text (tree e.1)) u then
      → PutsText keeps s held whole u (then ++ members_text true (in_order tree rest))
  entries_more later tree left rest e next is has all step =
      let part = compact_text (tree e.1) in
      let tail = members_text true (in_order tree rest) in
      puts_more keeps chain s t u held whole (text ++ members_text later (in_order tree left)) next part then tail (next_entry text later tree left rest e next is has) all step

  pub entries_last : (later : Bool) (tree : ℕ → Data) (left : List (List ℕ × ℕ)) → left ≡ [] → PutsText keeps s held whole t (text ++ members_text later (in_order tree left))
      → PutsText keeps t text (125 ∷ []) u then → PutsText keeps s held whole u then
  entries_last later tree left is all step =
      puts_last keeps chain s t u held whole (text ++ members_text later (in_order tree left)) text (125 ∷ []) then (rw is) all step

  pub members_more : (tree : ℕ → Data) (ms : List Member) (i : ℕ) (m : Member) (next : List ℕ) → i < length ms → m ≡ get_or ms i m → next ≡ text ++ m.head.items
      → PutsText keeps s held whole t (text ++ members_left tree (drop i ms))
      → PutsText keeps t next (compact_text (tree m.field)) u then
      → PutsText keeps s held whole u (then ++ members_left tree (drop (i + 1) ms))
  members_more tree ms i m next within at has all step =
      let part = compact_text (tree m.field) in
      let tail = members_left tree (drop (i + 1) ms) in
      puts_more keeps chain s t u held whole (text ++ members_left tree (drop i ms)) next part then tail (next_member text tree ms i m next within at has) all step

  pub members_last : (tree : ℕ → Data) (ms : List Member) (i : ℕ) → length ms ≤ i
      → PutsText keeps s held whole t (text ++ members_left tree (drop i ms)) → PutsText keeps t text (125 ∷ []) u then → PutsText keeps s held whole u then
  members_last tree ms i past all step =
      puts_last keeps chain s t u held whole (text ++ members_left tree (drop i ms)) text (125 ∷ []) then (rw (drop_all i ms past)) all step

-- ---- a step of it fails

module _ {O : Type 0} (keeps : O → List ℕ → O → Type 0) (chain : (s t u : O) (front back : List ℕ) → keeps s front t → keeps t back u → keeps s (front ++ back) u)
    (s t u : O) (held whole text : List ℕ) where
  pub item_fails : (later : Bool) (ds : Items) (i : ℕ) (next : List ℕ) → i < items_count ds → next ≡ text ++ comma_if later
      → PutsText keeps s held whole t (text ++ items_text later (items_from i ds)) → PutsFrontOf keeps t u (next ++ compact_text (item_at ds i)) → PutsFrontOf keeps s u (held ++ whole)
  item_fails later ds i next within has =
      fronts_more keeps chain s t u held whole _ next (compact_text (item_at ds i)) (items_text true (items_from (i + 1) ds)) (next_item text later ds i next within has)

  pub items_last_fails : (later : Bool) (ds : Items) (i : ℕ) → items_count ds ≤ i
      → PutsText keeps s held whole t (text ++ items_text later (items_from i ds)) → PutsFrontOf keeps t u (text ++ 93 ∷ []) → PutsFrontOf keeps s u (held ++ whole)
  items_last_fails later ds i past all = fronts_last keeps chain s t u held whole (text ++ 93 ∷ [])
      (subst (λ left. PutsText keeps s held whole t (text ++ items_text later left)) (item_none i ds past) all)

  pub entry_fails : (later : Bool) (tree : ℕ → Data) (left rest : List (List ℕ × ℕ)) (e : List ℕ × ℕ) (next : List ℕ) → left ≡ e ∷ rest
      → next ≡ text ++ (comma_if later ++ head_text e.0) → PutsText keeps s held whole t (text ++ members_text later (in_order tree left))
      → PutsFrontOf keeps t u (next ++ compact_text (tree e.1)) → PutsFrontOf keeps s u (held ++ whole)
  entry_fails later tree left rest e next is has =
      fronts_more keeps chain s t u held whole _ next (compact_text (tree e.1)) (members_text true (in_order tree rest)) (next_entry text later tree left rest e next is has)

  pub entries_last_fails : (later : Bool) (tree : ℕ → Data) (left : List (List ℕ × ℕ)) → left ≡ [] → PutsText keeps s held whole t (text ++ members_text later (in_order tree left))
      → PutsFrontOf keeps t u (text ++ 125 ∷ []) → PutsFrontOf keeps s u (held ++ whole)
  entries_last_fails later tree left is all = fronts_last keeps chain s t u held whole (text ++ 125 ∷ [])
      (subst (λ es. PutsText keeps s held whole t (text ++ members_text later (in_order tree es))) is all)

  pub member_fails : (tree : ℕ → Data) (ms : List Member) (i : ℕ) (m : Member) (next : List ℕ) → i < length ms → m ≡ get_or ms i m → next ≡ text ++ m.head.items
      → PutsText keeps s held whole t (text ++ members_left tree (drop i ms)) → PutsFrontOf keeps t u (next ++ compact_text (tree m.field)) → PutsFrontOf keeps s u (held ++ whole)
  member_fails tree ms i m next within at has =
      fronts_more keeps chain s t u held whole _ next (compact_text (tree m.field)) (members_left tree (drop (i + 1) ms)) (next_member text tree ms i m next within at has)

  pub members_last_fails : (tree : ℕ → Data) (ms : List Member) (i : ℕ) → length ms ≤ i
      → PutsText keeps s held whole t (text ++ members_left tree (drop i ms)) → PutsFrontOf keeps t u (text ++ 125 ∷ []) → PutsFrontOf keeps s u (held ++ whole)
  members_last_fails tree ms i past all = fronts_last keeps chain s t u held whole (text ++ 125 ∷ [])
      (subst (λ left. PutsText keeps s held whole t (text ++ members_left tree left)) (drop_all i ms past) all)

-- an object with members
pub some_members : (tree : ℕ → Data) (ms : List Member) → 0 < length ms → members_left tree ms ≡ object_text tree ms
some_members tree [] some = absurd (omega (arith, some))
some_members tree (m ∷ ms) some = refl
