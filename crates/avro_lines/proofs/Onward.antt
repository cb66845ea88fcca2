-- Blocks that are shown, one after another.
use Rattle.std.proofs.Common.{◌≡◌, ◌≢◌, ℕ, zero, suc, ◌+◌, ◌-◌, ◌<◌, ◌≤◌, List, [], ◌∷◌, ◌++◌, length, take, Option, Some, None, inl, inr, refl, sym, ap, subst, ◌∙◌, arith, append_assoc, append-nil, length-append}
use Rattle.std.specs.List.{concat}
use Rattle.std.proofs.lemmas.List.Folds.{concat-append}
use Rattle.std.proofs.lemmas.Option.{none-some, same_Some}
use Rattle.avro_schema.specs.Node.{Node}
use Rattle.avro_schema.specs.Value.{Value, Values, values_count}
use Rattle.avro_compare.specs.Resolve.{Resolved}
use Rattle.avro_file.specs.BlockFails.{FileLimitValues, max_blocks}
use Rattle.avro_file.specs.DataRead.{read_nodes, resolution}
use Rattle.avro_file.specs.File.{HeaderValue}
use Rattle.avro_file.specs.declared.error.CopyError.{CopyError}
use Rattle.avro_container.specs.CopiedFile.{AreResolved}
use Rattle.avro_container.specs.Moved.{Moved}
use Rattle.avro_container.specs.Steps.{AreBlocksWithin, total_data}
use Rattle.avro_lines.specs.Lines.{all_lines, lines_of, up_to}
use Rattle.avro_lines.specs.Shown.{HasEnough, IsShown}
use Rattle.avro_lines.specs.inside.BlocksShown.{BlocksShow, Goes, IsAll, IsBlockFault, IsEnd, IsFaultNext, IsNext, Leaves, Shows, Stops, lessened}
use Rattle.avro_lines.proofs.Firsts.{lines-count, made-count}
use Rattle.avro_lines.proofs.Nexts.{next-none}
use Rattle.avro_lines.proofs.Parts.{fails-after}

abbrev pub Chains : {D : Type 0} → (D → List ℕ → D → Type 0) → Type 0
Chains {D} gives = (s t u : D) (front back : List ℕ) → gives s front t → gives t back u → gives s (front ++ back) u

-- ---- the first lines of both

take-both : (n : ℕ) (xs ys : List (List ℕ)) → take n (xs ++ ys) ≡ take n xs ++ take (n - length xs) ys
take-both zero [] ys = refl
take-both (suc n) [] ys = let e : suc n - 0 ≡ suc n = omega arith in sym (ap (λ (k : ℕ). take k ys) e)
take-both zero (x ∷ xs) ys = let e : 0 - length (x ∷ xs) ≡ 0 = omega arith in sym (ap (λ (k : ℕ). take k ys) e)
take-both (suc n) (x ∷ xs) ys =
    let e : suc n - length (x ∷ xs) ≡ n - length xs = omega arith in
    ap (λ (q : List (List ℕ)). x ∷ q) (take-both n xs ys ∙ ap (λ (k : ℕ). take n xs ++ take k ys) (sym e))

first-both : (limit : Option ℕ) (xs ys : List (List ℕ)) → up_to limit (xs ++ ys) ≡ up_to limit xs ++ up_to (lessened limit (length xs)) ys
first-both None xs ys = refl
first-both (Some most) xs ys = take-both most xs ys

lines-both : (nodes : List Node) (made more : List Values) → all_lines nodes (made ++ more) ≡ all_lines nodes made ++ all_lines nodes more
lines-both nodes [] more = refl
lines-both nodes (us ∷ made) more =
    ap (λ (q : List (List ℕ)). lines_of nodes us ++ q) (lines-both nodes made more) ∙ sym (append_assoc (lines_of nodes us) (all_lines nodes made) (all_lines nodes more))

all-count : (nodes : List Node) (made : List Values) → length (all_lines nodes made) ≡ total_data made
all-count nodes [] = refl
all-count nodes (us ∷ made) =
    let sum = length-append (lines_of nodes us) (all_lines nodes made) in
    let first = lines-count nodes us in
    let rest = all-count nodes made in
    omega (arith, sum, first, rest)

made-total : (resolve : Value → Resolved) (blocks made : List Values) → AreResolved resolve blocks made → total_data made ≡ total_data blocks
made-total resolve [] made e = ap total_data e
made-total resolve (vs ∷ blocks) made (first, others, is, more, e) =
    let same = ap total_data e in
    let one = made-count resolve vs first is in
    let rest = made-total resolve blocks others more in
    omega (arith, same, one, rest)

made-both : (resolve : Value → Resolved) (blocks more made others : List Values) → AreResolved resolve blocks made → AreResolved resolve more others
    → AreResolved resolve (blocks ++ more) (made ++ others)
made-both resolve [] more made others e are = subst (λ (q : List Values). AreResolved resolve more (q ++ others)) (sym e) are
made-both resolve (vs ∷ blocks) more made others (first, rest, is, later, e) are =
    (first, rest ++ others, is, made-both resolve blocks more rest others later are, ap (λ (q : List Values). q ++ others) e)

within-both : (limits : FileLimitValues) (h : HeaderValue) (blocks more : List Values) (bytes others : List ℕ) → AreBlocksWithin limits h blocks bytes
    → AreBlocksWithin limits h more others → AreBlocksWithin limits h (blocks ++ more) (bytes ++ others)
within-both limits h [] more bytes others e are = subst (λ (b : List ℕ). AreBlocksWithin limits h more (b ++ others)) (sym e) are
within-both limits h (vs ∷ blocks) more bytes others (first, rest, is, later, e) are =
    (first, rest ++ others, is, within-both limits h blocks more rest others later are, ap (λ (b : List ℕ). b ++ others) e ∙ append_assoc first rest others)

shown-both : (reader : Option (List Node)) (h : HeaderValue) (limit left : Option ℕ) (blocks more : List Values) (lines others : List ℕ)
    → IsShown reader limit h blocks lines → left ≡ lessened limit (total_data blocks) → IsShown reader left h more others
    → IsShown reader limit h (blocks ++ more) (lines ++ others)
shown-both reader h limit left blocks more lines others had over next =
    let nodes = read_nodes h.nodes reader in
    let resolve = resolution reader h.nodes in
    let first = all_lines nodes had.made in
    let second = all_lines nodes next.made in
    let count : length first ≡ total_data blocks = all-count nodes had.made ∙ made-total resolve blocks had.made had.resolved in
    let rest : left ≡ lessened limit (length first) = over ∙ ap (lessened limit) (sym count) in
    let all : up_to limit (all_lines nodes (had.made ++ next.made)) ≡ up_to limit first ++ up_to left second =
    ap (up_to limit) (lines-both nodes had.made next.made) ∙ first-both limit first second ∙ ap (λ (l : Option ℕ). up_to limit first ++ up_to l second) (sym rest) in
    record {
      made = had.made ++ next.made;
      resolved = made-both resolve blocks more had.made next.made had.resolved next.resolved;
      lines = (λ i. had.lines i ++ next.lines i) ∙ sym (concat-append (up_to limit first) (up_to left second)) ∙ ap concat (sym all);
    }

show-both : (limits : FileLimitValues) (reader : Option (List Node)) (h : HeaderValue) (limit left : Option ℕ) (number : ℕ) (blocks more : List Values)
    (taken bytes lines others : List ℕ) → BlocksShow limits reader h limit 0 blocks taken lines → length blocks ≡ number → left ≡ lessened limit (total_data blocks)
    → BlocksShow limits reader h left number more bytes others → BlocksShow limits reader h limit 0 (blocks ++ more) (taken ++ bytes) (lines ++ others)
show-both limits reader h limit left number blocks more taken bytes lines others had same over next =
    let long = length-append blocks more in
    let scratch = next.few in
    record {
      are_blocks = within-both limits h blocks more taken bytes had.are_blocks next.are_blocks;
      few = omega (arith, long, same, scratch);
      shown = shown-both reader h limit left blocks more lines others had.shown over next.shown;
    }

-- ---- what is left of the limit

total-push : (blocks : List Values) (vs : Values) → total_data (blocks ++ vs ∷ []) ≡ total_data blocks + values_count vs
total-push [] vs = omega arith
total-push (block ∷ blocks) vs =
    let more = total-push blocks vs in
    omega (arith, more)

less-both : (limit : Option ℕ) (a b : ℕ) → lessened (lessened limit a) b ≡ lessened limit (a + b)
less-both None a b = refl
less-both (Some most) a b = let e : (most - a) - b ≡ most - (a + b) = omega arith in ap Some e

enough-last : (limit : Option ℕ) (count : ℕ) (blocks : List Values) (vs : Values) → lessened limit (total_data blocks) ≢ Some 0 → values_count vs ≡ count
    → lessened limit (total_data (blocks ++ vs ∷ [])) ≡ Some 0 → HasEnough limit (blocks ++ vs ∷ [])
enough-last None count blocks vs more counted none = absurd (none-some 0 none)
enough-last (Some most) count blocks vs more counted none =
    let left : most - total_data (blocks ++ vs ∷ []) ≡ 0 = same_Some _ _ none in
    let less : total_data blocks < most = not-reached most (total_data blocks) more in
    HasEnough.last most blocks vs refl refl less (omega (arith, left))
  where
    not-reached : (most total : ℕ) → ◌≢◌ {A = Option ℕ} (Some (most - total)) (Some 0) → total < most
    not-reached most total more = decided (most - total) refl
      where
        decided : (n : ℕ) → most - total ≡ n → total < most
        decided zero e = absurd (more (ap Some e))
        decided (suc n) e = omega (arith, e)

leaves-next : (limit left : Option ℕ) (number count : ℕ) (blocks : List Values) (vs : Values) → left ≢ Some 0 → values_count vs ≡ count
    → Leaves limit number left blocks → Leaves limit (number + 1) (lessened left count) (blocks ++ vs ∷ [])
leaves-next limit left number count blocks vs more counted (same, over, reached) =
    let long = length-append blocks (vs ∷ []) in
    let total : total_data blocks + count ≡ total_data (blocks ++ vs ∷ []) = ap (λ (n : ℕ). total_data blocks + n) (sym counted) ∙ sym (total-push blocks vs) in
    let rest : lessened left count ≡ lessened limit (total_data (blocks ++ vs ∷ [])) =
    ap (λ (l : Option ℕ). lessened l count) over ∙ less-both limit (total_data blocks) count ∙ ap (lessened limit) total in (
      omega (arith, long, same),
      rest,
      λ none. enough-last limit count blocks vs (λ e. more (over ∙ e)) counted (sym rest ∙ none),
    )

-- ---- what was taken and put

module _ {I O : Type 0} (gives : I → List ℕ → I → Type 0) (lost : I → ℕ) (keeps : O → List ℕ → O → Type 0) (failures : O → ℕ) (limits : FileLimitValues) (reader : Option (List Node)) (h : HeaderValue) (limit : Option ℕ) where
  -- no block yet
  pub onward-none : ((s : I) → gives s [] s) → ((s : O) → keeps s [] s) → (i : I) (o : O) (number : ℕ) (text : List ℕ) → number ≡ 0 → text ≡ []
      → Goes gives lost keeps failures i i o o (Shows limits reader h limit 0 [] text (IsAll (Leaves limit number limit)))
  onward-none none still i o number text first nothing = record {
    moved = next-none gives keeps failures limits reader h limit i i o o 0 [] text [] (IsAll (Leaves limit number limit)) (omega arith) (none i) ([], still o, sym nothing)
        (refl, refl, (sym first, whole limit, λ e. HasEnough.none_asked e refl));
    input_works = refl;
    output_works = refl;
  }
    where
      whole : (l : Option ℕ) → l ≡ lessened l 0
      whole None = refl
      whole (Some n) = let e : n ≡ n - 0 = omega arith in ap Some e

  module _ (chain : Chains gives) (after : Chains keeps) (i i' i'' : I) (o o' o'' : O) (number : ℕ) (left : Option ℕ) (text now : List ℕ)
      (had : Goes gives lost keeps failures i i' o o' (Shows limits reader h limit 0 [] text (IsAll (Leaves limit number left)))) where
    -- the text of both
    regrouped : (put lines more later rest : List ℕ) → text ++ lines ≡ (more ++ later) ++ rest → (put ++ text) ++ lines ≡ ((put ++ more) ++ later) ++ rest
    regrouped put lines more later rest e =
        append_assoc put text lines ∙ ap (λ (b : List ℕ). put ++ b) e ∙ sym (append_assoc put (more ++ later) rest)
        ∙ ap (λ (b : List ℕ). b ++ rest) (sym (append_assoc put more later))

    -- what the next one moves
    onward : (P Q : List Values → List ℕ → List ℕ → Type 0) → ((done blocks : List Values) (rest later : List ℕ) → Leaves limit number left done → P blocks rest later → Q (done ++ blocks) rest later)
        → Moved gives keeps i' i'' o' o'' (Shows limits reader h left number text now P) → Moved gives keeps i i'' o o'' (Shows limits reader h limit 0 [] now Q)
    onward P Q turn next =
        let moved = had.moved in
        let done = moved.does in
        let more = next.does in
        let (none, whole, leaves) = done.is_so in
        let taken : moved.taken ≡ done.front = done.split ∙ ap (λ (b : List ℕ). done.front ++ b) none ∙ append-nil done.front in
        let lines : done.lines ≡ moved.put ++ text = done.puts ∙ ap (λ (b : List ℕ). (moved.put ++ text) ++ b) whole ∙ append-nil (moved.put ++ text) in
        record {
          taken = moved.taken ++ next.taken;
          put = moved.put ++ next.put;
          is_taken = chain i i' i'' moved.taken next.taken moved.is_taken next.is_taken;
          is_put = after o o' o'' moved.put next.put moved.is_put next.is_put;
          does = record {
            blocks = done.blocks ++ more.blocks;
            front = done.front ++ more.front;
            rest = more.rest;
            lines = done.lines ++ more.lines;
            later = more.later;
            show = show-both limits reader h limit left number done.blocks more.blocks done.front more.front done.lines more.lines done.show leaves.0 leaves.1 more.show;
            split = (λ j. taken j ++ more.split j) ∙ sym (append_assoc done.front more.front more.rest);
            puts = ap (λ (b : List ℕ). b ++ more.lines) lines ∙ regrouped moved.put more.lines next.put now more.later more.puts;
            is_so = turn done.blocks more.blocks more.rest more.later leaves more.is_so;
          };
        }

    onward-goes : (P Q : List Values → List ℕ → List ℕ → Type 0) → ((done blocks : List Values) (rest later : List ℕ) → Leaves limit number left done → P blocks rest later → Q (done ++ blocks) rest later)
        → Goes gives lost keeps failures i' i'' o' o'' (Shows limits reader h left number text now P) → Goes gives lost keeps failures i i'' o o'' (Shows limits reader h limit 0 [] now Q)
    onward-goes P Q turn next = record {
      moved = onward P Q turn next.moved;
      input_works = next.input_works ∙ had.input_works;
      output_works = next.output_works ∙ had.output_works;
    }

    -- one block more
    pub onward-next : (ended : Type 0) (count : ℕ) → left ≢ Some 0 → Goes gives lost keeps failures i' i'' o' o'' (Shows limits reader h left number text now (IsAll (IsNext (Some count) ended)))
        → Goes gives lost keeps failures i i'' o o'' (Shows limits reader h limit 0 [] now (IsAll (Leaves limit (number + 1) (lessened left count))))
    onward-next ended count more = onward-goes (IsAll (IsNext (Some count) ended)) (IsAll (Leaves limit (number + 1) (lessened left count)))
        (λ done blocks rest later leaves (none, whole, one). (
          none,
          whole,
          subst (λ (bs : List Values). Leaves limit (number + 1) (lessened left count) (done ++ bs)) (sym one.1) (leaves-next limit left number count done one.0 more one.2 leaves),
        ))

    -- the input ended
    pub onward-end : (ended : Type 0) → Goes gives lost keeps failures i' i'' o' o'' (Shows limits reader h left number text now (IsAll (IsNext None ended)))
        → Goes gives lost keeps failures i i'' o o'' (Shows limits reader h limit 0 [] now (IsAll (IsEnd limit ended)))
    onward-end ended = onward-goes (IsAll (IsNext None ended)) (IsAll (IsEnd limit ended)) (λ done blocks rest later leaves (none, whole, over). (none, whole, inl over.1))

    -- an error in the next one
    pub onward-stops : (stuck : O → Type 0) (ended : Type 0) (e : CopyError)
        → Stops gives lost keeps failures stuck i' i'' o' o'' (Shows limits reader h left number text now (IsFaultNext limits reader h number ended e)) e
        → Stops gives lost keeps failures stuck i i'' o o'' (Shows limits reader h limit 0 [] now (IsFaultNext limits reader h 0 ended e)) e
    onward-stops stuck ended e next = record {
      moved = onward (IsFaultNext limits reader h number ended e) (IsFaultNext limits reader h 0 ended e)
          (λ done blocks rest later leaves so f is.
          let (whole, fault) = so f is in
          let same = leaves.0 in
          let long = length-append done blocks in
          let at : number + length blocks ≡ 0 + length (done ++ blocks) = omega (arith, same, long) in
          (whole, subst (λ (n : ℕ). IsBlockFault limits reader h n ended f rest) at fault))
          next.moved;
      named = next.named;
      first = next.first;
      input_fails = λ failed same. next.input_fails failed (same ∙ sym had.input_works);
      output_works = λ other. next.output_works other ∙ had.output_works;
      output_fails = λ failed. fails-after failures stuck o o' o'' had.output_works (next.output_fails failed);
    }

  -- they are enough
  pub onward-enough : Chains gives → Chains keeps → ((s : I) → gives s [] s) → ((s : O) → keeps s [] s) → (i i' : I) (o o' : O) (number : ℕ) (left : Option ℕ) (text : List ℕ) (ended : Type 0)
      → left ≡ Some 0 → number ≤ max_blocks → Goes gives lost keeps failures i i' o o' (Shows limits reader h limit 0 [] text (IsAll (Leaves limit number left)))
      → Goes gives lost keeps failures i i' o o' (Shows limits reader h limit 0 [] text (IsAll (IsEnd limit ended)))
  onward-enough chain after none still i i' o o' number left text ended reached few had =
      onward-goes chain after i i' i' o o' o' number left text text had (IsAll (λ blocks. blocks ≡ [])) (IsAll (IsEnd limit ended))
      (λ done blocks rest later leaves (no_rest, whole, is).
      let same : done ≡ done ++ blocks = sym (ap (λ (bs : List Values). done ++ bs) is ∙ append-nil done) in
      (no_rest, whole, inr (subst (λ (bs : List Values). HasEnough limit bs) same (leaves.2 reached))))
      (record {
        moved = next-none gives keeps failures limits reader h left i' i' o' o' number text text [] (IsAll (λ blocks. blocks ≡ [])) few (none i') ([], still o', append-nil text) (refl, refl, refl);
        input_works = refl;
        output_works = refl;
      })
