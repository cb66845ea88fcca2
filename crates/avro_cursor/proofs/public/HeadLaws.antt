-- The heads of blocks: at most one is at the front of bytes, it has no fault there, and there is one fault at most.
use Rattle.std.proofs.Common.{◌≡◌, ◌≢◌, ℕ, zero, suc, ◌+◌, ◌-◌, ◌^◌, ◌<◌, ◌≤◌, ℤ, pos, negsuc, neg_ℤ, nat_abs, ◌<ℤ◌, true, List, [], ◌++◌, length, take, drop, Result, Ok, Err, Option, Some, None, refl, sym, ap, ◌∙◌, subst, arith, rules, tests, append_assoc, add-zero}
use Rattle.std.proofs.lemmas.Int.{ints}
use Rattle.std.proofs.lemmas.List.{take-append-drop}
use Rattle.std.proofs.Math.Seq.{take-add}
use Rattle.avro_zigzag.specs.Number.{SpellsLong}
use Rattle.avro_zigzag.proofs.public.Spelling.{one_spelling_lem, is_long-zigzag}
use Rattle.avro_schema.specs.Fits.{is_long}
use Rattle.avro_cursor.specs.Fault.{ReadFault, invalid_length, limit_exceeded, behind}
use Rattle.avro_cursor.specs.Breaks.{LongBreaks, StartsWithLong, Head, counted, sized, HeadBreaks, count_fails, count_least, count_over, size_fails, size_negative}
use Rattle.avro_cursor.specs.Seen.{read_fault}
use Rattle.avro_cursor.specs.CursorValue.{CursorValue, Passes}
use Rattle.avro_cursor.specs.BlockHeads.{IsHeadOrEnd, IsBlockOrEnd, ReadsHead}
use Rattle.avro_cursor.specs.declared.block.Block.{Block}
use Rattle.avro_cursor.specs.declared.error.ReadError.{ReadError}
use Rattle.avro_cursor.proofs.public.ElementLaws.{IsPart, long_count, long_part, head_same, no_long_fault}

-- the fault of a size
pub data SizeBreaks (bytes : List ℕ) : ReadFault → Type 0 where
  fails : {f : ReadFault} → LongBreaks bytes f → SizeBreaks bytes f
  below : (m : ℕ) (size rest : List ℕ) → StartsWithLong (negsuc m) bytes size rest → SizeBreaks bytes (invalid_length 0)

size-one_fault : (bytes : List ℕ) (f g : ReadFault) → SizeBreaks bytes f → SizeBreaks bytes g → f ≡ g
size-one_fault bytes f g (fails b) (fails d) = long_part.one_fault bytes f g b d
size-one_fault bytes f g (fails b) (below m size rest s) = absurd (no_long_fault (negsuc m) bytes size rest f s b)
size-one_fault bytes f g (below m size rest s) (fails d) = absurd (no_long_fault (negsuc m) bytes size rest g s d)
size-one_fault bytes f g (below m size rest s) (below n other more t) = refl

size-excludes : (n : ℕ) (bytes size rest : List ℕ) (f : ReadFault) → StartsWithLong (pos n) bytes size rest → SizeBreaks bytes f → ⊥
size-excludes n bytes size rest f s (fails b) = no_long_fault (pos n) bytes size rest f s b
size-excludes n bytes size rest f s (below m other more t) = let same = head_same (pos n) (negsuc m) bytes size other rest more s t in let clash = same.1 in cc

-- the fault of a head after the count v
data BehindCount (nodes : ℕ) (v : ℤ) (number rest : List ℕ) (f : ReadFault) : Type 0 where
  is_least : v ≡ negsuc (2 ^ 63 - 1) → f ≡ invalid_length 0 → BehindCount nodes v number rest f
  is_over : v ≢ negsuc (2 ^ 63 - 1) → nodes < nat_abs v → f ≡ limit_exceeded → BehindCount nodes v number rest f
  is_size : (n : ℕ) (g : ReadFault) → v ≡ negsuc n → suc n < 2 ^ 63 → n < nodes → SizeBreaks rest g → f ≡ behind (length number) g → BehindCount nodes v number rest f

spelled-starts : (n : ℕ) (bytes number rest : List ℕ) → SpellsLong (negsuc n) number → suc n < 2 ^ 63 → bytes ≡ number ++ rest → StartsWithLong (negsuc n) bytes number rest
spelled-starts n bytes number rest s small split = record { spelled = s; in_range = long_below n small; split = split }
  where
    long_below : (m : ℕ) → suc m < 2 ^ 63 → is_long (negsuc m) ≡ true
    long_below m h = search (rules, tests)

behind_count : (nodes : ℕ) (v : ℤ) (bytes number rest : List ℕ) (f : ReadFault) → StartsWithLong v bytes number rest → HeadBreaks nodes bytes f → BehindCount nodes v number rest f
behind_count nodes v bytes number rest f s (count_fails b) = absurd (no_long_fault v bytes number rest f s b)
behind_count nodes v bytes number rest f s (count_least m r t) = is_least (head_same v (negsuc (2 ^ 63 - 1)) bytes number m rest r s t).1 refl
behind_count nodes v bytes number rest f s (count_over w m r t other over) =
    let same = head_same v w bytes number m rest r s t in
    let is = same.1 in
    is_over (λ least. other (sym is ∙ least)) (rw is over) refl
behind_count nodes v bytes number rest f s (size_fails n m t small few b) =
    let same = head_same v (negsuc n) bytes number m rest b.rest s (spelled-starts n bytes m b.rest t small b.split) in
    is_size n b.fault same.1 small few (subst (λ (k : List ℕ). SizeBreaks k b.fault) (sym same.2) (fails b.breaks)) (b.moved ∙ ap (λ (k : List ℕ). behind (length k) b.fault) (sym same.0))
behind_count nodes v bytes number rest f s (size_negative n k m size after more t small few split u) =
    let same = head_same v (negsuc n) bytes number m rest after s (spelled-starts n bytes m after t small split) in
    is_size n (invalid_length 0) same.1 small few (subst (λ (j : List ℕ). SizeBreaks j (invalid_length 0)) (sym same.2) (below k size more u))
    (ap (λ (j : List ℕ). invalid_length (length j)) (sym same.0) ∙ ap (λ (j : ℕ). invalid_length j) (sym (add-zero (length number))))

least-small : (n : ℕ) → negsuc (2 ^ 63 - 1) ≡ negsuc n → suc n < 2 ^ 63 → ⊥
least-small n e small = let same : 2 ^ 63 - 1 ≡ n = cc in omega arith

over-small : (nodes n : ℕ) (v : ℤ) → v ≡ negsuc n → nodes < nat_abs v → n < nodes → ⊥
over-small nodes n v is over few = let h : nodes < suc n = subst (λ (w : ℤ). nodes < nat_abs w) is over in omega arith

behind_one : (nodes : ℕ) (v : ℤ) (number rest : List ℕ) (f g : ReadFault) → BehindCount nodes v number rest f → BehindCount nodes v number rest g → f ≡ g
behind_one nodes v number rest f g (is_least a b) (is_least c d) = b ∙ sym d
behind_one nodes v number rest f g (is_least a b) (is_over c d e) = absurd (c a)
behind_one nodes v number rest f g (is_least a b) (is_size n h is small few t e) = absurd (least-small n (sym a ∙ is) small)
behind_one nodes v number rest f g (is_over c d e) (is_least a b) = absurd (c a)
behind_one nodes v number rest f g (is_over c d e) (is_over i j k) = e ∙ sym k
behind_one nodes v number rest f g (is_over c d e) (is_size n h is small few t k) = absurd (over-small nodes n v is d few)
behind_one nodes v number rest f g (is_size n h is small few t e) (is_least a b) = absurd (least-small n (sym a ∙ is) small)
behind_one nodes v number rest f g (is_size n h is small few t e) (is_over c d k) = absurd (over-small nodes n v is d few)
behind_one nodes v number rest f g (is_size n h is small few t e) (is_size m i its less fewer u k) =
    e ∙ ap (λ (j : ReadFault). behind (length number) j) (size-one_fault rest h i t u) ∙ sym k

count_first : (nodes : ℕ) (bytes : List ℕ) (f g : ReadFault) → LongBreaks bytes f → HeadBreaks nodes bytes g → f ≡ g
count_first nodes bytes f g b (count_fails d) = long_part.one_fault bytes f g b d
count_first nodes bytes f g b (count_least m r t) = absurd (no_long_fault (negsuc (2 ^ 63 - 1)) bytes m r f t b)
count_first nodes bytes f g b (count_over w m r t other over) = absurd (no_long_fault w bytes m r f t b)
count_first nodes bytes f g b (size_fails n m t small few d) = absurd (no_long_fault (negsuc n) bytes m d.rest f (spelled-starts n bytes m d.rest t small d.split) b)
count_first nodes bytes f g b (size_negative n k m size after more t small few split u) = absurd (no_long_fault (negsuc n) bytes m after f (spelled-starts n bytes m after t small split) b)

one_behind : (nodes : ℕ) (v : ℤ) (bytes number rest : List ℕ) (f g : ReadFault) → StartsWithLong v bytes number rest → HeadBreaks nodes bytes f → HeadBreaks nodes bytes g → f ≡ g
one_behind nodes v bytes number rest f g s b d = behind_one nodes v number rest f g (behind_count nodes v bytes number rest f s b) (behind_count nodes v bytes number rest g s d)

head-one_fault : (nodes : ℕ) (bytes : List ℕ) (f g : ReadFault) → HeadBreaks nodes bytes f → HeadBreaks nodes bytes g → f ≡ g
head-one_fault nodes bytes f g (count_fails b) d = count_first nodes bytes f g b d
head-one_fault nodes bytes f g (count_least m r t) d = one_behind nodes (negsuc (2 ^ 63 - 1)) bytes m r f g t (count_least m r t) d
head-one_fault nodes bytes f g (count_over w m r t other over) d = one_behind nodes w bytes m r f g t (count_over w m r t other over) d
head-one_fault nodes bytes f g (size_fails n m t small few b) d =
    one_behind nodes (negsuc n) bytes m b.rest f g (spelled-starts n bytes m b.rest t small b.split) (size_fails n m t small few b) d
head-one_fault nodes bytes f g (size_negative n k m size after more t small few split u) d =
    one_behind nodes (negsuc n) bytes m after f g (spelled-starts n bytes m after t small split) (size_negative n k m size after more t small few split u) d

-- the count of a head, its bytes, and what follows it in the head
abbrev head_count_is : Option Head → ℤ
head_count_is None = pos 0
head_count_is (Some (counted count count_bytes)) = pos count
head_count_is (Some (sized count size count_bytes size_bytes)) = neg_ℤ (pos count)

abbrev head_count_bytes : Option Head → List ℕ → List ℕ
head_count_bytes None front = front
head_count_bytes (Some (counted count count_bytes)) front = count_bytes
head_count_bytes (Some (sized count size count_bytes size_bytes)) front = count_bytes

abbrev head_size_bytes : Option Head → List ℕ
head_size_bytes None = []
head_size_bytes (Some (counted count count_bytes)) = []
head_size_bytes (Some (sized count size count_bytes size_bytes)) = size_bytes

long_negated : (n : ℕ) → n < 2 ^ 63 → is_long (neg_ℤ (pos n)) ≡ true
long_negated zero h = refl
long_negated (suc n) h = search (rules, tests)

head_starts : (nodes : ℕ) (head : Option Head) (front rest : List ℕ) → IsHeadOrEnd nodes head front
    → StartsWithLong (head_count_is head) (front ++ rest) (head_count_bytes head front) (head_size_bytes head ++ rest)
head_starts nodes None front rest p = record { spelled = p; in_range = refl; split = refl }
head_starts nodes (Some (counted count count_bytes)) front rest p = record {
  spelled = p.0.3;
  in_range = long_count count p.0.1;
  split = ap (λ (k : List ℕ). k ++ rest) p.1;
}
head_starts nodes (Some (sized count size count_bytes size_bytes)) front rest p = record {
  spelled = p.0.4;
  in_range = long_negated count p.0.1;
  split = ap (λ (k : List ℕ). k ++ rest) p.1 ∙ append_assoc count_bytes size_bytes rest;
}

pub negated : (n : ℕ) → 0 < n → (k : ℕ) × (n ≡ suc k) × (neg_ℤ (pos n) ≡ negsuc k)
negated zero h = absurd (omega arith)
negated (suc k) h = (k, refl, refl)

behind-excludes : (nodes : ℕ) (head : Option Head) (front rest : List ℕ) (f : ReadFault) → IsHeadOrEnd nodes head front
    → BehindCount nodes (head_count_is head) (head_count_bytes head front) (head_size_bytes head ++ rest) f → ⊥
behind-excludes nodes None front rest f p (is_least a b) = cc
behind-excludes nodes None front rest f p (is_over c d e) = omega arith
behind-excludes nodes None front rest f p (is_size n h is small few t e) = cc
behind-excludes nodes (Some (counted count count_bytes)) front rest f p (is_least a b) = cc
behind-excludes nodes (Some (counted count count_bytes)) front rest f p (is_over c d e) = let few = p.0.2 in omega arith
behind-excludes nodes (Some (counted count count_bytes)) front rest f p (is_size n h is small few t e) = cc
behind-excludes nodes (Some (sized count size count_bytes size_bytes)) front rest f p (is_least a b) =
    let k = negated count p.0.0 in let few = p.0.1 in
    let same = k.1 in least-small k.0 (sym a ∙ k.2) (omega arith)
behind-excludes nodes (Some (sized count size count_bytes size_bytes)) front rest f p (is_over c d e) =
    let k = negated count p.0.0 in let few = p.0.2 in let same = k.1 in
    over-small nodes k.0 (neg_ℤ (pos count)) k.2 d (omega arith)
behind-excludes nodes (Some (sized count size count_bytes size_bytes)) front rest f p (is_size n h is small few t e) =
    size-excludes size (size_bytes ++ rest) size_bytes rest h (record { spelled = p.0.5; in_range = long_count size p.0.3; split = refl }) t

head-excludes : (nodes : ℕ) (head : Option Head) (front rest : List ℕ) (f : ReadFault) → IsHeadOrEnd nodes head front → HeadBreaks nodes (front ++ rest) f → ⊥
head-excludes nodes head front rest f p b =
    behind-excludes nodes head front rest f p
    (behind_count nodes (head_count_is head) (front ++ rest) (head_count_bytes head front) (head_size_bytes head ++ rest) f (head_starts nodes head front rest p) b)

module _ (nodes : ℕ) where
  -- heads of one count
  heads_alike : (v w : Option Head) (a b x y : List ℕ) → IsHeadOrEnd nodes v a → IsHeadOrEnd nodes w b
      → (head_count_bytes v a ≡ head_count_bytes w b) → (head_count_is v ≡ head_count_is w) → (head_size_bytes v ++ x ≡ head_size_bytes w ++ y) → (a ≡ b) × (v ≡ w)
  heads_alike None None a b x y p q same count rest = (same, refl)
  heads_alike None (Some (counted n number)) a b x y p q same count rest = let some = q.0.0 in let zero_is : 0 ≡ n = cc in absurd (omega arith)
  heads_alike None (Some (sized n size number bytes)) a b x y p q same count rest = let k = negated n q.0.0 in let e = count ∙ k.2 in absurd cc
  heads_alike (Some (counted m number)) None a b x y p q same count rest = let some = p.0.0 in let zero_is : m ≡ 0 = cc in absurd (omega arith)
  heads_alike (Some (counted m number)) (Some (counted n other)) a b x y p q same count rest = let number_is : m ≡ n = cc in (p.1 ∙ same ∙ sym q.1, cc)
  heads_alike (Some (counted m number)) (Some (sized n size other bytes)) a b x y p q same count rest = let k = negated n q.0.0 in let e = count ∙ k.2 in absurd cc
  heads_alike (Some (sized m size number bytes)) None a b x y p q same count rest = let k = negated m p.0.0 in let e = sym k.2 ∙ count in absurd cc
  heads_alike (Some (sized m size number bytes)) (Some (counted n other)) a b x y p q same count rest = let k = negated m p.0.0 in let e = sym k.2 ∙ count in absurd cc
  heads_alike (Some (sized m size number bytes)) (Some (sized n its other its_bytes)) a b x y p q same count rest =
      let j = negated m p.0.0 in
      let k = negated n q.0.0 in
      let e : negsuc j.0 ≡ negsuc k.0 = sym j.2 ∙ count ∙ k.2 in
      let less : j.0 ≡ k.0 = cc in
      let counts : m ≡ n = j.1 ∙ ap (λ (i : ℕ). suc i) less ∙ sym k.1 in
      let sizes = one_spelling_lem (pos size) (pos its) bytes its_bytes x y p.0.5 q.0.5 rest in
      let size_is = sizes.1 in
      let bytes_are = sizes.0 in
      let size_number : size ≡ its = cc in
      (p.1 ∙ (λ i. same i ++ bytes_are i) ∙ sym q.1, cc)

  head-one : (v w : Option Head) (a b x y : List ℕ) → IsHeadOrEnd nodes v a → IsHeadOrEnd nodes w b → a ++ x ≡ b ++ y → (a ≡ b) × (v ≡ w)
  head-one v w a b x y p q e =
      let left = head_starts nodes v a x p in
      let right = subst (λ (k : List ℕ). StartsWithLong (head_count_is w) k (head_count_bytes w b) (head_size_bytes w ++ y)) (sym e) (head_starts nodes w b y q) in
      let same = head_same (head_count_is v) (head_count_is w) (a ++ x) (head_count_bytes v a) (head_count_bytes w b) (head_size_bytes v ++ x) (head_size_bytes w ++ y) left right in
      heads_alike v w a b x y p q same.0 same.1 same.2

  pub head_part : IsPart (IsHeadOrEnd nodes) (HeadBreaks nodes)
  head_part = record { one = head-one; excludes = head-excludes nodes; one_fault = head-one_fault nodes }

-- a head that is at the front is returned
pub head_found : (before after : CursorValue) (head : Option Head) (block : Option Block) (front : List ℕ) → IsHeadOrEnd before.nodes head front
    → Passes before front after → IsBlockOrEnd before.offset head block → ReadsHead before after (Ok block)
head_found before after head block front is passes answer = record {
  found = (head, front, is, passes, answer);
  stands = λ other its_front rest other_is split.
      let same = (head_part before.nodes).one other head its_front front rest after.bytes other_is is (sym split ∙ passes.split) in
      (subst (λ (h : Option Head). IsBlockOrEnd before.offset h block) (sym same.1) answer, subst (λ (bytes : List ℕ). Passes before bytes after) (sym same.0) passes);
  refused = tt;
  breaks = λ f b. (head_part before.nodes).excludes head front after.bytes f is (subst (λ (bytes : List ℕ). HeadBreaks before.nodes bytes f) passes.split b);
  unchanged = tt;
}

-- a fault at the front is reported
pub head_refused : (before : CursorValue) (e : ReadError) (f : ReadFault) → HeadBreaks before.nodes before.bytes f → read_fault e ≡ Some (behind before.offset f)
    → ReadsHead before before (Err e)
head_refused before e f b reports = record {
  found = tt;
  stands = λ head front rest is split. absurd ((head_part before.nodes).excludes head front rest f is (subst (λ (bytes : List ℕ). HeadBreaks before.nodes bytes f) split b));
  refused = (f, b, reports);
  breaks = λ g other. reports ∙ ap (λ (h : ReadFault). Some (behind before.offset h)) ((head_part before.nodes).one_fault before.bytes f g b other);
  unchanged = refl;
}

-- a front, and then another
pub take_both : (len both : ℕ) (bytes : List ℕ) → len ≤ both → take both bytes ≡ take len bytes ++ take (both - len) (drop len bytes)
take_both len both bytes h =
    let sum : both ≡ len + (both - len) = omega arith in
    ap (λ (n : ℕ). take n bytes) sum ∙ take-add len (both - len) bytes

-- a long that is a natural number
pub long-below : (n : ℕ) → is_long (pos n) ≡ true → n < 2 ^ 63
long-below n h = omega (arith, is_long-zigzag (pos n) h)

module _ (nodes : ℕ) (bytes : List ℕ) where
  -- the least count of all
  pub least_count : (v : ℤ) (number rest : List ℕ) → StartsWithLong v bytes number rest → v ≡ negsuc (2 ^ 63 - 1) → HeadBreaks nodes bytes (invalid_length 0)
  least_count v number rest s is = count_least number rest (subst (λ (w : ℤ). StartsWithLong w bytes number rest) is s)

  -- a size below 0, after a count
  pub size_below : (n len : ℕ) (v : ℤ) (size rest : List ℕ) → SpellsLong (negsuc n) (take len bytes) → suc n < 2 ^ 63 → n < nodes
      → StartsWithLong v (drop len bytes) size rest → v <ℤ pos 0 → HeadBreaks nodes bytes (invalid_length (length (take len bytes)))
  size_below n len (negsuc m) size rest s small few starts h = size_negative n m (take len bytes) size (drop len bytes) rest s small few (sym (take-append-drop len bytes)) starts
  size_below n len (pos m) size rest s small few starts h = absurd (omega (arith, ints))

  -- a size that fails, after a count
  pub size_failed : (n len : ℕ) (f : ReadFault) → SpellsLong (negsuc n) (take len bytes) → suc n < 2 ^ 63 → n < nodes → LongBreaks (drop len bytes) f
      → HeadBreaks nodes bytes (behind (length (take len bytes)) f)
  size_failed n len f s small few b =
      size_fails n (take len bytes) s small few (record { rest = drop len bytes; fault = f; split = sym (take-append-drop len bytes); breaks = b; moved = refl })
