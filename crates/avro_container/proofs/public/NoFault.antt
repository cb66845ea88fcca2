-- A block within the limits has no fault.
use Rattle.std.proofs.Common.{◌≡◌, ◌≢◌, ℕ, ◌+◌, ◌<◌, ◌≤◌, ℤ, pos, negsuc, true, List, [], ◌∷◌, ◌++◌, length, take, drop, Ok, Err, refl, sym, ap, subst, ◌∙◌, ⊎_elim, arith, append_assoc, append-nil, length-append}
use Rattle.std.specs.List.{concat}
use Rattle.std.proofs.lemmas.Bool.{and_parts}
use Rattle.avro_zigzag.specs.NumberFault.{LongFails, ends, too_large}
use Rattle.avro_zigzag.specs.declared.VarError.{VarError}
use Rattle.avro_zigzag.specs.declared.VarError.TheVariants.{EndOfInput}
use Rattle.avro_zigzag.proofs.public.Faults.{long-excludes_fault}
use Rattle.avro_zigzag.proofs.public.Spelling.{one_spelling_lem}
use Rattle.avro_schema.specs.Value.{Value, Values, no_values, value, values_count}
use Rattle.avro_schema.specs.Node.{Node, root_of}
use Rattle.avro_schema.specs.Fits.{fits, each_fits, is_within}
use Rattle.avro_schema.specs.WellFormed.{is_schema}
use Rattle.avro_cursor.specs.Breaks.{StartsWithLong}
use Rattle.avro_cursor.specs.Elements.{IsLong}
use Rattle.avro_cursor.specs.Encoding.{EachSpelled, Encodes, plain, plain_values}
use Rattle.avro_cursor.proofs.public.Fronts.{same_behind, same_from_pos, same_front}
use Rattle.avro_compare.specs.Fault.{ResolutionFault}
use Rattle.avro_compare.specs.Resolve.{Resolved}
use Rattle.avro_file.specs.BlockFails.{BlockBegins, BlockFails, BlockReading, CountFails, CountIsCut, DataAreWhole, DataFail, DatumStands, IsNotTooMuch, each_within, max_blocks}
use Rattle.avro_file.specs.BlockStands.{BlockStands}
use Rattle.avro_file.specs.Copied.{EachResolved}
use Rattle.avro_file.specs.File.{HeaderValue, IsBlock, IsHeader}
use Rattle.avro_file.specs.FileFault.{BlockFault, CountFault}
use Rattle.avro_file.proofs.public.Known.{Prefix}
use Rattle.avro_file.proofs.public.OneFile.{block_spread}
use Rattle.avro_container.specs.Steps.{IsBlockWithin}
use Rattle.avro_container.proofs.ResolvedData.{same_ok}
use Rattle.avro_container.proofs.public.Known.{DeclaredIsSchema, FaultOrWithin}

-- ---- Its count and its size

-- a fault that is no missing byte stays, whatever follows
fails-longer : (bytes more : List ℕ) (e : VarError) → LongFails bytes e → e ≢ EndOfInput → LongFails (bytes ++ more) e
fails-longer bytes more _ (ends go short) other = absurd (other refl)
fails-longer bytes more _ (too_large front rest b is go last above) other =
    too_large front (rest ++ more) b (ap (λ (q : List ℕ). q ++ more) is ∙ append_assoc front (b ∷ rest) more) go last above

starts-longer : (v : ℤ) (bytes number rest more : List ℕ) → StartsWithLong v bytes number rest → bytes ++ more ≡ number ++ (rest ++ more)
starts-longer v bytes number rest more s = ap (λ (q : List ℕ). q ++ more) s.split ∙ append_assoc number rest more

-- the number at the front is this one
number-told : (v w : ℤ) (bytes number rest more front later : List ℕ) → StartsWithLong v bytes number rest → IsLong w front → bytes ++ more ≡ front ++ later
    → (v ≡ w) × (rest ++ more ≡ later)
number-told v w bytes number rest more front later s t e =
    let joined : number ++ (rest ++ more) ≡ front ++ later = sym (starts-longer v bytes number rest more s) ∙ e in
    let told = one_spelling_lem v w number front (rest ++ more) later s.spelled t.1 joined in
    (told.1, same_behind number front (rest ++ more) later told.0 joined)

not_negative : (k n : ℕ) → negsuc k ≡ pos n → ⊥
not_negative k n e = cc

count-none : (n : ℕ) (front later bytes more : List ℕ) (f : CountFault) → IsLong (pos n) front → bytes ++ more ≡ front ++ later → CountFails bytes f → ⊥
count-none n front later bytes more _ t e (CountFails.number_fails fault fails other) =
    long-excludes_fault (pos n) (bytes ++ more) front later fault t.0 t.1 e (fails-longer bytes more fault fails other)
count-none n front later bytes more _ t e (CountFails.is_negative k number rest s) =
    not_negative k n (number-told (negsuc k) (pos n) bytes number rest more front later s t e).0

-- nothing follows
whole-of : (bytes more : List ℕ) → more ≡ [] → bytes ≡ bytes ++ more
whole-of bytes more e = sym (append-nil bytes) ∙ ap (λ (q : List ℕ). bytes ++ q) (sym e)

cut-none : (n : ℕ) (front later bytes more : List ℕ) → IsLong (pos n) front → bytes ++ more ≡ front ++ later → more ≡ [] → CountIsCut bytes → ⊥
cut-none n front later bytes more t e none fails =
    long-excludes_fault (pos n) bytes front later EndOfInput t.0 t.1 (whole-of bytes more none ∙ e) fails

-- ---- Its data

-- after the data that were made of the first ones stands the next, which is within the limits and resolves
record Follows (r : BlockReading) (made us : Values) (behind : List ℕ) : Type 0 where
  pub v : Value
  pub u : Value
  pub bytes : List ℕ
  pub rest : List ℕ
  pub encoded : Encodes r.nodes (root_of r.nodes) v bytes
  pub within : is_within r.limits.datum v ≡ true
  pub resolved : r.resolve v ≡ Ok u
  pub split : behind ≡ bytes ++ rest
  pub few : length (plain_values made) + length (plain u) ≤ length (plain_values us)

first-length : (u : Value) (us all : Values) → all ≡ value u us → length (plain_values all) ≡ length (plain u) + length (plain_values us)
first-length u us all e = ap (λ (q : Values). length (plain_values q)) e ∙ length-append (plain u) (plain_values us)

follows : Prefix → (r : BlockReading) (vs us ws made : Values) (items others : List (List ℕ)) (behind : List ℕ) → values_count ws < values_count vs
    → each_fits r.nodes (root_of r.nodes) vs ≡ true → each_within r.limits.datum vs ≡ true → EachSpelled vs items → EachResolved r.resolve vs us
    → each_fits r.nodes (root_of r.nodes) ws ≡ true → EachSpelled ws others → EachResolved r.resolve ws made
    → concat items ≡ concat others ++ behind → Follows r made us behind
follows prefix r no_values us ws made items others behind fewer f w s m g t n e = absurd (omega arith)
follows prefix r (value v vs) us no_values made items others behind fewer f w (x, xs, s, ss, is) (u, us', m, ms, are) g t n e =
    let fit = and_parts (fits r.nodes (root_of r.nodes) v) (each_fits r.nodes (root_of r.nodes) vs) f in
    let inside = and_parts (is_within r.limits.datum v) (each_within r.limits.datum vs) w in
    let none : length (plain_values made) ≡ 0 = ap (λ (q : Values). length (plain_values q)) n in
    let all = first-length u us' us are in
    record {
      v = v;
      u = u;
      bytes = x;
      rest = concat xs;
      encoded = record { fitting = fit.0; spelled = s };
      within = inside.0;
      resolved = m;
      split = sym (e ∙ ap (λ (q : List (List ℕ)). concat q ++ behind) t) ∙ ap concat is;
      few = omega (arith, none, all);
    }
follows prefix r (value v vs) us (value w ws) made items others behind fewer f i (x, xs, s, ss, is) (u, us', m, ms, are) g (y, ys, t, ts, js) (o, os, n, ns, ones) e =
    let fit = and_parts (fits r.nodes (root_of r.nodes) v) (each_fits r.nodes (root_of r.nodes) vs) f in
    let fit' = and_parts (fits r.nodes (root_of r.nodes) w) (each_fits r.nodes (root_of r.nodes) ws) g in
    let inside = and_parts (is_within r.limits.datum v) (each_within r.limits.datum vs) i in
    let joined : x ++ concat xs ≡ y ++ (concat ys ++ behind) =
    sym (ap concat is) ∙ e ∙ ap (λ (q : List (List ℕ)). concat q ++ behind) js ∙ append_assoc y (concat ys) behind in
    let told = prefix r.nodes (root_of r.nodes) v w x y (concat xs) (concat ys ++ behind) (record { fitting = fit.0; spelled = s }) (record { fitting = fit'.0; spelled = t }) joined in
    let tail = same_behind x y (concat xs) (concat ys ++ behind) told.0 joined in
    let counts : values_count ws < values_count vs = omega arith in
    let next = follows prefix r vs us' ws os xs ys behind counts fit.1 inside.1 ss ms fit'.1 ts ns tail in
    let same : o ≡ u = same_ok o u (sym n ∙ ap r.resolve (sym told.1) ∙ m) in
    let first = ap (λ (q : Value). length (plain q)) same in
    let mine = first-length o os made ones in
    let all = first-length u us' us are in
    let few = next.few in
    record {
      v = next.v;
      u = next.u;
      bytes = next.bytes;
      rest = next.rest;
      encoded = next.encoded;
      within = next.within;
      resolved = next.resolved;
      split = next.split;
      few = omega (arith, first, mine, all, few);
    }

-- nothing stands behind all of them
ends-all : Prefix → (nodes : List Node) (vs ws : Values) (items others : List (List ℕ)) (behind : List ℕ) → values_count ws ≡ values_count vs
    → each_fits nodes (root_of nodes) vs ≡ true → EachSpelled vs items → each_fits nodes (root_of nodes) ws ≡ true → EachSpelled ws others
    → concat items ≡ concat others ++ behind → behind ≡ []
ends-all prefix nodes no_values no_values items others behind n f s g t e =
    sym (sym (ap concat s) ∙ e ∙ ap (λ (q : List (List ℕ)). concat q ++ behind) t)
ends-all prefix nodes no_values (value w ws) items others behind n f s g t e = absurd (omega arith)
ends-all prefix nodes (value v vs) no_values items others behind n f s g t e = absurd (omega arith)
ends-all prefix nodes (value v vs) (value w ws) items others behind n f (x, xs, s, ss, is) g (y, ys, t, ts, js) e =
    let fit = and_parts (fits nodes (root_of nodes) v) (each_fits nodes (root_of nodes) vs) f in
    let fit' = and_parts (fits nodes (root_of nodes) w) (each_fits nodes (root_of nodes) ws) g in
    let joined : x ++ concat xs ≡ y ++ (concat ys ++ behind) =
    sym (ap concat is) ∙ e ∙ ap (λ (q : List (List ℕ)). concat q ++ behind) js ∙ append_assoc y (concat ys) behind in
    let told = prefix nodes (root_of nodes) v w x y (concat xs) (concat ys ++ behind) (record { fitting = fit.0; spelled = s }) (record { fitting = fit'.0; spelled = t }) joined in
    let counts : values_count ws ≡ values_count vs = omega arith in
    ends-all prefix nodes vs ws xs ys behind counts fit.1 ss fit'.1 ts (same_behind x y (concat xs) (concat ys ++ behind) told.0 joined)

ok_not_err : (u : Value) (f : ResolutionFault) → ◌≡◌ {A = Resolved} (Ok u) (Err f) → ⊥
ok_not_err u f q = cc

-- the data of a block: within the limits, made into these, as these bytes
record DataStand (r : BlockReading) (count : ℕ) (body : List ℕ) : Type 0 where
  pub values : Values
  pub made : Values
  pub items : List (List ℕ)
  pub counted : values_count values ≡ count
  pub fitting : each_fits r.nodes (root_of r.nodes) values ≡ true
  pub within : each_within r.limits.datum values ≡ true
  pub spelled : EachSpelled values items
  pub resolved : EachResolved r.resolve values made
  pub small : IsNotTooMuch r (plain_values made)
  pub body_is : body ≡ concat items

-- what stands after the first of them
next_of : Prefix → (r : BlockReading) (count : ℕ) (body : List ℕ) (s : DataStand r count body) (m : ℕ) (front behind : List ℕ) (us : Values) → m < count
    → DataAreWhole r m front us → body ≡ front ++ behind → Follows r us s.made behind
next_of prefix r count body s m front behind us few whole e =
    let mine = s.counted in
    let its = whole.counted in
    follows prefix r s.values s.made whole.values us s.items whole.items behind (omega arith) s.fitting s.within s.spelled s.resolved whole.fitting whole.spelled whole.resolved
    (sym s.body_is ∙ e ∙ ap (λ (q : List ℕ). q ++ behind) whole.bytes_are)

-- that a datum stands there tells which
same_next : Prefix → (r : BlockReading) (us made : Values) (body front : List ℕ) (v : Value) → (d : DatumStands r front body v)
    → (n : Follows r us made (d.bytes ++ d.rest)) → n.v ≡ v
same_next prefix r us made body front v d n = (prefix r.nodes (root_of r.nodes) n.v v n.bytes d.bytes n.rest d.rest n.encoded d.encoded (sym n.split)).1

behind_front : (r : BlockReading) (front body : List ℕ) (v : Value) → (d : DatumStands r front body v) → body ≡ front ++ (d.bytes ++ d.rest)
behind_front r front body v d = d.split ∙ append_assoc front d.bytes d.rest

data-none : Prefix → FaultOrWithin → (r : BlockReading) (count : ℕ) (body : List ℕ) (f : BlockFault) → is_schema r.nodes ≡ true → DataStand r count body
    → DataFail r count body f → ⊥
data-none prefix none r count body f formed s (DataFail.datum_breaks m front us fault few whole breaks is) =
    let next = next_of prefix r count body s m front breaks.rest us few whole breaks.split in
    none r.nodes r.limits.datum 0 breaks.rest breaks.fault next.v next.bytes next.rest formed breaks.breaks next.encoded next.within next.split
data-none prefix none r count body f formed s (DataFail.datum_unresolved m front us v fault few whole stands fails) =
    let next = next_of prefix r count body s m front (stands.bytes ++ stands.rest) us few whole (behind_front r front body v stands) in
    let same = same_next prefix r us s.made body front v stands next in
    ok_not_err next.u fault (sym next.resolved ∙ ap r.resolve same ∙ fails)
data-none prefix none r count body f formed s (DataFail.too_much m front us v u few whole stands made much) =
    let next = next_of prefix r count body s m front (stands.bytes ++ stands.rest) us few whole (behind_front r front body v stands) in
    let same = same_next prefix r us s.made body front v stands next in
    let one : u ≡ next.u = same_ok u next.u (sym made ∙ ap r.resolve (sym same) ∙ next.resolved) in
    let first = ap (λ (q : Value). length (plain q)) one in
    let sum = length-append (plain_values us) (plain u) in
    let over = much.1 in
    let small = s.small much.0 in
    let fits_in = next.few in
    omega (arith, first, sum, over, small, fits_in)
data-none prefix none r count body f formed s (DataFail.some_left front rest us whole split some) =
    let mine = s.counted in
    let its = whole.counted in
    let nothing = ends-all prefix r.nodes s.values whole.values s.items whole.items rest (omega arith) s.fitting s.spelled whole.fitting whole.spelled
    (sym s.body_is ∙ split ∙ ap (λ (q : List ℕ). q ++ rest) whole.bytes_are) in
    let length_is = ap length nothing in
    omega (arith, length_is, some)

-- ---- The block

take_front : (a rest more later : List ℕ) → length a ≤ length rest → rest ++ more ≡ a ++ later → take (length a) rest ≡ a
take_front [] rest more later short e = refl
take_front (x ∷ a) [] more later short e = absurd (omega arith)
take_front (x ∷ a) (y ∷ rest) more later short e =
    let tail : rest ++ more ≡ a ++ later = cc in
    let first : y ≡ x = cc in
    let inner = take_front a rest more later (omega arith) tail in cc

take_middle : (a b rest more later : List ℕ) → length a + length b ≤ length rest → rest ++ more ≡ a ++ (b ++ later) → take (length b) (drop (length a) rest) ≡ b
take_middle [] b rest more later short e = take_front b rest more later (omega arith) e
take_middle (x ∷ a) b [] more later short e = absurd (omega arith)
take_middle (x ∷ a) b (y ∷ rest) more later short e =
    let tail : rest ++ more ≡ a ++ (b ++ later) = cc in
    take_middle a b rest more later (omega arith) tail

-- the block after its count, and after its size
behind_block : (h : HeaderValue) (vs : Values) (block later bytes more : List ℕ) → (s : IsBlock h vs block) → bytes ++ more ≡ block ++ later
    → bytes ++ more ≡ s.count ++ (s.size ++ (concat s.items ++ (h.sync ++ later)))
behind_block h vs block later bytes more s e = e ∙ block_spread block s.count s.size (concat s.items) h.sync later s.split

behind_count : (h : HeaderValue) (vs : Values) (block later bytes more : List ℕ) (n : ℕ) (number rest : List ℕ) → (s : IsBlock h vs block) → bytes ++ more ≡ block ++ later
    → StartsWithLong (pos n) bytes number rest → (n ≡ values_count vs) × (rest ++ more ≡ s.size ++ (concat s.items ++ (h.sync ++ later)))
behind_count h vs block later bytes more n number rest s e starts =
    let told = number-told (pos n) (pos (values_count vs)) bytes number rest more s.count (s.size ++ (concat s.items ++ (h.sync ++ later))) starts s.counted
    (behind_block h vs block later bytes more s e) in
    (same_from_pos n (values_count vs) told.0, told.1)

-- the block that stands there begins as it does
begins-told : (h : HeaderValue) (vs : Values) (block later bytes more : List ℕ) (count size : ℕ) (rest : List ℕ) → (s : IsBlock h vs block) → bytes ++ more ≡ block ++ later
    → BlockBegins bytes count size rest → (count ≡ values_count vs) × (size ≡ length (concat s.items)) × (rest ++ more ≡ concat s.items ++ (h.sync ++ later))
begins-told h vs block later bytes more count size rest s e b =
    let counts = behind_count h vs block later bytes more count b.count_bytes b.behind_count s e b.counted in
    let sizes = number-told (pos size) (pos (length (concat s.items))) b.behind_count b.size_bytes rest more s.size (concat s.items ++ (h.sync ++ later)) b.sized s.sized counts.1 in
    (counts.0, same_from_pos size (length (concat s.items)) sizes.0, sizes.1)

below-none : (a b : ℕ) → a < b → b ≤ a → ⊥
below-none a b h g = omega arith

body-length : (body sync later rest : List ℕ) (size : ℕ) → length sync ≡ 16 → size ≡ length body → rest ≡ body ++ (sync ++ later) → size + 16 ≤ length rest
body-length body sync later rest size marker is e =
    let all = ap length e ∙ length-append body (sync ++ later) in
    let behind = length-append sync later in
    omega (arith, marker, is, all, behind)

marker-told : (body sync later rest more : List ℕ) (size : ℕ) → length sync ≡ 16 → size ≡ length body → rest ++ more ≡ body ++ (sync ++ later) → size + 16 ≤ length rest
    → take 16 (drop size rest) ≡ sync
marker-told body sync later rest more size marker is e room =
    let inside : length body + length sync ≤ length rest = omega (arith, marker, is, room) in
    (λ i. take (sym marker i) (drop (is i) rest)) ∙ take_middle body sync rest more later inside e

body-told : (body later rest more : List ℕ) (size : ℕ) → size ≡ length body → rest ++ more ≡ body ++ later → size + 16 ≤ length rest → take size rest ≡ body
body-told body later rest more size is e room =
    ap (λ (n : ℕ). take n rest) is ∙ take_front body rest more later (omega (arith, is, room)) e

-- its data stand in it
data-stand : (r : BlockReading) (h : HeaderValue) (vs us : Values) (block : List ℕ) (count : ℕ) (body : List ℕ) → r.nodes ≡ h.nodes → (w : IsBlockWithin r.limits h vs block)
    → EachResolved r.resolve vs us → IsNotTooMuch r (plain_values us) → count ≡ values_count vs → body ≡ concat w.is_block.items → DataStand r count body
data-stand r h vs us block count body nodes w made small counts are = record {
  values = vs;
  made = us;
  items = w.is_block.items;
  counted = sym counts;
  fitting = subst (λ (n : List Node). each_fits n (root_of n) vs ≡ true) (sym nodes) w.is_block.fitting;
  within = w.data_within;
  spelled = w.is_block.spelled;
  resolved = made;
  small = small;
  body_is = are;
}

block-none : Prefix → FaultOrWithin → (ended : Type 0) (r : BlockReading) (h : HeaderValue) (vs us : Values) (number : ℕ) (block bytes more later : List ℕ) (f : BlockFault)
    → is_schema r.nodes ≡ true → r.nodes ≡ h.nodes → r.sync ≡ h.sync → length h.sync ≡ 16 → (w : IsBlockWithin r.limits h vs block) → number < max_blocks
    → EachResolved r.resolve vs us → IsNotTooMuch r (plain_values us) → bytes ++ more ≡ block ++ later → (ended → more ≡ []) → BlockFails r number ended bytes f → ⊥
block-none prefix none ended r h vs us number block bytes more later f formed nodes sync marker w few made small e last (BlockFails.too_many_blocks past some) =
    below-none number max_blocks few past
block-none prefix none ended r h vs us number block bytes more later _ formed nodes sync marker w few made small e last (BlockFails.count_fails fewer fault) =
    let s = w.is_block in
    count-none (values_count vs) s.count (s.size ++ (concat s.items ++ (h.sync ++ later))) bytes more _ s.counted (behind_block h vs block later bytes more s e) fault
block-none prefix none ended r h vs us number block bytes more later f formed nodes sync marker w few made small e last (BlockFails.count_cut fewer some cut told) =
    let s = w.is_block in
    cut-none (values_count vs) s.count (s.size ++ (concat s.items ++ (h.sync ++ later))) bytes more s.counted (behind_block h vs block later bytes more s e) (last told) cut
block-none prefix none ended r h vs us number block bytes more later _ formed nodes sync marker w few made small e last (BlockFails.size_fails n count rest fewer starts fault) =
    let s = w.is_block in
    count-none (length (concat s.items)) s.size (concat s.items ++ (h.sync ++ later)) rest more _ s.sized (behind_count h vs block later bytes more n count rest s e starts).1 fault
block-none prefix none ended r h vs us number block bytes more later f formed nodes sync marker w few made small e last (BlockFails.size_cut n count rest fewer starts cut told) =
    let s = w.is_block in
    cut-none (length (concat s.items)) s.size (concat s.items ++ (h.sync ++ later)) rest more s.sized (behind_count h vs block later bytes more n count rest s e starts).1 (last told) cut
block-none prefix none ended r h vs us number block bytes more later f formed nodes sync marker w few made small e last (BlockFails.large count size rest fewer begins over) =
    let told = begins-told h vs block later bytes more count size rest w.is_block e begins in
    ⊎_elim (λ many. below-none r.limits.per_block count many (subst (λ (n : ℕ). n ≤ r.limits.per_block) (sym told.0) w.few))
    (λ large. below-none r.limits.block size large (subst (λ (n : ℕ). n ≤ r.limits.block) (sym told.1) w.short)) over
block-none prefix none ended r h vs us number block bytes more later f formed nodes sync marker w few made small e last (BlockFails.cut count size rest fewer begins most short lacks told) =
    let it = begins-told h vs block later bytes more count size rest w.is_block e begins in
    below-none (length rest) (size + 16) lacks (body-length (concat w.is_block.items) h.sync later rest size marker it.1 (whole-of rest more (last told) ∙ it.2))
block-none prefix none ended r h vs us number block bytes more later f formed nodes sync marker w few made small e last (BlockFails.marker_differs count size rest fewer begins most short room differs) =
    let it = begins-told h vs block later bytes more count size rest w.is_block e begins in
    differs (marker-told (concat w.is_block.items) h.sync later rest more size marker it.1 it.2 room ∙ sym sync)
block-none prefix none ended r h vs us number block bytes more later f formed nodes sync marker w few made small e last (BlockFails.data_fail count size rest fewer begins most short room marked fault) =
    let it = begins-told h vs block later bytes more count size rest w.is_block e begins in
    let body = body-told (concat w.is_block.items) (h.sync ++ later) rest more size it.1 it.2 room in
    data-none prefix none r count (take size rest) f formed (data-stand r h vs us block count (take size rest) nodes w made small it.0 body) fault

pub block_has_no_fault_lem : Prefix → FaultOrWithin → DeclaredIsSchema → (ended : Type 0) (r : BlockReading) (h : HeaderValue) (vs us : Values) (number : ℕ)
    (front block bytes more later : List ℕ) (f : BlockFault) → IsHeader h front → r.nodes ≡ h.nodes → r.sync ≡ h.sync → IsBlockWithin r.limits h vs block
    → number < max_blocks → EachResolved r.resolve vs us → IsNotTooMuch r (plain_values us) → bytes ++ more ≡ block ++ later → (ended → more ≡ [])
    → BlockFails r number ended bytes f → ⊥
block_has_no_fault_lem prefix none declared ended r h vs us number front block bytes more later f is nodes sync w few made small e last fails =
    let d = is.declares in
    let formed = subst (λ (n : List Node). is_schema n ≡ true) (sym nodes) (declared d.0 h.nodes d.2) in
    block-none prefix none ended r h vs us number block bytes more later f formed nodes sync is.marker w few made small e last fails

-- the same of its data, where it was taken
pub data_have_no_fault_lem : Prefix → FaultOrWithin → DeclaredIsSchema → (r : BlockReading) (h : HeaderValue) (vs us : Values) (count : ℕ) (front bytes body : List ℕ)
    (f : BlockFault) → IsHeader h front → r.nodes ≡ h.nodes → IsBlockWithin r.limits h vs bytes → EachResolved r.resolve vs us → IsNotTooMuch r (plain_values us)
    → BlockStands r.limits h.sync count body bytes → DataFail r count body f → ⊥
data_have_no_fault_lem prefix none declared r h vs us count front bytes body f is nodes w made small stands fails =
    let d = is.declares in
    let formed = subst (λ (n : List Node). is_schema n ≡ true) (sym nodes) (declared d.0 h.nodes d.2) in
    let it = begins-told h vs bytes [] bytes [] count (length body) (body ++ h.sync) w.is_block refl stands.begins in
    let joined : body ++ (h.sync ++ []) ≡ concat w.is_block.items ++ (h.sync ++ []) = sym (append_assoc body h.sync []) ∙ it.2 in
    let same = same_front body (concat w.is_block.items) (h.sync ++ []) (h.sync ++ []) it.1 joined in
    data-none prefix none r count body f formed (data-stand r h vs us bytes count body nodes w made small it.0 same.0) fails
