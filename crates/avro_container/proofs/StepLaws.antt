-- Steps go together: what a run of them took and put.
use Rattle.std.proofs.Common.{◌≡◌, ℕ, ◌+◌, ◌≤◌, ◌<◌, List, [], ◌∷◌, ◌++◌, length, Option, Some, None, refl, sym, ap, subst, ◌∙◌, arith, append_assoc, append-nil, length-append, map}
use Rattle.std.specs.List.{sum}
use Rattle.std.proofs.lemmas.List.{map-append}
use Rattle.std.proofs.lemmas.List.Sums.{sum_by-cons}
use Rattle.avro_schema.specs.Value.{Value, Values, values_count}
use Rattle.avro_cursor.specs.Encoding.{plain_values}
use Rattle.avro_compare.specs.Resolve.{Resolved}
use Rattle.avro_file.specs.File.{HeaderValue, IsHeader, AreBlocks, IsFile}
use Rattle.avro_file.specs.FileFault.{FileFault}
use Rattle.avro_file.specs.Copied.{Job, EachResolved, copied_header, IsCopiedBlock, AreCopiedBlocks, IsCopied}
use Rattle.avro_file.specs.BlockFails.{FileLimitValues, BlockFails, max_blocks}
use Rattle.avro_file.specs.HeaderFails.{HeaderFails}
use Rattle.avro_container.specs.Steps.{Stored, HeaderStep, BlockStep, EndStep, IsBlockWithin, AreMadeWithin, PutsFront, HasFault, RefusedStep, Steps, Outcome, most_ahead, reading_of, total_data, AreBlocksWithin, BeginsWith, Done, Run, PutInAll, CopiedWhole, FaultStands, TakenAhead}
use Rattle.avro_container.proofs.ResolvedData.{same_made}

pub Some-same : {A : Type 0} {x y : A} (o : Option A) → o ≡ Some x → o ≡ Some y → x ≡ y
Some-same o p q = cc

pub None-Some : {A : Type 0} {x : A} (o : Option A) → o ≡ None → o ≡ Some x → ⊥
None-Some o p q = cc

-- four lists in a row
regrouped : (a b c d : List ℕ) → (a ++ b) ++ (c ++ d) ≡ (a ++ (b ++ c)) ++ d
regrouped a b c d = sym (append_assoc (a ++ b) c d) ∙ ap (λ front. front ++ d) (append_assoc a b c)

-- blocks within limits are blocks
AreBlocks-within : (limits : FileLimitValues) (h : HeaderValue) (blocks : List Values) (bytes : List ℕ) → AreBlocksWithin limits h blocks bytes
    → AreBlocks h blocks bytes
AreBlocks-within limits h [] bytes e = e
AreBlocks-within limits h (block ∷ blocks) bytes (first, rest, is, others, e) =
    (first, rest, is.is_block, AreBlocks-within limits h blocks rest others, e)

-- one block more
pub AreBlocksWithin-push : (limits : FileLimitValues) (h : HeaderValue) (blocks : List Values) (vs : Values) (bytes more : List ℕ)
    → AreBlocksWithin limits h blocks bytes → IsBlockWithin limits h vs more → AreBlocksWithin limits h (blocks ++ vs ∷ []) (bytes ++ more)
AreBlocksWithin-push limits h [] vs bytes more e b = (more, [], b, refl, ap (λ all. all ++ more) e ∙ sym (append-nil more))
AreBlocksWithin-push limits h (block ∷ blocks) vs bytes more (first, rest, is, others, e) b = (
  first,
  rest ++ more,
  is,
  AreBlocksWithin-push limits h blocks vs rest more others b,
  ap (λ all. all ++ more) e ∙ append_assoc first rest more,
)

AreCopiedBlocks-push : (job : Job) (h : HeaderValue) (blocks : List Values) (vs : Values) (bytes more : List ℕ) → AreCopiedBlocks job h blocks bytes
    → IsCopiedBlock job h vs more → AreCopiedBlocks job h (blocks ++ vs ∷ []) (bytes ++ more)
AreCopiedBlocks-push job h [] vs bytes more e b = (more, [], b, refl, ap (λ all. all ++ more) e ∙ sym (append-nil more))
AreCopiedBlocks-push job h (block ∷ blocks) vs bytes more (first, rest, is, others, e) b =
    (first, rest ++ more, is, AreCopiedBlocks-push job h blocks vs rest more others b, ap (λ all. all ++ more) e ∙ append_assoc first rest more)

IsCopied-push : (job : Job) (h : HeaderValue) (blocks : List Values) (vs : Values) (bytes more : List ℕ) → IsCopied job h blocks bytes
    → IsCopiedBlock job h vs more → IsCopied job h (blocks ++ vs ∷ []) (bytes ++ more)
IsCopied-push job h blocks vs bytes more (rest, copied, e) b = (
  rest ++ more,
  AreCopiedBlocks-push job h blocks vs rest more copied b,
  ap (λ all. all ++ more) e ∙ append_assoc (copied_header job h) rest more,
)

AreMadeWithin-push : (limit : ℕ) (resolve : Value → Resolved) (blocks : List Values) (vs us : Values) → AreMadeWithin limit resolve blocks
    → EachResolved resolve vs us → length (plain_values us) ≤ limit → AreMadeWithin limit resolve (blocks ++ vs ∷ [])
AreMadeWithin-push limit resolve [] vs us within made small =
    (λ ws other. subst (λ (w : Values). length (plain_values w) ≤ limit) (same_made resolve vs us ws made other) small, tt)
AreMadeWithin-push limit resolve (block ∷ blocks) vs us within made small = (within.0, AreMadeWithin-push limit resolve blocks vs us within.1 made small)

total_data-sum : (blocks : List Values) → total_data blocks ≡ sum (map values_count blocks)
total_data-sum [] = refl
total_data-sum (block ∷ blocks) = ap (λ n. values_count block + n) (total_data-sum blocks) ∙ sym (sum_by-cons (λ x. x) (values_count block) (map values_count blocks))

one-longer : (blocks : List Values) (vs : Values) → length (blocks ++ vs ∷ []) ≡ length blocks + 1
one-longer blocks vs = length-append blocks (vs ∷ [])

-- a header alone
BeginsWith-header : (limits : FileLimitValues) (h : HeaderValue) (header bytes rest : List ℕ) → IsHeader h header → length header ≤ limits.header
    → bytes ≡ header ++ rest → BeginsWith limits h [] bytes rest
BeginsWith-header limits h header bytes rest is within e = record {
  header_bytes = header;
  block_bytes = [];
  is_header = is;
  within = within;
  are_blocks = refl;
  few = omega arith;
  split = e ∙ ap (λ front. front ++ rest) (sym (append-nil header));
}

-- more bytes after them
BeginsWith-more : (limits : FileLimitValues) (h : HeaderValue) (blocks : List Values) (bytes rest more : List ℕ) → BeginsWith limits h blocks bytes rest
    → BeginsWith limits h blocks (bytes ++ more) (rest ++ more)
BeginsWith-more limits h blocks bytes rest more b = record {
  header_bytes = b.header_bytes;
  block_bytes = b.block_bytes;
  is_header = b.is_header;
  within = b.within;
  are_blocks = b.are_blocks;
  few = b.few;
  split = ap (λ front. front ++ more) b.split ∙ append_assoc (b.header_bytes ++ b.block_bytes) rest more;
}

-- one block more
BeginsWith-push : (limits : FileLimitValues) (h : HeaderValue) (blocks : List Values) (vs : Values) (bytes rest block after : List ℕ)
    → BeginsWith limits h blocks bytes rest → length blocks < max_blocks → IsBlockWithin limits h vs block → rest ≡ block ++ after
    → BeginsWith limits h (blocks ++ vs ∷ []) bytes after
BeginsWith-push limits h blocks vs bytes rest block after b room is e =
    let one = one-longer blocks vs in
    record {
      header_bytes = b.header_bytes;
      block_bytes = b.block_bytes ++ block;
      is_header = b.is_header;
      within = b.within;
      are_blocks = AreBlocksWithin-push limits h blocks vs b.block_bytes block b.are_blocks is;
      few = omega (arith, one, room);
      split = b.split ∙ ap (λ all. (b.header_bytes ++ b.block_bytes) ++ all) e ∙ regrouped b.header_bytes b.block_bytes block after;
    }

-- the header, from nothing
pub Done-header : (job : Job) (limits : FileLimitValues) (s t : Stored) (counts taken put more out : List ℕ) → Done job limits s counts taken put
    → HeaderStep job limits s t more out → Done job limits t counts (taken ++ more) (put ++ out)
Done-header job limits s t counts taken put more out (Done.none_yet none no_block zero whole nothing) step =
    Done.some step.header (record {
      blocks = [];
      header_is = step.kept;
      begins = BeginsWith-header limits step.header step.bytes (taken ++ more) t.ahead step.is_header step.within
          (ap (λ front. front ++ more) whole ∙ step.split);
      count = sym (step.count ∙ no_block);
      counts_are = sym zero;
      copied = ([], refl, ap (λ front. front ++ out) nothing ∙ step.copied ∙ sym (append-nil (copied_header job step.header)));
      small = tt;
    })
Done-header job limits s t counts taken put more out (Done.some h has) step = absurd (None-Some s.header step.none_before has.header_is)

-- one block more
pub Done-block : (job : Job) (limits : FileLimitValues) (s t : Stored) (counts : List ℕ) (n : ℕ) (taken put more out : List ℕ) → Done job limits s counts taken put
    → BlockStep job limits s t more out n → Done job limits t (counts ++ n ∷ []) (taken ++ more) (put ++ out)
Done-block job limits s t counts n taken put more out (Done.none_yet none no_block zero whole nothing) step = absurd (None-Some s.header none step.header_before)
Done-block job limits s t counts n taken put more out (Done.some h has) step =
    let same : step.header ≡ h = Some-same s.header step.header_before has.header_is in
    let block = subst (λ k. IsBlockWithin limits k step.values step.bytes) same step.is_block in
    let copy = subst (λ k. IsCopiedBlock job k step.values out) same step.copied in
    let longer = one-longer has.blocks step.values in
    let counted = has.count in
    let one = step.count in
    let room = step.few in
    Done.some h (record {
      blocks = has.blocks ++ step.values ∷ [];
      header_is = step.header_after ∙ ap Some same;
      begins = BeginsWith-push limits h has.blocks step.values (taken ++ more) (s.ahead ++ more) step.bytes t.ahead
          (BeginsWith-more limits h has.blocks taken s.ahead more has.begins) (omega (arith, counted, room)) block step.split;
      count = omega (arith, longer, counted, one);
      counts_are = map-append values_count has.blocks (step.values ∷ []) ∙ ap (λ front. front ++ values_count step.values ∷ []) has.counts_are
          ∙ ap (λ k. counts ++ k ∷ []) step.counted;
      copied = IsCopied-push job h has.blocks step.values put out has.copied copy;
      small = AreMadeWithin-push limits.block (job.resolve h.nodes) has.blocks step.values step.copied.0 has.small
          (subst (λ (k : HeaderValue). EachResolved (job.resolve k.nodes) step.values step.copied.0) same step.copied.1) step.small;
    })

-- any run of steps
pub Done-run : (job : Job) (limits : FileLimitValues) (s : Stored) (counts taken put : List ℕ) → Run job limits s counts taken put
    → Done job limits s counts taken put
Done-run job limits s counts taken put Run.begin = Done.none_yet refl refl refl refl refl
Done-run job limits s counts taken put (Run.header {s = before} {taken = t} {put = p} more out run step e f) =
    subst (λ a. Done job limits s counts a put) (sym e) (subst (λ b. Done job limits s counts (t ++ more) b) (sym f)
    (Done-header job limits before s counts t p more out (Done-run job limits before counts t p run) step))
Done-run job limits s counts taken put (Run.block {s = before} {counts = i} {taken = t} {put = p} n more out run step g e f) =
    subst (λ k. Done job limits s k taken put) (sym g) (subst (λ a. Done job limits s (i ++ n ∷ []) a put) (sym e) (subst (λ b. Done job limits s (i ++ n ∷ []) (t ++ more) b) (sym f)
    (Done-block job limits before s i n t p more out (Done-run job limits before i t p run) step)))

-- a file that is copied whole
pub IsFile-whole : (limits : FileLimitValues) (h : HeaderValue) (blocks : List Values) (bytes : List ℕ) → BeginsWith limits h blocks bytes []
    → IsFile h blocks bytes
IsFile-whole limits h blocks bytes b = record {
  header = b.header_bytes;
  rest = b.block_bytes;
  is_header = b.is_header;
  are_blocks = AreBlocks-within limits h blocks b.block_bytes b.are_blocks;
  split = b.split ∙ append-nil (b.header_bytes ++ b.block_bytes);
}

-- at the end the whole file was copied
pub CopiedWhole-end : (job : Job) (limits : FileLimitValues) (s t : Stored) (counts : List ℕ) (ended : Type 0) (taken put more out : List ℕ)
    → Done job limits s counts taken put → EndStep ended s t more out → CopiedWhole job limits ended (sum counts) s.blocks (taken ++ more) (put ++ out)
CopiedWhole-end job limits s t counts ended taken put more out (Done.none_yet none no_block zero whole nothing) step = absurd (None-Some s.header none step.header_before)
CopiedWhole-end job limits s t counts ended taken put more out (Done.some h has) step =
    let no_rest : s.ahead ++ more ≡ [] = ap (λ a. a ++ more) step.none_ahead ∙ step.none_taken in
    let put_are : put ++ out ≡ put = ap (λ m. put ++ m) step.none_put ∙ append-nil put in
    let within = subst (λ rest. BeginsWith limits h has.blocks (taken ++ more) rest) no_rest
    (BeginsWith-more limits h has.blocks taken s.ahead more has.begins) in
    record {
      header = h;
      blocks = has.blocks;
      is_file = IsFile-whole limits h has.blocks (taken ++ more) within;
      within = within;
      is_copy = subst (IsCopied job h has.blocks) (sym put_are) has.copied;
      small = has.small;
      items_are = total_data-sum has.blocks ∙ ap sum has.counts_are;
      blocks_are = has.count;
      is_end = step.is_told;
    }

-- what follows a front is no longer than the whole
rest-short : (all front rest : List ℕ) (most : ℕ) → all ≡ front ++ rest → length all ≤ most → length rest ≤ most
rest-short all front rest most e short =
    let sum : length all ≡ length front + length rest = ap length e ∙ length-append front rest in
    omega (arith, sum, short)

-- a refused step puts a front
PutInAll-front : (job : Job) (limits : FileLimitValues) (s : Stored) (counts taken put more out : List ℕ) → Done job limits s counts taken put
    → PutsFront job limits s more out → length (s.ahead ++ more) ≤ most_ahead limits → PutInAll job limits (taken ++ more) (put ++ out)
PutInAll-front job limits s counts taken put more out (Done.none_yet none no_block zero whole nothing) (PutsFront.nothing e) held =
    PutInAll.nothing (ap (λ front. front ++ out) nothing ∙ e)
    (subst (λ (all : List ℕ). length (all ++ more) ≤ most_ahead limits) (sym whole) held)
PutInAll-front job limits s counts taken put more out (Done.some h has) (PutsFront.nothing e) held =
    PutInAll.front h has.blocks (s.ahead ++ more) put [] (BeginsWith-more limits h has.blocks taken s.ahead more has.begins) held has.copied
    (sym (append-nil (put ++ out) ∙ ap (λ m. put ++ m) e ∙ append-nil put))
PutInAll-front job limits s counts taken put more out (Done.none_yet none no_block zero whole nothing) (PutsFront.of_header h bytes rest later is_none is within e f) held =
    PutInAll.front h [] rest (copied_header job h) later
    (BeginsWith-header limits h bytes (taken ++ more) rest is within (ap (λ front. front ++ more) whole ∙ e))
    (rest-short (s.ahead ++ more) bytes rest (most_ahead limits) e held) ([], refl, sym (append-nil (copied_header job h)))
    (f ∙ ap (λ front. (front ++ out) ++ later) (sym nothing))
PutInAll-front job limits s counts taken put more out (Done.some h has) (PutsFront.of_header k bytes rest later is_none is within e f) held =
    absurd (None-Some s.header is_none has.header_is)
PutInAll-front job limits s counts taken put more out (Done.none_yet none no_block zero whole nothing) (PutsFront.of_block h vs bytes rest copy later is_some room is e c f) held =
    absurd (None-Some s.header none is_some)
PutInAll-front job limits s counts taken put more out (Done.some h has) (PutsFront.of_block k vs bytes rest copy later is_some room is e c f) held =
    let same : k ≡ h = Some-same s.header is_some has.header_is in
    let block = subst (λ j. IsBlockWithin limits j vs bytes) same is in
    let copied = subst (λ j. IsCopiedBlock job j vs copy) same c in
    let counted = has.count in
    PutInAll.front h (has.blocks ++ vs ∷ []) rest (put ++ copy) later
    (BeginsWith-push limits h has.blocks vs (taken ++ more) (s.ahead ++ more) bytes rest
    (BeginsWith-more limits h has.blocks taken s.ahead more has.begins) (omega (arith, counted, room)) block e)
    (rest-short (s.ahead ++ more) bytes rest (most_ahead limits) e held)
    (IsCopied-push job h has.blocks vs put copy has.copied copied)
    (ap (λ all. put ++ all) f ∙ sym (append_assoc put out later))

pub PutInAll-refused : (job : Job) (limits : FileLimitValues) (ended : Type 0) (s t : Stored) (counts taken put more out : List ℕ) (fault : Option FileFault)
    → Done job limits s counts taken put → RefusedStep job limits ended s t more out fault → length (s.ahead ++ more) ≤ most_ahead limits
    → PutInAll job limits (taken ++ more) (put ++ out)
PutInAll-refused job limits ended s t counts taken put more out fault done step held =
    PutInAll-front job limits s counts taken put more out done step.refusal.puts held

-- what was copied whole is a front too
pub PutInAll-whole : (job : Job) (limits : FileLimitValues) (ended : Type 0) (items blocks : ℕ) (taken put : List ℕ)
    → CopiedWhole job limits ended items blocks taken put → PutInAll job limits taken put
PutInAll-whole job limits ended items blocks taken put w =
    PutInAll.front w.header w.blocks [] put [] w.within (omega arith) w.is_copy (sym (append-nil put))

-- a fault of a step stands after all that was copied before it
FaultStands-done : (job : Job) (limits : FileLimitValues) (s : Stored) (ended : Type 0) (counts taken put more out : List ℕ)
    (f : FileFault) → Done job limits s counts taken put → HasFault job limits ended s (s.ahead ++ more) f → out ≡ []
    → FaultStands job limits ended (taken ++ more) (put ++ out) f
FaultStands-done job limits s ended counts taken put more out f (Done.none_yet none no_block zero whole nothing) (HasFault.of_header {f = g} is_none fails) none_put =
    FaultStands.of_header (ap (λ p. p ++ out) nothing ∙ none_put)
    (subst (λ all. HeaderFails limits.header ended (all ++ more) g) (sym whole) fails)
FaultStands-done job limits s ended counts taken put more out f (Done.some h has) (HasFault.of_header is_none fails) none_put =
    absurd (None-Some s.header is_none has.header_is)
FaultStands-done job limits s ended counts taken put more out f (Done.none_yet none no_block zero whole nothing) (HasFault.of_block k is_some e fails) none_put =
    absurd (None-Some s.header none is_some)
FaultStands-done job limits s ended counts taken put more out f (Done.some h has) (HasFault.of_block {f = g} k is_some e fails) none_put =
    let same : k ≡ h = Some-same s.header is_some has.header_is in
    FaultStands.of_block h has.blocks (s.ahead ++ more) (BeginsWith-more limits h has.blocks taken s.ahead more has.begins) (has.count ∙ sym e)
    (subst (IsCopied job h has.blocks) (sym (ap (λ p. put ++ p) none_put ∙ append-nil put)) has.copied)
    (subst (λ n. BlockFails (reading_of job limits h) n ended (s.ahead ++ more) g) (sym e)
    (subst (λ j. BlockFails (reading_of job limits j) s.blocks ended (s.ahead ++ more) g) same fails))

pub FaultStands-refused : (job : Job) (limits : FileLimitValues) (ended : Type 0) (s t : Stored) (counts taken put more out : List ℕ)
    (fault : Option FileFault) (f : FileFault) → Done job limits s counts taken put → RefusedStep job limits ended s t more out fault → fault ≡ Some f
    → FaultStands job limits ended (taken ++ more) (put ++ out) f
FaultStands-refused job limits ended s t counts taken put more out fault f done step is_fault =
    let there = step.refusal.there f is_fault in
    FaultStands-done job limits s ended counts taken put more out f done there.0 there.1

-- what a step takes is bounded
TakenAhead-done : (job : Job) (limits : FileLimitValues) (s : Stored) (counts taken put more : List ℕ) → Done job limits s counts taken put
    → length (s.ahead ++ more) ≤ most_ahead limits → TakenAhead job limits (taken ++ more) put
TakenAhead-done job limits s counts taken put more (Done.none_yet none no_block zero whole nothing) held =
    TakenAhead.none_yet nothing (subst (λ (all : List ℕ). length (all ++ more) ≤ most_ahead limits) (sym whole) held)
TakenAhead-done job limits s counts taken put more (Done.some h has) held =
    TakenAhead.some h has.blocks (s.ahead ++ more) (BeginsWith-more limits h has.blocks taken s.ahead more has.begins) held has.copied

-- the laws of runs
pub run_ends_lem : (job : Job) (limits : FileLimitValues) (ended : Type 0) (s t : Stored) (counts taken put more out : List ℕ)
    → Run job limits s counts taken put → EndStep ended s t more out → CopiedWhole job limits ended (sum counts) s.blocks (taken ++ more) (put ++ out)
run_ends_lem job limits ended s t counts taken put more out run step =
    CopiedWhole-end job limits s t counts ended taken put more out (Done-run job limits s counts taken put run) step

pub run_refused_lem : (job : Job) (limits : FileLimitValues) (ended : Type 0) (s t : Stored) (counts taken put more out : List ℕ) (fault : Option FileFault)
    → Run job limits s counts taken put → RefusedStep job limits ended s t more out fault → length (s.ahead ++ more) ≤ most_ahead limits
    → PutInAll job limits (taken ++ more) (put ++ out)
    × ((f : FileFault) → fault ≡ Some f → FaultStands job limits ended (taken ++ more) (put ++ out) f)
run_refused_lem job limits ended s t counts taken put more out fault run step held =
    let done = Done-run job limits s counts taken put run in (
      PutInAll-refused job limits ended s t counts taken put more out fault done step held,
      λ f is_fault. FaultStands-refused job limits ended s t counts taken put more out fault f done step is_fault,
    )

pub run_bounded_lem : (job : Job) (limits : FileLimitValues) (ended : Type 0) (s t : Stored) (counts taken put more out : List ℕ) (outcome : Outcome)
    → Run job limits s counts taken put → Steps job limits ended s t more out outcome → TakenAhead job limits (taken ++ more) put
run_bounded_lem job limits ended s t counts taken put more out outcome run step =
    TakenAhead-done job limits s counts taken put more (Done-run job limits s counts taken put run) step.held
