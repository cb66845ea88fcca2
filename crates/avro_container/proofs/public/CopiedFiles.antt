-- The copy of a file is a file.
use Rattle.std.proofs.Common.{◌≡◌, ℕ, ◌^◌, ◌-◌, ◌<◌, ◌≤◌, pos, true, List, [], ◌∷◌, ◌++◌, length, Option, Some, None, Ok, refl, sym, ap, subst, ◌∙◌, arith, nat_lt}
use Rattle.std.specs.List.{concat, list_all}
use Rattle.std.proofs.lemmas.Bool.{and_parts, and_from}
use Rattle.std.proofs.lemmas.Str.{is_utf8-from_IsUtf8}
use Rattle.avro_zigzag.specs.Number.{number_bytes}
use Rattle.avro_zigzag.proofs.public.Spelling.{SpellsLong-number_bytes, is_long-from_zigzag, is_long-zigzag}
use Rattle.avro_schema.specs.Value.{Value, Values, no_values, value, values_count}
use Rattle.avro_schema.specs.Node.{Node, root_of}
use Rattle.avro_schema.specs.Fits.{fits, each_fits, is_long, is_count, are_bytes}
use Rattle.avro_schema.specs.WellFormed.{is_schema}
use Rattle.avro_schema_json.specs.DeclaredText.{DeclaresText}
use Rattle.avro_cursor.specs.Encoding.{EachSpelled, plain, plain_values}
use Rattle.avro_cursor.proofs.public.Ranges.{is_count-from_below}
use Rattle.avro_compare.specs.Resolve.{Resolved}
use Rattle.avro_resolve.proofs.public.TextBytes.{below-from_is_utf8}
use Rattle.avro_file.specs.Copied.{Job, EachResolved, AreCopiedBlocks, IsCopied, block_bytes, copied_header, into, or_else, unchanged}
use Rattle.avro_file.specs.File.{HeaderValue, IsBlock, AreBlocks, IsFile}
use Rattle.avro_file.proofs.public.Data.{each-fit}
use Rattle.avro_container.specs.Steps.{AreMadeWithin}
use Rattle.avro_container.specs.CopiedFile.{for_reader, as_written, IsMarker, header_for, AreResolved, IsFileOfMade}
use Rattle.avro_container.proofs.FileHeaders.{KeepsBytes, copied-none, header-copied}
use Rattle.avro_binary.proofs.public.Shortest.{plain_values-shortest}
use Rattle.avro_container.proofs.ResolvedData.{resolved-count, same_ok}
use Rattle.avro_container.proofs.public.Known.{DeclaredIsSchema, PlainEncodes, ResolvedFits}

-- ---- A block

-- the plain encodings of data, one by one
abbrev items_of : Values → List (List ℕ)
items_of no_values = []
items_of (value v vs) = plain v ∷ items_of vs

items-join : (vs : Values) → concat (items_of vs) ≡ plain_values vs
items-join no_values = refl
items-join (value v vs) = ap (λ (rest : List ℕ). plain v ++ rest) (items-join vs)

items-spell : PlainEncodes → (nodes : List Node) → is_schema nodes ≡ true → (vs : Values) → each_fits nodes (root_of nodes) vs ≡ true → EachSpelled vs (items_of vs)
items-spell encodes nodes formed no_values h = refl
items-spell encodes nodes formed (value v vs) h =
    let parts = and_parts (fits nodes (root_of nodes) v) (each_fits nodes (root_of nodes) vs) h in
    (plain v, items_of vs, (encodes nodes 0 v formed parts.0).spelled, items-spell encodes nodes formed vs parts.1, refl)

long-below : (n : ℕ) → n < 2 ^ 63 → is_long (pos n) ≡ true
long-below n h = is_long-from_zigzag (pos n) (omega arith)

-- plain data that are few enough are a block
block-plain : PlainEncodes → (k : HeaderValue) → is_schema k.nodes ≡ true → (us : Values) → each_fits k.nodes (root_of k.nodes) us ≡ true → is_long (pos (values_count us)) ≡ true
    → length (plain_values us) < 2 ^ 63 → IsBlock k us (block_bytes k.sync us)
block-plain encodes k formed us fit long short =
    let join = items-join us in
    let sized : is_long (pos (length (concat (items_of us)))) ≡ true =
    long-below (length (concat (items_of us))) (subst (λ (b : List ℕ). length b < 2 ^ 63) (sym join) short) in
    record {
      items = items_of us;
      fitting = fit;
      spelled = items-spell encodes k.nodes formed us fit;
      count = number_bytes (pos (values_count us));
      size = number_bytes (pos (length (concat (items_of us))));
      counted = (long, SpellsLong-number_bytes (pos (values_count us)) long);
      sized = (sized, SpellsLong-number_bytes (pos (length (concat (items_of us)))) sized);
      split = ap (λ (b : List ℕ). number_bytes (pos (values_count us)) ++ (number_bytes (pos (length b)) ++ (b ++ k.sync))) (sym join);
    }

-- ---- The blocks, and the file

-- what is made of a datum that fits fits
abbrev Keeps : List Node → List Node → (Value → Resolved) → Type 0
Keeps nodes target resolve = (v u : Value) → fits nodes (root_of nodes) v ≡ true → resolve v ≡ Ok u → fits target (root_of target) u ≡ true

blocks-copied : PlainEncodes → (job : Job) (target : List Node) (h : HeaderValue) → is_schema target ≡ true → Keeps h.nodes target (job.resolve h.nodes) → (limit : ℕ) → limit < 2 ^ 63
    → (blocks : List Values) (bytes rest : List ℕ) → AreBlocks h blocks bytes → AreMadeWithin limit (job.resolve h.nodes) blocks → AreCopiedBlocks job h blocks rest
    → (made : List Values) × AreResolved (job.resolve h.nodes) blocks made × AreBlocks (header_for job target h) made rest
blocks-copied encodes job target h formed law limit below [] bytes rest b w c = ([], refl, c)
blocks-copied encodes job target h formed law limit below (vs ∷ blocks) bytes rest (first, more, is, others, e) w (copy, later, (us, resolved, are), copies, f) =
    let k = header_for job target h in
    let tail = blocks-copied encodes job target h formed law limit below blocks more later others w.1 copies in
    let fit = each-fit h.nodes target (job.resolve h.nodes) vs us law is.fitting resolved in
    let long : is_long (pos (values_count us)) ≡ true = ap (λ (n : ℕ). is_long (pos n)) (resolved-count (job.resolve h.nodes) vs us resolved) ∙ is.counted.0 in
    let short : length (plain_values us) ≤ limit = w.0 us resolved in
    let small : length (plain_values us) < 2 ^ 63 = omega arith in
    let block = block-plain encodes k formed us fit long small in (
      us ∷ tail.0,
      (us, tail.0, resolved, tail.1, refl),
      (copy, later, subst (IsBlock k us) (sym are) block, tail.2, f),
    )

file-copied : PlainEncodes → (job : Job) (target : List Node) (h : HeaderValue) (blocks : List Values) (bytes out : List ℕ) (limit : ℕ) → is_schema target ≡ true → KeepsBytes job.text
    → ((text : List ℕ) → DeclaresText text h.nodes → DeclaresText (or_else job.text text) target) → (length h.sync ≡ 16 → length (or_else job.sync h.sync) ≡ 16)
    → Keeps h.nodes target (job.resolve h.nodes) → limit < 2 ^ 63 → AreMadeWithin limit (job.resolve h.nodes) blocks
    → IsFile h blocks bytes → IsCopied job h blocks out → IsFileOfMade (job.resolve h.nodes) (header_for job target h) blocks out
file-copied encodes job target h blocks bytes out limit formed keeps declares marked law below w f (rest, copies, e) =
    let found = blocks-copied encodes job target h formed law limit below blocks f.rest rest f.are_blocks w copies in
    record {
      made = found.0;
      resolved = found.1;
      is_file = record {
        header = copied_header job h;
        rest = rest;
        is_header = header-copied encodes job target h f.header f.is_header keeps declares (marked f.is_header.marker);
        are_blocks = found.2;
        split = e;
      };
    }

-- ---- The laws

marker-length : (sync : Option (List ℕ)) (old : List ℕ) → IsMarker sync → length old ≡ 16 → length (or_else sync old) ≡ 16
marker-length None old is h = h
marker-length (Some mark) old is h = is

text-bytes : (text : List ℕ) (nodes : List Node) → DeclaresText text nodes → length text < 2 ^ 63 → are_bytes text ≡ true
text-bytes text nodes d short =
    and_from (is_count (length text)) (list_all (λ x. nat_lt x 256) text) (is_count-from_below (length text) short)
    (below-from_is_utf8 text (is_utf8-from_IsUtf8 text d.1.0))

pub copy_is_file_lem : PlainEncodes → ResolvedFits → DeclaredIsSchema
    → (h : HeaderValue) (blocks : List Values) (bytes text : List ℕ) (reader : List Node) (sync : Option (List ℕ)) (limit : ℕ) (out : List ℕ)
    → IsFile h blocks bytes → DeclaresText text reader → length text < 2 ^ 63 → IsMarker sync → AreMadeWithin limit (into reader h.nodes) blocks → limit < 2 ^ 63
    → IsCopied (for_reader text reader sync) h blocks out
    → IsFileOfMade (into reader h.nodes) (header_for (for_reader text reader sync) reader h) blocks out
copy_is_file_lem encodes fit formed h blocks bytes text reader sync limit out f d short marked w below copy =
    let is = formed d.0 reader d.2 in
    file-copied encodes (for_reader text reader sync) reader h blocks bytes out limit is (λ content _. text-bytes text reader d short) (λ _ _. d)
    (marker-length sync h.sync marked) (λ v u fits made. fit h.nodes reader v u is fits made) below w f copy

-- data that were kept are the same
kept-same : (nodes : List Node) (vs us : Values) → EachResolved (unchanged nodes) vs us → us ≡ vs
kept-same nodes no_values us e = e
kept-same nodes (value v vs) us (first, others, made, more, e) =
    e ∙ (λ i. value (same_ok first v (sym made) i) (kept-same nodes vs others more i))

blocks-same : (nodes : List Node) (blocks made : List Values) → AreResolved (unchanged nodes) blocks made → made ≡ blocks
blocks-same nodes [] made e = e
blocks-same nodes (vs ∷ blocks) made (first, others, kept, more, e) = e ∙ (λ i. kept-same nodes vs first kept i ∷ blocks-same nodes blocks others more i)

-- the plain data of a file's blocks are few enough, since none of their spellings is shorter
blocks-within : (nodes : List Node) (h : HeaderValue) (blocks : List Values) (bytes : List ℕ) → AreBlocks h blocks bytes → AreMadeWithin (2 ^ 63 - 1) (unchanged nodes) blocks
blocks-within nodes h [] bytes b = tt
blocks-within nodes h (vs ∷ blocks) bytes (first, rest, is, others, e) = (few, blocks-within nodes h blocks rest others)
  where
    few : (us : Values) → EachResolved (unchanged nodes) vs us → length (plain_values us) ≤ 2 ^ 63 - 1
    few us kept =
        let short = plain_values-shortest vs is.items is.spelled in
        let long = is_long-zigzag (pos (length (concat is.items))) is.sized.0 in
        subst (λ (ws : Values). length (plain_values ws) ≤ 2 ^ 63 - 1) (sym (kept-same nodes vs us kept)) (omega arith)

pub copy_is_same_file_lem : PlainEncodes → DeclaredIsSchema
    → (h : HeaderValue) (blocks : List Values) (bytes : List ℕ) (sync : Option (List ℕ)) (out : List ℕ)
    → IsFile h blocks bytes → IsMarker sync → IsCopied (as_written sync) h blocks out
    → IsFileOfMade (unchanged h.nodes) (header_for (as_written sync) h.nodes h) blocks out × IsFile (record h { sync = or_else sync h.sync }) blocks out
copy_is_same_file_lem encodes formed h blocks bytes sync out f marked copy =
    let d = f.is_header.declares in
    let within = blocks-within h.nodes h blocks f.rest f.are_blocks in
    let is = file-copied encodes (as_written sync) h.nodes h blocks bytes out (2 ^ 63 - 1) (formed d.0 h.nodes d.2) (λ content fit. fit) (λ text declares. declares)
    (marker-length sync h.sync marked) (λ v u fit made. subst (λ (w : Value). fits h.nodes (root_of h.nodes) w ≡ true) (same_ok v u made) fit) (omega arith) within f copy in
    let k = header_for (as_written sync) h.nodes h in
    let other = record h { sync = or_else sync h.sync } in
    let same : k ≡ other = λ i. record other { properties = copied-none h.properties i } in
    (is, subst (λ (g : HeaderValue). IsFile g blocks out) same (subst (λ (bs : List Values). IsFile k bs out) (blocks-same h.nodes blocks is.made is.resolved) is.is_file))
