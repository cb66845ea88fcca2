-- The copy of a copy is the copy.
use Rattle.std.proofs.Common.{◌≡◌, ℕ, List, [], ◌∷◌, ◌++◌, Option, map, refl, sym, ap, subst, ◌∙◌}
use Rattle.avro_schema.specs.Value.{Values, no_values, value}
use Rattle.avro_schema.specs.Node.{Node}
use Rattle.avro_cursor.specs.Encoding.{plain}
use Rattle.avro_file.specs.Copied.{Job, EachResolved, AreCopiedBlocks, IsCopied, block_bytes, copied_header, copied_property, or_else, unchanged}
use Rattle.avro_file.specs.File.{HeaderValue, IsFile, magic, metadata_value}
use Rattle.avro_container.specs.CopiedFile.{as_written, header_for, AreResolved, IsFileOfMade}
use Rattle.avro_container.proofs.FileHeaders.{copied-none}
use Rattle.avro_container.proofs.ResolvedData.{same_made}
use Rattle.avro_file.proofs.public.Known.{OneSchema, Prefix}
use Rattle.avro_file.proofs.public.OneFile.{one_file_lem}

-- ---- There is one copy

same_copied : (job : Job) (h : HeaderValue) (blocks : List Values) (a b : List ℕ) → AreCopiedBlocks job h blocks a → AreCopiedBlocks job h blocks b → a ≡ b
same_copied job h [] a b e f = e ∙ sym f
same_copied job h (vs ∷ blocks) a b (first, rest, (us, resolved, are), more, e) (other, rest', (ws, resolved', are'), more', f) =
    let block : first ≡ other = are ∙ ap (block_bytes (or_else job.sync h.sync)) (same_made (job.resolve h.nodes) vs us ws resolved resolved') ∙ sym are' in
    e ∙ (λ i. block i ++ same_copied job h blocks rest rest' more more' i) ∙ sym f

pub one_copy_lem : (job : Job) (h : HeaderValue) (blocks : List Values) (a b : List ℕ) → IsCopied job h blocks a → IsCopied job h blocks b → a ≡ b
one_copy_lem job h blocks a b (rest, copies, e) (others, copies', f) =
    e ∙ ap (λ (r : List ℕ). copied_header job h ++ r) (same_copied job h blocks rest others copies copies') ∙ sym f

-- ---- A copy is its own copy

kept : (nodes : List Node) (vs : Values) → EachResolved (unchanged nodes) vs vs
kept nodes no_values = refl
kept nodes (value v vs) = (v, vs, refl, kept nodes vs, refl)

blocks_again : (job : Job) (h k : HeaderValue) (sync : Option (List ℕ)) → or_else job.sync h.sync ≡ or_else sync k.sync → (blocks made : List Values) (rest : List ℕ)
    → AreResolved (job.resolve h.nodes) blocks made → AreCopiedBlocks job h blocks rest → AreCopiedBlocks (as_written sync) k made rest
blocks_again job h k sync marked [] made rest r c = subst (λ (bs : List Values). AreCopiedBlocks (as_written sync) k bs rest) (sym r) c
blocks_again job h k sync marked (vs ∷ blocks) made rest (first, others, resolved, more, e) (copy, later, (us, resolved', are), copies, f) =
    let same : us ≡ first = same_made (job.resolve h.nodes) vs us first resolved' resolved in
    let block : copy ≡ block_bytes (or_else sync k.sync) first = are ∙ (λ i. block_bytes (marked i) (same i)) in
    subst (λ (bs : List Values). AreCopiedBlocks (as_written sync) k bs rest) (sym e)
    (copy, later, (first, kept k.nodes first, block), blocks_again job h k sync marked blocks others later more copies, f)

copied_again : (job : Job) (h : HeaderValue) (target : List Node) (sync : Option (List ℕ)) (blocks made : List Values) (out : List ℕ)
    → or_else sync (or_else job.sync h.sync) ≡ or_else job.sync h.sync → AreResolved (job.resolve h.nodes) blocks made → IsCopied job h blocks out
    → IsCopied (as_written sync) (header_for job target h) made out
copied_again job h target sync blocks made out marked resolved (rest, copies, e) =
    let ps = map (copied_property job.text) h.properties in
    let head : copied_header job h ≡ copied_header (as_written sync) (header_for job target h) =
    λ i. magic ++ (plain (metadata_value (sym (copied-none ps) i)) ++ sym marked i) in
    (rest, blocks_again job h (header_for job target h) sync (sym marked) blocks made rest resolved copies, e ∙ ap (λ (b : List ℕ). b ++ rest) head)

pub copy_again_lem : Prefix → OneSchema → (job : Job) (h k : HeaderValue) (target : List Node) (blocks others : List Values) (sync : Option (List ℕ)) (out : List ℕ)
    → IsCopied job h blocks out → IsFileOfMade (job.resolve h.nodes) (header_for job target h) blocks out → IsFile k others out → or_else sync k.sync ≡ k.sync
    → IsCopied (as_written sync) k others out × ((again : List ℕ) → IsCopied (as_written sync) k others again → again ≡ out)
copy_again_lem prefix one job h k target blocks others sync out copy file is marked =
    let same = one_file_lem prefix one (header_for job target h) k file.made others out file.is_file is in
    let own : or_else sync (or_else job.sync h.sync) ≡ or_else job.sync h.sync = subst (λ (g : HeaderValue). or_else sync g.sync ≡ g.sync) (sym same.0) marked in
    let mine = copied_again job h target sync blocks file.made out own file.resolved copy in
    let its = subst (λ (g : HeaderValue). IsCopied (as_written sync) g others out) same.0 (subst (λ (bs : List Values). IsCopied (as_written sync) (header_for job target h) bs out) same.1 mine) in
    (its, λ again copied. one_copy_lem (as_written sync) k others again out copied its)
