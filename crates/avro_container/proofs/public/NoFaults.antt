-- A file within the limits has no fault behind its header.
use Rattle.std.proofs.Common.{◌≡◌, ℕ, ◌<◌, ◌≤◌, ℤ, List, [], ◌∷◌, ◌++◌, length, refl, sym, ap, subst, ◌∙◌, arith, append_assoc, append-nil, length-append}
use Rattle.avro_zigzag.specs.NumberFault.{ends, too_large}
use Rattle.avro_zigzag.proofs.public.Spelling.{are_groups-some}
use Rattle.avro_schema.specs.Value.{Values}
use Rattle.avro_cursor.specs.Breaks.{StartsWithLong}
use Rattle.avro_cursor.specs.Encoding.{plain_values}
use Rattle.avro_compare.specs.Resolve.{Resolved}
use Rattle.avro_file.specs.BlockFails.{BlockFails, BlockReading, CountFails, FileLimitValues, max_blocks}
use Rattle.avro_file.specs.Copied.{EachResolved, Job}
use Rattle.avro_file.specs.File.{HeaderValue}
use Rattle.avro_file.specs.FileFault.{BlockFault, CountFault, in_block}
use Rattle.avro_file.proofs.public.Known.{OneSchema, Prefix}
use Rattle.avro_file.proofs.public.OneFile.{block_some, block_told, header_told}
use Rattle.avro_schema.specs.Value.{Value}
use Rattle.avro_container.specs.CopiedFile.{ResolveWithin}
use Rattle.avro_container.specs.Steps.{AreBlocksWithin, BeginsWith, FaultStands, IsBlockWithin, reading_of}
use Rattle.avro_container.proofs.public.Known.{DeclaredIsSchema, FaultOrWithin}
use Rattle.avro_container.proofs.public.NoFault.{block_has_no_fault_lem}

-- ---- No byte has no fault

starts-some : (v : ℤ) (bytes number rest : List ℕ) → StartsWithLong v bytes number rest → bytes ≡ [] → ⊥
starts-some v bytes number rest s e =
    let some = are_groups-some number s.spelled.groups in
    let all = ap length s.split ∙ length-append number rest in
    let none = ap length e in
    omega (arith, some, all, none)

count-some : (bytes : List ℕ) (f : CountFault) → CountFails bytes f → bytes ≡ [] → ⊥
count-some bytes _ (CountFails.number_fails _ (ends go short) other) e = other refl
count-some bytes _ (CountFails.number_fails _ (too_large front rest b is go last above) other) e =
    let all = ap length is ∙ length-append front (b ∷ rest) in
    let none = ap length e in
    omega (arith, all, none)
count-some bytes _ (CountFails.is_negative n number rest s) e = starts-some _ bytes number rest s e

empty-none : (r : BlockReading) (number : ℕ) (ended : Type 0) (bytes : List ℕ) (f : BlockFault) → bytes ≡ [] → BlockFails r number ended bytes f → ⊥
empty-none r number ended bytes _ e (BlockFails.too_many_blocks past some) = let none = ap length e in omega (arith, some, none)
empty-none r number ended bytes _ e (BlockFails.count_fails few fails) = count-some bytes _ fails e
empty-none r number ended bytes _ e (BlockFails.count_cut few some cut told) = let none = ap length e in omega (arith, some, none)
empty-none r number ended bytes _ e (BlockFails.size_fails n count rest few starts fails) = starts-some _ bytes count rest starts e
empty-none r number ended bytes _ e (BlockFails.size_cut n count rest few starts cut told) = starts-some _ bytes count rest starts e
empty-none r number ended bytes _ e (BlockFails.large count size rest few begins over) = starts-some _ bytes begins.count_bytes begins.behind_count begins.counted e
empty-none r number ended bytes _ e (BlockFails.cut count size rest few begins most short lacks told) = starts-some _ bytes begins.count_bytes begins.behind_count begins.counted e
empty-none r number ended bytes _ e (BlockFails.marker_differs count size rest few begins most short room differs) =
    starts-some _ bytes begins.count_bytes begins.behind_count begins.counted e
empty-none r number ended bytes _ e (BlockFails.data_fail count size rest few begins most short room marked fails) =
    starts-some _ bytes begins.count_bytes begins.behind_count begins.counted e

-- ---- What stands behind some blocks of a file

-- no byte, or the next block, of which each datum resolves
data Behind (limits : FileLimitValues) (h : HeaderValue) (resolve : Value → Resolved) (before blocks : List Values) (bytes : List ℕ) : Type 0 where
  at_end : bytes ≡ [] → Behind limits h resolve before blocks bytes
  next : (vs us : Values) (block later : List ℕ) → IsBlockWithin limits h vs block → EachResolved resolve vs us → length (plain_values us) ≤ limits.block
      → length before < length blocks → bytes ≡ block ++ later → Behind limits h resolve before blocks bytes

behind-more : (limits : FileLimitValues) (h : HeaderValue) (resolve : Value → Resolved) (vs ws : Values) (before blocks : List Values) (bytes : List ℕ)
    → Behind limits h resolve before blocks bytes → Behind limits h resolve (vs ∷ before) (ws ∷ blocks) bytes
behind-more limits h resolve vs ws before blocks bytes (Behind.at_end e) = Behind.at_end e
behind-more limits h resolve vs ws before blocks bytes (Behind.next us made block later w r small fewer e) = Behind.next us made block later w r small (omega (arith, fewer)) e

behind-blocks : Prefix → (limits : FileLimitValues) (h : HeaderValue) (resolve : Value → Resolved) (before blocks : List Values) (front whole bytes : List ℕ)
    → AreBlocksWithin limits h before front → AreBlocksWithin limits h blocks whole → ResolveWithin limits.block resolve blocks → front ++ bytes ≡ whole
    → Behind limits h resolve before blocks bytes
behind-blocks prefix limits h resolve [] [] front whole bytes a b made e = Behind.at_end (sym (ap (λ (q : List ℕ). q ++ bytes) a) ∙ e ∙ b)
behind-blocks prefix limits h resolve [] (ws ∷ blocks) front whole bytes a (other, later, is, others, split) (us, resolved, small, more) e =
    Behind.next ws us other later is resolved small (omega arith) (sym (ap (λ (q : List ℕ). q ++ bytes) a) ∙ e ∙ split)
behind-blocks prefix limits h resolve (vs ∷ before) [] front whole bytes (first, rest, is, more, split) b made e =
    absurd (block_some h vs first (rest ++ bytes) is.is_block (sym (append_assoc first rest bytes) ∙ sym (ap (λ (q : List ℕ). q ++ bytes) split) ∙ e ∙ b))
behind-blocks prefix limits h resolve (vs ∷ before) (ws ∷ blocks) front whole bytes (first, rest, is, more, split) (other, later, has, others, split') (us, resolved, small, made) e =
    let joined : first ++ (rest ++ bytes) ≡ other ++ later = sym (append_assoc first rest bytes) ∙ sym (ap (λ (q : List ℕ). q ++ bytes) split) ∙ e ∙ split' in
    let told = block_told prefix h vs ws first other (rest ++ bytes) later is.is_block has.is_block joined in
    behind-more limits h resolve vs ws before blocks bytes (behind-blocks prefix limits h resolve before blocks rest later bytes more others made told.1)

-- ---- The file

none-behind : (bytes more : List ℕ) → bytes ++ more ≡ [] → bytes ≡ []
none-behind [] more e = refl
none-behind (x ∷ bytes) more e = absurd cc

next-none : Prefix → FaultOrWithin → DeclaredIsSchema → (ended : Type 0) (job : Job) (limits : FileLimitValues) (h : HeaderValue) (before blocks : List Values)
    (n : ℕ) (bytes more : List ℕ) (w : List ℕ) (rest : List ℕ) (f : BlockFault) → BeginsWith limits h blocks w rest → length before ≡ n → (ended → more ≡ [])
    → Behind limits h (job.resolve h.nodes) before blocks (bytes ++ more) → BlockFails (reading_of job limits h) n ended bytes f → ⊥
next-none prefix none declared ended job limits h before blocks n bytes more w rest f whole count last (Behind.at_end e) fails =
    empty-none (reading_of job limits h) n ended bytes f (none-behind bytes more e) fails
next-none prefix none declared ended job limits h before blocks n bytes more w rest f whole count last (Behind.next vs us block later is resolved small fewer e) fails =
    block_has_no_fault_lem prefix none declared ended (reading_of job limits h) h vs us n whole.header_bytes block bytes more later f whole.is_header refl refl is
    (below-most n (length before) (length blocks) max_blocks count fewer whole.few) resolved (λ _. small) e last fails
  where
    below-most : (n a b m : ℕ) → a ≡ n → a < b → b ≤ m → n < m
    below-most n a b m same h g = omega (arith, same, h, g)

pub copy_has_no_fault_lem : Prefix → OneSchema → FaultOrWithin → DeclaredIsSchema → (ended : Type 0) (job : Job) (limits : FileLimitValues) (h : HeaderValue)
    (blocks : List Values) (taken more put : List ℕ) (n : ℕ) (f : BlockFault) → BeginsWith limits h blocks (taken ++ more) []
    → ResolveWithin limits.block (job.resolve h.nodes) blocks → (ended → more ≡ []) → FaultStands job limits ended taken put (in_block n f) → ⊥
copy_has_no_fault_lem prefix one none declared ended job limits h blocks taken more put n f whole made last (FaultStands.of_block k before rest begins count copied fails) =
    let joined : begins.header_bytes ++ (begins.block_bytes ++ (rest ++ more)) ≡ whole.header_bytes ++ whole.block_bytes =
    sym (append_assoc begins.header_bytes begins.block_bytes (rest ++ more)) ∙ sym (append_assoc (begins.header_bytes ++ begins.block_bytes) rest more)
    ∙ sym (ap (λ (q : List ℕ). q ++ more) begins.split) ∙ whole.split ∙ append-nil (whole.header_bytes ++ whole.block_bytes) in
    let told = header_told prefix one k h begins.header_bytes whole.header_bytes (begins.block_bytes ++ (rest ++ more)) whole.block_bytes begins.is_header whole.is_header joined in
    let before_are = subst (λ (g : HeaderValue). AreBlocksWithin limits g before begins.block_bytes) told.0 begins.are_blocks in
    let fails_so = subst (λ (g : HeaderValue). BlockFails (reading_of job limits g) n ended rest f) told.0 fails in
    next-none prefix none declared ended job limits h before blocks n rest more (taken ++ more) [] f whole count last
    (behind-blocks prefix limits h (job.resolve h.nodes) before blocks begins.block_bytes whole.block_bytes (rest ++ more) before_are whole.are_blocks made told.2) fails_so
