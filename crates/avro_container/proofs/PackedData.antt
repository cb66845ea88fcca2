-- The data of a block that are packed, one by one.
use Rattle.std.proofs.Common.{◌≡◌, ℕ, suc, ◌+◌, ◌<◌, ◌≤◌, Bool, true, false, List, [], ◌++◌, length, take, drop, Some, Ok, refl, sym, ap, subst, ◌∙◌, arith, append_assoc, append-nil}
use Rattle.std.proofs.Math.Seq.{take-add}
use Rattle.std.proofs.lemmas.List.{length-drop}
use Rattle.std.proofs.lemmas.Option.{same_Some}
use Rattle.avro_schema.specs.Value.{Value, Values, no_values, value}
use Rattle.avro_cursor.specs.Encoding.{plain, plain_values}
use Rattle.avro_file.specs.BlockFails.{BlockReading, DataAreWhole, DataFail}
use Rattle.avro_packed.specs.Appended.{AppendsWithin}
use Rattle.avro_container.specs.inside.DataPacked.{PacksData}
use Rattle.avro_file.specs.DataRead.{IsDataFault}
use Rattle.avro_file.specs.DatumRead.{MakesOf}
use Rattle.avro_file.specs.FileFault.{FileFault, in_block, limit_passed}
use Rattle.avro_file.proofs.public.Data.{add, whole-more, whole-none, datum_stands}

plain-add : (us : Values) (u : Value) → plain_values (add us u) ≡ plain_values us ++ plain u
plain-add no_values u = append-nil (plain u)
plain-add (value w us) u = ap (λ b. plain w ++ b) (plain-add us u) ∙ sym (append_assoc (plain w) (plain_values us) (plain u))

-- the plain encoding of what is made of the datum at the front of the bytes, which has `len`, stands after the earlier ones
abbrev pub PacksOne : BlockReading → List ℕ → List ℕ → List ℕ → ℕ → Type 0
PacksOne r before after bytes len = (u : Value) × (after ≡ before ++ plain u) × MakesOf r.nodes r.limits.datum r.resolve bytes len (Ok u)

-- the same, where it is within the limit or not
abbrev pub TakesOne : BlockReading → List ℕ → List ℕ → List ℕ → Bool → ℕ → Type 0
TakesOne r before after bytes fits len =
    (u : Value) × AppendsWithin r.limits.block before after (plain u) fits × MakesOf r.nodes r.limits.datum r.resolve bytes len (Ok u)

pub takes-within : (r : BlockReading) (before after bytes : List ℕ) (fits : Bool) (len : ℕ) → fits ≡ true → TakesOne r before after bytes fits len
    → PacksOne r before after bytes len × (length after ≤ r.limits.block)
takes-within r before after bytes fits len is takes =
    let found = subst (λ b. TakesOne r before after bytes b len) is takes in
    ((found.0, found.1.0, found.2), found.1.1)

pub takes-over : (r : BlockReading) (before after bytes : List ℕ) (fits : Bool) (len : ℕ) → fits ≡ false → TakesOne r before after bytes fits len
    → (next : List ℕ) × PacksOne r before next bytes len × (r.limits.block < length next)
takes-over r before after bytes fits len is takes =
    let found = subst (λ b. TakesOne r before after bytes b len) is takes in
    (before ++ plain found.0, (found.0, refl, found.2), found.1.1)

pub pack-none : (r : BlockReading) (packed : List ℕ) → packed ≡ [] → PacksData r 0 [] packed
pack-none r packed none = record { made = no_values; whole = whole-none r; packed_are = none }

pub packed-add : (us : Values) (u : Value) (before after : List ℕ) → before ≡ plain_values us → after ≡ before ++ plain u → after ≡ plain_values (add us u)
packed-add us u before after p is = is ∙ ap (λ b. b ++ plain u) p ∙ sym (plain-add us u)

-- one datum more
pub pack-more : (r : BlockReading) (done start len : ℕ) (body before after : List ℕ) → PacksData r done (take start body) before
    → PacksOne r before after (drop start body) len → length after ≤ r.limits.block
    → PacksData r (done + 1) (take (start + len) body) after
pack-more r done start len body before after packs found fits =
    let u = found.0 in
    let made = found.2 in
    let next = take len (drop start body) in
    let same : after ≡ plain_values (add packs.made u) = packed-add packs.made u before after packs.packed_are found.1 in
    let whole = whole-more r done (take start body) next packs.made made.datum u packs.whole made.encoded made.within made.resolves
    (λ _. subst (λ b. length b ≤ r.limits.block) same fits) in
    let one : suc done ≡ done + 1 = omega arith in
    record {
      made = add packs.made u;
      whole = subst (λ n. DataAreWhole r n (take (start + len) body) (add packs.made u)) one
          (subst (λ front. DataAreWhole r (suc done) front (add packs.made u)) (sym (take-add start len body)) whole);
      packed_are = same;
    }

-- the same, where it is one of a number of data
pub pack-next : (r : BlockReading) (count done start len : ℕ) (body before after : List ℕ) → done < count → start ≤ length body
    → PacksData r done (take start body) before → PacksOne r before after (drop start body) len → length after ≤ r.limits.block
    → (start + len ≤ length body) × (done + 1 ≤ count) × PacksData r (done + 1) (take (start + len) body) after
pack-next r count done start len body before after few inside packs found fits = (
  omega (arith, inside, found.2.in_bytes, length-drop start body),
  omega (arith, few),
  pack-more r done start len body before after packs found fits,
)

-- one datum too many
pub pack-over : (r : BlockReading) (number count m start len : ℕ) (body before after : List ℕ) (f : FileFault) → m < count → PacksData r m (take start body) before
    → PacksOne r before after (drop start body) len → r.copied ≡ true → r.limits.block < length after
    → Some (in_block number limit_passed) ≡ Some f → IsDataFault r number count body f
pack-over r number count m start len body before after f few packs found copied over is =
    let u = found.0 in
    let made = found.2 in (
      limit_passed,
      sym (same_Some _ _ is),
      DataFail.too_much m (take start body) packs.made made.datum u few packs.whole
          (datum_stands r start len body (Ok u) made) made.resolves
          (copied, subst (λ b. r.limits.block < length b) (found.1 ∙ ap (λ b. b ++ plain u) packs.packed_are) over),
    )
