-- Data without bytes that are packed.
use Rattle.std.proofs.Common.{◌≡◌, ℕ, zero, suc, ◌+◌, ◌<◌, ◌-◌, ◌≤◌, true, List, [], ◌++◌, length, take, drop, Some, Ok, sym, ap, subst, ◌∙◌, arith, append-nil}
use Rattle.std.proofs.lemmas.List.{drop_at, nil_from_length}
use Rattle.avro_cursor.specs.Encoding.{plain, plain_values}
use Rattle.avro_file.specs.BlockFails.{BlockReading, DataAreWhole}
use Rattle.avro_file.specs.DataRead.{IsDataFault}
use Rattle.avro_file.specs.DatumRead.{MakesOf}
use Rattle.avro_file.specs.NoBytes.{PacksNoBytes}
use Rattle.avro_file.specs.FileFault.{FileFault, in_block, limit_passed}
use Rattle.avro_file.proofs.public.Data.{add}
use Rattle.avro_file.proofs.public.EmptyData.{made_at_front, made_of_none, whole-same}
use Rattle.avro_container.specs.inside.DataPacked.{PacksData}
use Rattle.avro_container.proofs.PackedData.{PacksOne, pack-over, packed-add}

-- its plain encoding stands after the earlier ones
packed-plain : (r : BlockReading) (before unit after : List ℕ) (none : PacksNoBytes r unit) → after ≡ before ++ unit → after ≡ before ++ plain none.0
packed-plain r before unit after none is = is ∙ ap (λ b. before ++ b) none.1

-- it is packed once more
pub pack-again : (r : BlockReading) (done : ℕ) (front before unit after : List ℕ) → PacksData r done front before → PacksNoBytes r unit
    → after ≡ before ++ unit → length after ≤ r.limits.block → PacksData r (done + 1) front after
pack-again r done front before unit after packs none is fits =
    let u = none.0 in
    let same : after ≡ plain_values (add packs.made u) = packed-add packs.made u before after packs.packed_are (packed-plain r before unit after none is) in
    let one : suc done ≡ done + 1 = omega arith in
    record {
      made = add packs.made u;
      whole = subst (λ n. DataAreWhole r n front (add packs.made u)) one
          (whole-same r done front packs.made u packs.whole none.2 (λ _. subst (λ b. length b ≤ r.limits.block) same fits));
      packed_are = same;
    }

-- a number of them more, where there is nothing to pack
pack-none-more : (r : BlockReading) (done n : ℕ) (front packed unit : List ℕ) → length packed ≤ r.limits.block → unit ≡ [] → PacksData r done front packed
    → PacksNoBytes r unit → PacksData r (n + done) front packed
pack-none-more r done zero front packed unit short empty before none =
    let same : done ≡ 0 + done = omega arith in
    subst (λ k. PacksData r k front packed) same before
pack-none-more r done (suc n) front packed unit short empty before none =
    let same : packed ≡ packed ++ unit = sym (ap (λ b. packed ++ b) empty ∙ append-nil packed) in
    let one : (n + done) + 1 ≡ suc n + done = omega arith in
    subst (λ k. PacksData r k front packed) one
    (pack-again r (n + done) front packed unit packed (pack-none-more r done n front packed unit short empty before none) none same short)

-- the rest of the data of a block, where there is nothing to pack
pub pack-rest-none : (r : BlockReading) (done count : ℕ) (front packed unit : List ℕ) → done ≤ count → r.copied ≡ true → length unit ≡ 0 → PacksData r done front packed
    → PacksNoBytes r unit → PacksData r count front packed
pack-rest-none r done count front packed unit few copied short before none =
    let all : (count - done) + done ≡ count = omega (arith, few) in
    subst (λ n. PacksData r n front packed) all
    (pack-none-more r done (count - done) front packed unit (subst (λ b. length b ≤ r.limits.block) (sym before.packed_are) (before.whole.small copied))
    (nil_from_length unit short) before none)

-- it is packed once too often
pub pack-again-over : (r : BlockReading) (number count done start : ℕ) (body before unit after : List ℕ) (f : FileFault) → done < count
    → PacksData r done (take start body) before → PacksNoBytes r unit → r.copied ≡ true → after ≡ before ++ unit → r.limits.block < length after
    → Some (in_block number limit_passed) ≡ Some f → IsDataFault r number count body f
pack-again-over r number count done start body before unit after f few packs none copied is over told =
    let rest = drop start body in
    let found = made_at_front r.nodes r.limits.datum r.resolve rest (Ok none.0) none.2 in
    pack-over r number count done start 0 body before after f few packs (none.0, packed-plain r before unit after none is, found) copied over told

-- a datum without bytes was packed
pub packs_none : (r : BlockReading) (bytes before after unit : List ℕ) (len n : ℕ) → PacksOne r before after bytes len → len ≡ 0 → n ≡ length before
    → unit ≡ drop n after → PacksNoBytes r unit
packs_none r bytes before after unit len n found short end is = (
  found.0,
  is ∙ ap (drop n) found.1 ∙ drop_at before (plain found.0) n (omega (arith, end)),
  made_of_none r.nodes r.limits.datum r.resolve bytes (Ok found.0)
      (subst (λ k. MakesOf r.nodes r.limits.datum r.resolve bytes k (Ok found.0)) short found.2),
)
