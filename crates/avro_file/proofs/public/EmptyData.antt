-- Data without bytes, which stand after others.
use Rattle.std.proofs.Common.{◌≡◌, ℕ, zero, suc, ◌+◌, ◌<◌, ◌-◌, ◌≤◌, false, List, [], length, take, Some, refl, sym, subst, arith, append-nil}
use Rattle.std.proofs.lemmas.List.{nil_from_length}
use Rattle.avro_schema.specs.Fits.{LimitValues}
use Rattle.avro_schema.specs.Node.{Node}
use Rattle.avro_schema.specs.Value.{Value, Values, no_values}
use Rattle.avro_cursor.specs.Encoding.{plain_values}
use Rattle.avro_compare.specs.Resolve.{Resolved}
use Rattle.avro_file.specs.BlockFails.{BlockReading, DataAreWhole, IsNotTooMuch}
use Rattle.avro_file.specs.DataRead.{IsDataFault}
use Rattle.avro_file.specs.DatumRead.{MakesOf}
use Rattle.avro_file.specs.NoBytes.{HasNoBytes, IsMadeOfNone}
use Rattle.avro_file.specs.FileFault.{FileFault, in_block, bytes_left}
use Rattle.avro_file.proofs.public.Data.{add, data_left, not_copied, whole-more, whole-none}

-- no byte stands at the front of any bytes
pub made_of_none : (nodes : List Node) (limits : LimitValues) (resolve : Value → Resolved) (bytes : List ℕ) (made : Resolved)
    → MakesOf nodes limits resolve bytes 0 made → MakesOf nodes limits resolve [] 0 made
made_of_none nodes limits resolve bytes made m = grind arith

pub made_at_front : (nodes : List Node) (limits : LimitValues) (resolve : Value → Resolved) (bytes : List ℕ) (made : Resolved)
    → MakesOf nodes limits resolve [] 0 made → MakesOf nodes limits resolve bytes 0 made
made_at_front nodes limits resolve bytes made m = grind arith

-- one datum without bytes more
pub whole-same : (r : BlockReading) (done : ℕ) (front : List ℕ) (us : Values) (u : Value) → DataAreWhole r done front us → IsMadeOfNone r u
    → IsNotTooMuch r (plain_values (add us u)) → DataAreWhole r (suc done) front (add us u)
whole-same r done front us u whole made small =
    subst (λ b. DataAreWhole r (suc done) b (add us u)) (append-nil front)
    (whole-more r done front [] us made.datum u whole made.encoded made.within made.resolves small)

-- a number of them more, of which nothing is made
pub walk-same : (r : BlockReading) (done n : ℕ) (front : List ℕ) (us : Values) → r.copied ≡ false → DataAreWhole r done front us → HasNoBytes r
    → (vs : Values) × DataAreWhole r (n + done) front vs
walk-same r done zero front us alone whole none =
    let same : done ≡ 0 + done = omega arith in
    (us, subst (λ k. DataAreWhole r k front us) same whole)
walk-same r done (suc n) front us alone whole none =
    let before = walk-same r done n front us alone whole none in
    let one : suc (n + done) ≡ suc n + done = omega arith in (
      add before.0 none.0,
      subst (λ k. DataAreWhole r k front (add before.0 none.0)) one
          (whole-same r (n + done) front before.0 none.0 before.1 none.1 (not_copied r _ alone)),
    )

-- all data of a block stand whole as no byte
pub empty-whole : (r : BlockReading) (count : ℕ) (front : List ℕ) → r.copied ≡ false → HasNoBytes r → length front ≡ 0
    → (vs : Values) × DataAreWhole r count front vs
empty-whole r count front alone none short =
    let same : [] ≡ front = sym (nil_from_length front short) in
    let all : count + 0 ≡ count = omega arith in
    let whole = walk-same r 0 count [] no_values alone (whole-none r) none in
    (whole.0, subst (λ n. DataAreWhole r n front whole.0) all (subst (λ b. DataAreWhole r (count + 0) b whole.0) same whole.1))

-- a byte that follows them is none of theirs
pub empty-left : (r : BlockReading) (number count : ℕ) (body : List ℕ) (f : FileFault) → r.copied ≡ false → HasNoBytes r → 0 < length body
    → Some (in_block number bytes_left) ≡ Some f → IsDataFault r number count body f
empty-left r number count body f alone none more is =
    let whole = empty-whole r count [] alone none refl in
    data_left r number count 0 body whole.0 f whole.1 more is

-- the rest of the data of a block, after a datum without bytes
pub walk-rest : (r : BlockReading) (done count start : ℕ) (body : List ℕ) (us : Values) → done ≤ count → r.copied ≡ false → DataAreWhole r done (take start body) us
    → HasNoBytes r → (vs : Values) × DataAreWhole r count (take start body) vs
walk-rest r done count start body us few alone whole none =
    let all : (count - done) + done ≡ count = omega (arith, few) in
    let same = walk-same r done (count - done) (take start body) us alone whole none in
    (same.0, subst (λ n. DataAreWhole r n (take start body) same.0) all same.1)
