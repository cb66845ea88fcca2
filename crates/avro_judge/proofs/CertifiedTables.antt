-- What is made of the tables is the certificate.
use Rattle.std.proofs.Common.{◌≡◌, ℕ, ◌*◌, Bool, true, false, not, List, [], Option, Some, None, length, refl, sym, ap, ◌∙◌, subst}
use Rattle.std.proofs.lemmas.Bool.{false≢true, true≢false}
use Rattle.std.specs.Prelude.{is_none, is_some, nat_lt}
use Rattle.std.specs.List.{list_all}
use Rattle.avro_schema.specs.Node.{Node}
use Rattle.avro_schema.specs.WellFormed.{is_schema}
use Rattle.avro_certificate.specs.CertificateText.{is_rising, is_before}
use Rattle.avro_compare.specs.Children.{Pair}
use Rattle.avro_certificate.specs.Closed.{is_among, is_closed}
use Rattle.avro_certificate.specs.Evidence.{IsEvidence, IsGreatestDead}
use Rattle.avro_least.specs.Asked.{ArePairsShown, steps_at}
use Rattle.avro_judge.specs.inside.Evidence.{dead_below, pairs_at, AreCalm, AreOfKeys, AreCertified}
use Rattle.avro_least.specs.FoundTables.{AreTables}
use Rattle.avro_least.specs.Tables.{Least, LeastTable, AreDataShown, AreLow, erring_of}
use Rattle.avro_least.specs.Reached.{is_key, AreFollowed, IsSteppedTo}
use Rattle.avro_least.specs.SeenLeast.{seen, table_of}
use Rattle.avro_least.specs.declared.kept.Least.{Least as KeptLeast}
use Rattle.avro_judge.proofs.DeadIds.{dead_is, dead_greatest, dead_rising}
use Rattle.avro_judge.proofs.Evidence.{closed_small, evidence_dead, closed_dead, evidence_live, closed_live}
use Rattle.avro_judge.proofs.PairNumbers.{pairs_rising}
use Rattle.avro_least.proofs.public.Stepping.{some_nodes}

-- whether a node has no entry, by the entry that was looked up
pub no_entry : (o : Option KeptLeast) (t : Option Least) (b : Bool) → seen o ≡ t → is_some o ≡ not b → is_none t ≡ b
no_entry None t true is s = ap is_none (sym is)
no_entry None t false is s = absurd (false≢true s)
no_entry (Some e) t true is s = absurd (true≢false s)
no_entry (Some e) t false is s = ap is_none (sym is)

module _ (writer reader : List Node) (es : List (Option KeptLeast)) (keys : List ℕ) (formed : is_schema writer ≡ true) (theirs : is_schema reader ≡ true)
    (one_each : length es ≡ length writer) (calm : AreCalm writer reader (table_of es) keys) where
  greatest : IsGreatestDead writer (dead_below (table_of es) (length es))
  greatest = dead_greatest writer calm.limit es calm.tables.low.for_data calm.tables.has_data one_each

  is : (p : ℕ) → is_among (dead_below (table_of es) (length es)) p ≡ is_none (table_of es p)
  is = dead_is writer calm.limit es calm.tables.low.for_data calm.tables.has_data one_each

  certified : (pairs : List Pair) → IsEvidence writer reader (dead_below (table_of es) (length es)) pairs
      → is_closed writer reader (dead_below (table_of es) (length es)) pairs ≡ true → is_rising is_before pairs ≡ true
      → AreCertified writer reader (dead_below (table_of es) (length es)) pairs
  certified pairs evidence closed rising = record {
    evidence = evidence;
    closed = closed;
    rising = dead_rising (table_of es) (length es);
    rising_pairs = rising;
    small = closed_small writer reader (dead_below (table_of es) (length es)) pairs formed theirs closed;
  }

  no_pairs : is_none (table_of es 0) ≡ true → AreCertified writer reader (dead_below (table_of es) (length es)) []
  no_pairs gone =
      let dead : is_among (dead_below (table_of es) (length es)) 0 ≡ true = is 0 ∙ gone in
      certified []
      (evidence_dead writer reader calm.limit (table_of es) keys calm.entries (dead_below (table_of es) (length es)) formed theirs calm.tables calm.calm is greatest dead)
      (closed_dead writer reader calm.limit (table_of es) keys calm.entries (dead_below (table_of es) (length es)) formed theirs calm.tables calm.calm is greatest dead)
      refl

  all_pairs : is_none (table_of es 0) ≡ false → ((k : ℕ) → is_key keys k ≡ true → IsSteppedTo (steps_at writer reader (table_of es)) k)
      → (pairs : List Pair) → AreOfKeys (length reader) keys pairs → AreCertified writer reader (dead_below (table_of es) (length es)) pairs
  all_pairs live stepped pairs own =
      let alive : is_among (dead_below (table_of es) (length es)) 0 ≡ false = is 0 ∙ live in
      subst (λ (ps : List Pair). AreCertified writer reader (dead_below (table_of es) (length es)) ps) (sym own.are)
      (certified (pairs_at (length reader) own.numbers)
      (evidence_live writer reader calm.limit (table_of es) keys calm.entries (dead_below (table_of es) (length es)) formed theirs calm.tables calm.calm is greatest own.numbers own.same stepped alive)
      (closed_live writer reader calm.limit (table_of es) keys calm.entries (dead_below (table_of es) (length es)) formed theirs calm.tables calm.calm is greatest own.numbers own.same stepped alive)
      (pairs_rising (length reader) own.numbers (some_nodes reader theirs) own.rising))

  placed : (count : ℕ) (dead : List ℕ) (pairs : List Pair) → count ≡ length writer → dead ≡ dead_below (table_of es) count
      → AreCertified writer reader (dead_below (table_of es) (length es)) pairs → AreCertified writer reader dead pairs
  placed count dead pairs n listed own =
      subst (λ (ds : List ℕ). AreCertified writer reader ds pairs) (sym listed)
      (subst (λ (k : ℕ). AreCertified writer reader (dead_below (table_of es) k) pairs) (one_each ∙ sym n) own)

  -- the root of the writer's schema is dead
  pub certified_dead : (count : ℕ) (dead : List ℕ) (pairs : List Pair) → count ≡ length writer → dead ≡ dead_below (table_of es) count → pairs ≡ []
      → is_none (table_of es 0) ≡ true → AreCertified writer reader dead pairs
  certified_dead count dead pairs n listed none gone =
      subst (λ (ps : List Pair). AreCertified writer reader dead ps) (sym none) (placed count dead [] n listed (no_pairs gone))

  -- it is not
  pub certified_live : (count : ℕ) (dead : List ℕ) (pairs : List Pair) → count ≡ length writer → dead ≡ dead_below (table_of es) count
      → AreOfKeys (length reader) keys pairs → ((k : ℕ) → is_key keys k ≡ true → IsSteppedTo (steps_at writer reader (table_of es)) k)
      → is_none (table_of es 0) ≡ false → AreCertified writer reader dead pairs
  certified_live count dead pairs n listed own stepped live = placed count dead pairs n listed (all_pairs live stepped pairs own)

-- the same of the lists that a certificate keeps
pub evidence_as : (writer reader : List Node) (dead kept : List ℕ) (pairs kept_pairs : List Pair) → kept ≡ dead → kept_pairs ≡ pairs
    → IsEvidence writer reader dead pairs → IsEvidence writer reader kept kept_pairs
evidence_as writer reader dead kept pairs kept_pairs d p own =
    subst (λ (ds : List ℕ). IsEvidence writer reader ds kept_pairs) (sym d) (subst (λ (ps : List Pair). IsEvidence writer reader dead ps) (sym p) own)

pub closed_as : (writer reader : List Node) (dead kept : List ℕ) (pairs kept_pairs : List Pair) → kept ≡ dead → kept_pairs ≡ pairs
    → is_closed writer reader dead pairs ≡ true → is_closed writer reader kept kept_pairs ≡ true
closed_as writer reader dead kept pairs kept_pairs d p own =
    subst (λ (ds : List ℕ). is_closed writer reader ds kept_pairs ≡ true) (sym d) (subst (λ (ps : List Pair). is_closed writer reader dead ps ≡ true) (sym p) own)

-- what judging finds of two schemas, as one record
pub tables_of : (writer reader : List Node) (limit : ℕ) (table : LeastTable) (keys : List ℕ) (entries : List (Option Least)) → AreDataShown writer limit table
    → AreLow writer reader limit table (erring_of (length reader) table keys entries) → ArePairsShown writer reader limit table keys entries → is_key keys 0 ≡ true
    → list_all (λ k. nat_lt k (length writer * length reader)) keys ≡ true → AreFollowed (steps_at writer reader table) keys (length keys)
    → AreTables writer reader limit table keys entries
tables_of writer reader limit table keys entries d l s r b c = record { has_data = d; low = l; shown = s; root = r; below = b; closed = c }
