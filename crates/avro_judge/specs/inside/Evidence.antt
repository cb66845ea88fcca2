-- The lists of a certificate, as they are made of the tables.
use Rattle.std.specs.Prelude.{◌≡◌, ℕ, zero, suc, ◌/◌, ◌%◌, true, cond, Option, None, List, [], ◌∷◌, ◌++◌, length, map, is_none, nat_lt}
use Rattle.avro_schema.specs.Node.{Node}
use Rattle.avro_certificate.specs.CertificateText.{is_rising, is_before, are_small}
use Rattle.avro_compare.specs.Children.{Pair}
use Rattle.avro_certificate.specs.Closed.{is_closed}
use Rattle.avro_certificate.specs.Evidence.{IsEvidence}
use Rattle.avro_least.specs.FoundTables.{AreTables}
use Rattle.avro_least.specs.Tables.{Least, LeastTable, erring_of}
use Rattle.avro_least.specs.Reached.{is_key}

-- the pair of a number
abbrev pub pair_at : ℕ → ℕ → Pair
pair_at count k = record { w = k / count; r = k % count }

abbrev pub pairs_at : ℕ → List ℕ → List Pair
pairs_at count ks = map (pair_at count) ks

-- the ids of the nodes without an entry, below a number
abbrev pub dead_below : LeastTable → ℕ → List ℕ
dead_below table zero = []
dead_below table (suc n) = dead_below table n ++ cond (is_none (table n)) (n ∷ []) []

-- the tables say that the roots have no entry
pub record AreCalm (writer reader : List Node) (table : LeastTable) (keys : List ℕ) : Type 0 where
  pub limit : ℕ
  pub entries : List (Option Least)
  pub tables : AreTables writer reader limit table keys entries
  pub calm : erring_of (length reader) table keys entries 0 0 ≡ None

-- the pairs of the keys, in order
pub record AreOfKeys (count : ℕ) (keys : List ℕ) (pairs : List Pair) : Type 0 where
  pub numbers : List ℕ
  pub same : (k : ℕ) → is_key numbers k ≡ is_key keys k
  pub rising : is_rising nat_lt numbers ≡ true
  pub are : pairs ≡ pairs_at count numbers

-- the lists are the certificate of two schemas
pub record AreCertified (writer reader : List Node) (dead : List ℕ) (pairs : List Pair) : Type 0 where
  pub evidence : IsEvidence writer reader dead pairs
  pub closed : is_closed writer reader dead pairs ≡ true
  pub rising : is_rising nat_lt dead ≡ true
  pub rising_pairs : is_rising is_before pairs ≡ true
  pub small : are_small dead pairs ≡ true
