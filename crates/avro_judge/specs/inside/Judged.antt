-- What is decided of two schemas.
use Rattle.std.specs.Prelude.{◌≡◌, ℕ, ◌≤◌, true, List}
use Rattle.avro_schema.specs.Value.{size, depth}
use Rattle.avro_schema.specs.Node.{Node}
use Rattle.avro_schema.specs.Seen.{value_of}
use Rattle.avro_certificate.specs.Compatible.{AreCompatible, ErrsOnlyAbove, ErrsLeastDeep, IsLeastToErr}
use Rattle.avro_certificate.specs.Closed.{is_closed}
use Rattle.avro_certificate.specs.Evidence.{IsEvidence}
use Rattle.avro_certificate.specs.SeenCertificate.{dead_of, pairs_in}
use Rattle.avro_certificate.specs.declared.kept.Certificate.{Certificate}
use Rattle.avro_judge.specs.declared.deciding.Judged.{Judged}

-- a certificate holds all dead nodes and the pairs that the roots lead to, and shows that the schemas are compatible
pub record IsCertificateOf (writer reader : List Node) (c : Certificate) : Type 0 where
  pub evidence : IsEvidence writer reader (dead_of c) (pairs_in c)
  pub closed : is_closed writer reader (dead_of c) (pairs_in c) ≡ true

-- a datum is a least one that errs, within both limits
abbrev pub IsJudged : List Node → List Node → ℕ → ℕ → Judged → Type 0
IsJudged writer reader limit deepest (Judged.Compatible certificate) = AreCompatible writer reader × IsCertificateOf writer reader certificate
IsJudged writer reader limit deepest Judged.Size = ErrsOnlyAbove writer reader limit
IsJudged writer reader limit deepest Judged.Depth = ErrsLeastDeep writer reader limit deepest
IsJudged writer reader limit deepest (Judged.Erring datum) =
    IsLeastToErr writer reader (value_of datum) × (size (value_of datum) ≤ limit) × (depth (value_of datum) ≤ deepest)
