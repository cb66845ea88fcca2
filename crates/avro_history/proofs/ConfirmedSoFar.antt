-- What was confirmed of the first of several writers' schemas.
use Rattle.std.proofs.Common.{◌≡◌, ℕ, suc, ◌+◌, ◌<◌, true, false, Option, Some, List, [], ◌∷◌, ◌++◌, length, get_or, drop, map, refl, sym, ap, ◌∙◌, subst, append_assoc}
use Rattle.std.proofs.lemmas.Bool.{and_right}
use Rattle.std.specs.Prelude.{◌&&◌}
use Rattle.std.specs.Option.{IfSome}
use Rattle.std.specs.List.{AllByRecursion}
use Rattle.avro_schema.specs.Node.{Node}
use Rattle.avro_schema.specs.SeenSchema.{schema_nodes}
use Rattle.avro_schema.specs.declared.schema.Schema.{Schema}
use Rattle.avro_certificate.specs.Closed.{is_closed}
use Rattle.avro_certificate.specs.Compatible.{AreCompatible}
use Rattle.avro_certificate.specs.SeenCertificate.{dead_of, pairs_in}
use Rattle.avro_certificate.specs.declared.kept.Certificate.{Certificate}
use Rattle.avro_history.specs.ConfirmedHistory.{are_closed, nodes_of_all}
use Rattle.avro_history.specs.SeenHistory.{set_of}
use Rattle.avro_history.proofs.Written.{from_index}

-- what is known of an answer, if there is one
pub some_at : {A : Type 0} (o : Option A) (a : A) (P : A → Type 0) → o ≡ Some a → IfSome o P → P a
some_at o a P is h = subst (λ x. IfSome x P) is h

-- the schemas beside the reader's
abbrev pub beside : Schema → List Schema → List (Schema × Schema)
beside reader writers = map (λ writer. (writer, reader)) writers

-- what is confirmed of the others holds of all
pub record ConfirmedSoFar (writers : List Schema) (reader : Schema) (certificates : List Certificate) (i : ℕ) (approvals : List (Schema × Schema)) : Type 0 where
  pub closed : are_closed (nodes_of_all (drop i writers)) (schema_nodes reader) (map set_of (drop i certificates))
      ≡ are_closed (nodes_of_all writers) (schema_nodes reader) (map set_of certificates)
  pub compatible : AllByRecursion (λ writer. AreCompatible writer (schema_nodes reader)) (nodes_of_all (drop i writers))
      → AllByRecursion (λ writer. AreCompatible writer (schema_nodes reader)) (nodes_of_all writers)
  pub approved : approvals ++ beside reader (drop i writers) ≡ beside reader writers

-- where there are not as many certificates as writers
pub uneven : (writers : List Schema) (reader : List Node) (certificates : List Certificate) → (length writers ≡ length certificates → ⊥)
    → are_closed (nodes_of_all writers) reader (map set_of certificates) ≡ false
uneven [] reader [] h = absurd (h refl)
uneven [] reader (c ∷ cs) h = refl
uneven (w ∷ ws) reader [] h = refl
uneven (w ∷ ws) reader (c ∷ cs) h =
    and_right (is_closed (schema_nodes w) reader (dead_of c) (pairs_in c)) (are_closed (nodes_of_all ws) reader (map set_of cs)) (uneven ws reader cs (λ e. h (ap suc e)))

module _ (writers : List Schema) (reader : Schema) (certificates : List Certificate) (i : ℕ) (approvals : List (Schema × Schema))
    (before : ConfirmedSoFar writers reader certificates i approvals) where
  module _ (writer : Schema) (certificate : Certificate) (in_writers : i < length writers) (in_certificates : i < length certificates)
      (writer_at : writer ≡ get_or writers i writer) (certificate_at : certificate ≡ get_or certificates i certificate) where
    left_is : are_closed (nodes_of_all (drop i writers)) (schema_nodes reader) (map set_of (drop i certificates))
        ≡ (is_closed (schema_nodes writer) (schema_nodes reader) (dead_of certificate) (pairs_in certificate)
        && are_closed (nodes_of_all (drop (i + 1) writers)) (schema_nodes reader) (map set_of (drop (i + 1) certificates)))
    left_is =
        ap (λ (l : List Schema). are_closed (nodes_of_all l) (schema_nodes reader) (map set_of (drop i certificates))) (from_index writers i writer in_writers writer_at)
        ∙ ap (λ (l : List Certificate). are_closed (nodes_of_all (writer ∷ drop (i + 1) writers)) (schema_nodes reader) (map set_of l))
        (from_index certificates i certificate in_certificates certificate_at)

    pub confirmed_one : is_closed (schema_nodes writer) (schema_nodes reader) (dead_of certificate) (pairs_in certificate) ≡ true
        → AreCompatible (schema_nodes writer) (schema_nodes reader)
        → ConfirmedSoFar writers reader certificates (i + 1) (approvals ++ ((writer, reader) ∷ []))
    confirmed_one is compatible = record {
      closed = sym (left_is ∙ ap (λ b. b && are_closed (nodes_of_all (drop (i + 1) writers)) (schema_nodes reader) (map set_of (drop (i + 1) certificates))) is) ∙ before.closed;
      compatible = λ h. before.compatible (subst (λ (l : List Schema). AllByRecursion (λ w. AreCompatible w (schema_nodes reader)) (nodes_of_all l))
          (sym (from_index writers i writer in_writers writer_at)) (compatible, h));
      approved = append_assoc approvals ((writer, reader) ∷ []) (beside reader (drop (i + 1) writers))
          ∙ ap (λ (l : List Schema). approvals ++ beside reader l) (sym (from_index writers i writer in_writers writer_at)) ∙ before.approved;
    }
