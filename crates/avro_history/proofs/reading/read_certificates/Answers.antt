use Rattle.std.proofs.Common.{rules, ◌≡◌, ℕ, inl, inr, List, [], ◌∷◌, ◌++◌, map, sym, ◌∙◌, ap, subst}
use Rattle.std.proofs.lemmas.List.{map-append}
use Rattle.std.specs.Prelude.{codes}
use Rattle.avro_history.specs.HistoryText.{Sets}
use Rattle.avro_history.specs.SeenHistory.{set_of}
use Rattle.avro_history.proofs.Refusals.{great_number, no_certificate, not_great, not_malformed}
use Rattle.avro_history.proofs.ReadSoFar.{ReadSoFar, read_one, read_great, no_lines, no_small_lines, longer, all_kept}
use Rattle.avro_history.proofs.reading.read_certificates.Goals as goal

pub loop-rest-preserved-in_ok-push-in-Ok : goal.loop-rest-preserved-in_ok-push-in-Ok
loop-rest-preserved-in_ok-push-in-Ok c =
    let goes_on : c.loop-rest.rest.now ≡ codes "end\n" → ⊥ = search rules in
    let pushed : map set_of c.push.new.self.items ≡ map set_of c.loop-rest.certificates.items ++ (set_of c.in-Ok.certificate ∷ []) =
    ap (map set_of) c.in_ok-push-in-Ok.ensures.items ∙ map-append set_of c.loop-rest.certificates.items (c.in-Ok.certificate ∷ []) in
    subst (λ (l : List Sets). ReadSoFar c.args.text.now c.split_certificate.result.1.now l c.loop-rest.is_too_large) (sym pushed)
    (read_one c.args.text.now c.loop-rest.rest.now c.split_certificate.result.0.now c.split_certificate.result.1.now (map set_of c.loop-rest.certificates.items)
    c.loop-rest.is_too_large c.loop-rest.invariant goes_on c.split_certificate.ensures.whole c.split_certificate.ensures.parted
    (set_of c.in-Ok.certificate) c.in-Ok.ensures.found c.in-Ok.ensures.small c.in-Ok.ensures.complete)

pub loop-rest-preserved : goal.loop-rest-preserved
loop-rest-preserved c =
    let goes_on : c.loop-rest.rest.now ≡ codes "end\n" → ⊥ = search rules in
    let great = great_number c.in-Err-NumberTooLarge.field-0 c.split_certificate.result.0.now c.in-Err-NumberTooLarge.field-0-is c.in-Err-NumberTooLarge.ensures.refused in
    read_great c.args.text.now c.loop-rest.rest.now c.split_certificate.result.0.now c.split_certificate.result.1.now (map set_of c.loop-rest.certificates.items)
    c.loop-rest.is_too_large c.loop-rest.invariant goes_on c.split_certificate.ensures.whole c.split_certificate.ensures.parted
    (record { dead = great.dead; pairs = great.pairs }) great.written great.great
    (λ dead pairs certified small. not_great c.in-Err-NumberTooLarge.field-0 _ c.in-Err-NumberTooLarge.field-0-is (c.in-Err-NumberTooLarge.ensures.complete dead pairs certified small))

pub returns-else-is_too_large-clause-complete : goal.returns-else-is_too_large-clause-complete
returns-else-is_too_large-clause-complete c =
    let ends : c.loop-rest.rest.now ≡ codes "end\n" = search rules in
    all_kept c.args.text.now c.loop-rest.rest.now (map set_of c.loop-rest.certificates.items) c.loop-rest.is_too_large c.loop-rest.invariant ends

pub returns-in-Err-Malformed-clause-complete : goal.returns-in-Err-Malformed-clause-complete
returns-in-Err-Malformed-clause-complete c =
    let goes_on : c.loop-rest.rest.now ≡ codes "end\n" → ⊥ = search rules in
    no_small_lines c.args.text.now c.loop-rest.rest.now c.split_certificate.result.0.now c.split_certificate.result.1.now (map set_of c.loop-rest.certificates.items)
    c.loop-rest.is_too_large c.loop-rest.invariant goes_on c.split_certificate.ensures.whole c.split_certificate.ensures.parted
    (λ dead pairs certified small. not_malformed c.in-Err-Malformed.field-0 _ c.in-Err-Malformed.field-0-is (c.in-Err-Malformed.ensures.complete dead pairs certified small))

pub returns-in-Err-Malformed-clause-refused : goal.returns-in-Err-Malformed-clause-refused
returns-in-Err-Malformed-clause-refused c =
    let goes_on : c.loop-rest.rest.now ≡ codes "end\n" → ⊥ = search rules in
    let malformed = no_certificate c.in-Err-Malformed.field-0 c.split_certificate.result.0.now c.in-Err-Malformed.field-0-is c.in-Err-Malformed.ensures.refused in
    elim malformed [
      | inl long ↦ inl (longer c.args.text.now c.loop-rest.rest.now c.split_certificate.result.0.now c.split_certificate.result.1.now (map set_of c.loop-rest.certificates.items)
          c.loop-rest.is_too_large c.loop-rest.invariant goes_on c.split_certificate.ensures.whole c.split_certificate.ensures.parted 268435456 long)
      | inr none ↦ inr (no_lines c.args.text.now c.loop-rest.rest.now c.split_certificate.result.0.now c.split_certificate.result.1.now (map set_of c.loop-rest.certificates.items)
          c.loop-rest.is_too_large c.loop-rest.invariant goes_on c.split_certificate.ensures.whole c.split_certificate.ensures.parted none)
    ]
