-- The certificates that were kept so far, and one more.
use Rattle.std.proofs.Common.{◌≡◌, ℕ, ◌+◌, ◌<◌, ◌≤◌, Bool, true, false, ◌&&◌, List, [], ◌∷◌, ◌++◌, length, get_or, take, map, refl, sym, ap, ◌∙◌, subst, arith, append_assoc, append-nil}
use Rattle.std.proofs.lemmas.List.{take_all, take_more, map-append}
use Rattle.avro_schema.specs.Node.{Node}
use Rattle.avro_schema.specs.SeenSchema.{schema_nodes}
use Rattle.avro_schema.specs.declared.schema.Schema.{Schema}
use Rattle.avro_certificate.specs.Closed.{is_closed}
use Rattle.avro_certificate.specs.SeenCertificate.{dead_of, pairs_in}
use Rattle.avro_certificate.specs.declared.kept.Certificate.{Certificate}
use Rattle.avro_judge.specs.Answered.{IsApproved, IfApproved}
use Rattle.avro_judge.specs.Headline.{IsRight}
use Rattle.avro_judge.specs.JudgeRanges.{JudgeLimitValues}
use Rattle.avro_judge.specs.declared.approval.Approved.{Approved}
use Rattle.avro_judge.specs.declared.verdict.Verdict.{Verdict}
use Rattle.avro_history.specs.ConfirmedHistory.{are_closed}
use Rattle.avro_history.specs.HistoryText.{Sets}
use Rattle.avro_history.specs.SeenHistory.{set_of}
use Rattle.avro_answer.specs.JudgeAnswer.{StatusAnswer}
use Rattle.avro_tool.specs.FoundStatus.{worse}
use Rattle.avro_tool.specs.KeptCertificates.{AddsClosed}
use Rattle.avro_tool.proofs.EachLines.{worse_is}
use Rattle.avro_tool.proofs.Verdicts.{few}

and_left : (p q : Bool) → (p && q) ≡ true → p ≡ true
and_left true q h = refl
and_left false q h = h

and_right : (p q : Bool) → (p && q) ≡ true → q ≡ true
and_right true q h = h
and_right false q h = absurd (cc)

and_both : (p q : Bool) → p ≡ true → q ≡ true → (p && q) ≡ true
and_both true q a b = b
and_both false q a b = a

closed_both : (ws us : List (List Node)) (r : List Node) (ss ts : List Sets) → are_closed ws r ss ≡ true → are_closed us r ts ≡ true
    → are_closed (ws ++ us) r (ss ++ ts) ≡ true
closed_both [] us r [] ts a b = b
closed_both [] us r (s ∷ ss) ts a b = absurd (cc)
closed_both (w ∷ ws) us r [] ts a b = absurd (cc)
closed_both (w ∷ ws) us r (s ∷ ss) ts a b =
    let first = is_closed w r s.dead s.pairs in
    and_both first (are_closed (ws ++ us) r (ss ++ ts)) (and_left first (are_closed ws r ss) a) (closed_both ws us r ss ts (and_right first (are_closed ws r ss) a) b)

pub adds_none : (reader : List Node) (old : List Certificate) → AddsClosed [] reader old old
adds_none reader old = ([], sym (append-nil (map set_of old)), refl)

adds_both : (ws us : List (List Node)) (r : List Node) (a b c : List Certificate) → AddsClosed ws r a b → AddsClosed us r b c → AddsClosed (ws ++ us) r a c
adds_both ws us r a b c first second = (
  first.0 ++ second.0,
  second.1 ∙ ap (λ l. l ++ second.0) first.1 ∙ append_assoc (map set_of a) first.0 second.0,
  closed_both ws us r first.0 second.0 first.2 second.2,
)

pub adds_one : (w r : List Node) (old new : List Certificate) (made : Certificate) → new ≡ old ++ (made ∷ []) → is_closed w r (dead_of made) (pairs_in made) ≡ true
    → AddsClosed (w ∷ []) r old new
adds_one w r old new made pushed closed = (
  set_of made ∷ [],
  ap (map set_of) pushed ∙ map-append set_of old (made ∷ []),
  and_both (is_closed w r (dead_of made) (pairs_in made)) true closed refl,
)

pub adds_next : (writers : List Schema) (reader : List Node) (i : ℕ) (writer : Schema) (old now new : List Certificate)
    → i < length writers → writer ≡ get_or writers i writer → AddsClosed (map schema_nodes (take i writers)) reader old now
    → AddsClosed (schema_nodes writer ∷ []) reader now new → AddsClosed (map schema_nodes (take (i + 1) writers)) reader old new
adds_next writers reader i writer old now new here is before one =
    let ws = map schema_nodes (take i writers) in
    let longer : map schema_nodes (take (i + 1) writers) ≡ ws ++ (schema_nodes writer ∷ []) =
    ap (map schema_nodes) (take_more writers i writer here)
    ∙ map-append schema_nodes (take i writers) (get_or writers i writer ∷ [])
    ∙ ap (λ (s : Schema). map schema_nodes (take i writers) ++ (schema_nodes s ∷ [])) (sym is) in
    subst (λ all. AddsClosed all reader old new) (sym longer) (adds_both ws (schema_nodes writer ∷ []) reader old now new before one)

pub adds_all : (writers : List Schema) (reader : List Node) (i : ℕ) (old now : List Certificate) → length writers ≤ i
    → AddsClosed (map schema_nodes (take i writers)) reader old now → AddsClosed (map schema_nodes writers) reader old now
adds_all writers reader i old now past kept = subst (λ all. AddsClosed (map schema_nodes all) reader old now) (take_all i writers past) kept

pub both_yes : (a b : ℕ) → worse a b ≡ 0 → (a ≡ 0) × (b ≡ 0)
both_yes a b e = (grind (arith, worse_is a b), grind (arith, worse_is a b))

of_approval : (v : Verdict) (P : Approved → Type 0) (w r : Schema) → IsApproved v → IfApproved v (λ a. a ≡ (w, r)) → IfApproved v P → P (w, r)
of_approval (Verdict.Approved a) P w r approved is given = subst P is given
of_approval (Verdict.Refuted a) P w r approved is given = absurd approved
of_approval (Verdict.Undecided a) P w r approved is given = absurd approved

pub kept_one : (writer reader : Schema) (limits : JudgeLimitValues) (verdict : Verdict) (s t : ℕ) (old new : List Certificate) → IsRight writer reader limits verdict
    → StatusAnswer (schema_nodes writer) (schema_nodes reader) limits s → (s ≤ 2 → t ≡ s)
    → IfApproved verdict (λ a. AddsClosed (schema_nodes a.0 ∷ []) (schema_nodes a.1) old new) → t ≡ 0
    → AddsClosed (schema_nodes writer ∷ []) (schema_nodes reader) old new
kept_one writer reader limits verdict s t old new right told same kept good =
    let zero : s ≡ 0 = sym (same (few s told.known)) ∙ good in
    let fine = told.yes.0 zero in
    of_approval verdict (λ a. AddsClosed (schema_nodes a.0 ∷ []) (schema_nodes a.1) old new) writer reader (right.approves fine.0 fine.1) right.of_these kept
