use Rattle.std.proofs.Common.{◌≡◌, ◌∙◌, ℕ, List, ◌++◌, refl, sym, ap, subst, append_assoc}
use Rattle.std.specs.Prelude.{string_bytes, codes}
use Rattle.avro_explain.specs.declared.found.Detail.{Detail}
use Rattle.avro_answer.specs.FaultLine.{reason_text}
use Rattle.avro_answer.specs.inside.NamedLine.{missing_seen}
use Rattle.avro_answer.proofs.named_fault.NamedFault.put_reason.Goals as goal

symbol_reason : (d : Detail) (k : ℕ) → d ≡ Detail.NoSymbol k → (old missing written read : List ℕ)
    → old ++ (missing ++ (codes " is not a symbol of the reader's " ++ (read ++ codes ", which has no default"))) ≡ old ++ reason_text d missing written read
symbol_reason d k e old missing written read =
    subst (λ (x : Detail). old ++ (missing ++ (codes " is not a symbol of the reader's " ++ (read ++ codes ", which has no default"))) ≡ old ++ reason_text x missing written read) (sym e) refl

pub returns-in_ok-push_str-in-NotUtf8 : goal.returns-in_ok-push_str-in-NotUtf8
returns-in_ok-push_str-in-NotUtf8 c =
    let named = c.args.self.now in
    c.in_ok-push_str-in-NotUtf8.ensures.bytes
    ∙ ap (λ (d : Detail). string_bytes c.args.text.now ++ reason_text d (missing_seen named) (string_bytes named.writer.type_text) (string_bytes named.reader.type_text)) (sym c.in-NotUtf8.is)

pub returns-in_ok-push_str-in-NoBranch-2 : goal.returns-in_ok-push_str-in-NoBranch-2
returns-in_ok-push_str-in-NoBranch-2 c =
    let named = c.args.self.now in
    let old = string_bytes c.args.text.now in
    let written = string_bytes named.writer.type_text in
    c.in_ok-push_str-in-NoBranch-2.ensures.bytes
    ∙ ap (λ (ts : List ℕ). string_bytes c.push_str-in-NoBranch.new.self ++ ts) c.as_str-in-NoBranch.ensures.value
    ∙ ap (λ (ts : List ℕ). ts ++ written) c.in_ok-push_str-in-NoBranch.ensures.bytes
    ∙ append_assoc old (codes "no branch of the reader's union accepts ") written
    ∙ ap (λ (d : Detail). old ++ reason_text d (missing_seen named) written (string_bytes named.reader.type_text)) (sym c.in-NoBranch.is)

pub returns-in_ok-push_str-in-MissingField-2 : goal.returns-in_ok-push_str-in-MissingField-2
returns-in_ok-push_str-in-MissingField-2 c =
    let named = c.args.self.now in
    let old = string_bytes c.args.text.now in
    let written = string_bytes named.writer.type_text in
    let words = codes " of the writer has no such field, and there is no default" in
    c.in_ok-push_str-in-MissingField-2.ensures.bytes
    ∙ ap (λ (ts : List ℕ). ts ++ words) (c.in_ok-push_str-in-MissingField.ensures.bytes ∙ ap (λ (ts : List ℕ). old ++ ts) c.as_str-in-MissingField.ensures.value)
    ∙ append_assoc old written words
    ∙ ap (λ (d : Detail). old ++ reason_text d (missing_seen named) written (string_bytes named.reader.type_text)) (sym c.in-MissingField.is)

pub returns-in_ok-push_str-in-NoSymbol-3 : goal.returns-in_ok-push_str-in-NoSymbol-3
returns-in_ok-push_str-in-NoSymbol-3 c =
    let named = c.args.self.now in
    let old = string_bytes c.args.text.now in
    let missing = missing_seen named in
    let read = string_bytes named.reader.type_text in
    let words = codes " is not a symbol of the reader's " in
    let end = codes ", which has no default" in
    c.in_ok-push_str-in-NoSymbol-3.ensures.bytes
    ∙ ap (λ (ts : List ℕ). ts ++ end) (c.in_ok-push_str-in-NoSymbol-2.ensures.bytes
    ∙ ap (λ (ts : List ℕ). string_bytes c.push_str-in-NoSymbol.new.self ++ ts) c.as_str-in-NoSymbol.ensures.value
    ∙ ap (λ (ts : List ℕ). ts ++ read) (c.in_ok-push_str-in-NoSymbol.ensures.bytes ∙ ap (λ (ts : List ℕ). ts ++ words) c.in_ok-put_missing-in-NoSymbol.ensures))
    ∙ append_assoc ((old ++ missing) ++ words) read end
    ∙ append_assoc (old ++ missing) words (read ++ end)
    ∙ append_assoc old missing (words ++ (read ++ end))
    ∙ symbol_reason named.detail c.in-NoSymbol.field-0 c.in-NoSymbol.is old missing (string_bytes named.writer.type_text) read
