use Rattle.std.proofs.Common.{ℕ, List, ◌++◌, ◌∷◌, sym, ◌∙◌, ap, arith}
use Rattle.std.specs.Prelude.{codes}
use Rattle.avro_certificate.specs.CertificateText.{decimal}
use Rattle.avro_certificate.proofs.LineTexts.{pair_line_is, pair_path, word_same, number_same}
use Rattle.avro_certificate.proofs.lines.read_pair_line.Goals as goal

pub returns-in_err-numerals : goal.returns-in_err-numerals
returns-in_err-numerals c = grind (arith, pair_line_is)

pub returns-in_err-writer : goal.returns-in_err-writer
returns-in_err-writer c = grind (arith, pair_line_is, word_same)

pub returns-in_err-reader : goal.returns-in_err-reader
returns-in_err-reader c = grind (arith, number_same, pair_line_is, word_same)

pub returns : goal.returns
returns c =
    let behind = c.in_ok-numerals.ensures in
    let first = c.in_ok-writer.ensures in
    let second = c.in_ok-reader.ensures in (
      record { w = first.0; r = second.0 },
      behind ∙ ap (λ l. codes "pair " ++ l) (first.1 ∙ ap (λ (l : List ℕ). decimal first.0 ++ (32 ∷ l)) second.1)
          ∙ sym (pair_line_is (record { w = first.0; r = second.0 }) c.in_ok-reader.rest.now),
      pair_path _ _ first.2 second.2,
    )
