use Rattle.std.proofs.Common.{rules, ◌≡◌, ◌++◌, flat_map, sym, ◌∙◌, ap}
use Rattle.std.specs.Prelude.{codes}
use Rattle.avro_certificate.specs.CertificateText.{dead_line, pair_line}
use Rattle.avro_certificate.proofs.LineTexts.{text_is, word_same, dead_lines_same, pair_lines_same, no_dead_ahead, no_pair_ahead}
use Rattle.avro_certificate.proofs.sets.read_sets.Goals as goal

pub returns-then-ne-clause-refused : goal.returns-then-ne-clause-refused
returns-then-ne-clause-refused c =
    let front = c.in-Some.ensures in
    let nodes = c.in_ok-dead.ensures.found in
    let rest = c.in_ok-pairs.ensures.found in
    let other : c.in_ok-pairs.lines.now ≡ codes "end\n" → ⊥ = search rules in
    λ dead pairs e.
    let first = dead_lines_same nodes.0 dead _ _ (sym nodes.1 ∙ word_same (codes "approval 1\n") _ _ (sym front ∙ e ∙ text_is dead pairs)) nodes.3 (no_dead_ahead pairs) in
    let second = pair_lines_same rest.0 pairs _ _ (sym rest.1 ∙ first.1) rest.3 no_pair_ahead in
    other second.1

pub returns-clause-found : goal.returns-clause-found
returns-clause-found c =
    let front = c.in-Some.ensures in
    let nodes = c.in_ok-dead.ensures.found in
    let rest = c.in_ok-pairs.ensures.found in
    let end : c.in_ok-pairs.lines.now ≡ codes "end\n" = search rules in (
      nodes.0,
      rest.0,
      front ∙ ap (λ l. codes "approval 1\n" ++ l) (nodes.1 ∙ ap (λ l. flat_map dead_line nodes.0 ++ l) (rest.1 ∙ ap (λ l. flat_map pair_line rest.0 ++ l) end))
          ∙ sym (text_is nodes.0 rest.0),
      nodes.2,
      rest.2,
    )
