use Rattle.avro_schema_json.proofs.Words.{◌≡◌, List, ℕ, true, sym, subst, ◌∙◌, same_Some, has_place}
use Rattle.avro_schema_json.proofs.defaults.marks.keep_either.Goals as goal

pub returns : goal.returns
returns c = λ first second at other.
    let one = same_Some c.in-Some.first.now.words first (c.in-Some.ensures ∙ at) in
    let two = same_Some c.in-Some-row_of.second.now.words second (c.in-Some-row_of.ensures ∙ other) in (
      c.add_row.new.row.words,
      λ p h. c.add_row.ensures.kept p (subst (λ (r : List ℕ). has_place r p ≡ true) (sym one) h),
      λ p h. c.add_row.ensures.added p (subst (λ (r : List ℕ). has_place r p ≡ true) (sym two) h),
      λ p h there. c.keep_row.ensures p h there,
    )
