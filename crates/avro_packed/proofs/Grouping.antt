-- Groups of a number that are written one by one.
use Rattle.std.proofs.Common.{◌≡◌, ℕ, ℤ, ◌+◌, ◌/◌, ◌%◌, ◌≤◌, List, [], ◌∷◌, ◌++◌, sym, ap, subst, ◌∙◌, append_assoc}
use Rattle.std.specs.Prelude.{Result, Ok, Err, OnOk}
use Rattle.avro_zigzag.specs.Number.{zigzag, AreLeastGroups, number_bytes}
use Rattle.avro_zigzag.proofs.public.Spelling.{least-more, number_bytes-from_spelling}
use Rattle.avro_packed.specs.inside.Groups.{GroupsSoFar}

pub one_group_more : (number rest b : ℕ) (before after next : List ℕ) → 128 ≤ rest → b ≡ 128 + rest % 128 → GroupsSoFar number rest before after → next ≡ after ++ b ∷ []
    → GroupsSoFar number (rest / 128) before next
one_group_more number rest b before after next low is far added = record {
  groups = far.groups ++ b ∷ [];
  written = added ∙ ap (λ (l : List ℕ). l ++ b ∷ []) far.written ∙ append_assoc before far.groups (b ∷ []);
  so_far = λ tail least.
      subst (AreLeastGroups number) (sym (append_assoc far.groups (b ∷ []) tail))
      (far.so_far (b ∷ tail) (subst (λ n. AreLeastGroups rest (n ∷ tail)) (sym is) (least-more rest tail low least)));
}

pub groups_spell : {T E : Type 0} (r : Result T E) (v : ℤ) (n : ℕ) (old new : List ℕ) → n ≡ zigzag v
    → OnOk r ((groups : List ℕ) × AreLeastGroups n groups × (new ≡ old ++ groups)) → OnOk r (new ≡ old ++ number_bytes v)
groups_spell (Err e) v n old new is written = tt
groups_spell (Ok u) v n old new is written =
    written.2 ∙ ap (λ (l : List ℕ). old ++ l) (number_bytes-from_spelling v written.0 (subst (λ k. AreLeastGroups k written.0) is written.1))
