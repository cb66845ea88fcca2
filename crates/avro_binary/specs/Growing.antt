-- What stands in an output stands in it for good.
use Rattle.std.proofs.Common.{◌≡◌, ℕ, List, [], ◌++◌, sym, ap, ◌∙◌, append_assoc}
use Rattle.std.proofs.lemmas.List.{append-nil}
use Rattle.avro_binary.specs.Outputs.{Grows, StandsAt}

pub grows_none : (s : List ℕ) → Grows s s
grows_none s = record { more = []; grown = sym (append-nil s) }

pub grows_on : (s t u : List ℕ) → Grows s t → Grows t u → Grows s u
grows_on s t u before after = record {
  more = before.more ++ after.more;
  grown = after.grown ∙ ap (λ (l : List ℕ). l ++ after.more) before.grown ∙ append_assoc s before.more after.more;
}

pub stands_still : (s t : List ℕ) (start end : ℕ) (bytes : List ℕ) → Grows s t → StandsAt s start end bytes → StandsAt t start end bytes
stands_still s t start end bytes kept stand = record {
  before = stand.before;
  rest = stand.rest ++ kept.more;
  split = kept.grown ∙ ap (λ (l : List ℕ). l ++ kept.more) stand.split ∙ append_assoc (stand.before ++ bytes) stand.rest kept.more;
  starts = stand.starts;
  ends = stand.ends;
}
