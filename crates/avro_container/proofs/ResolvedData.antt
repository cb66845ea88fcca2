-- What is made of data is one, and as many.
use Rattle.std.proofs.Common.{◌≡◌, suc, Ok, sym, ap, ◌∙◌}
use Rattle.avro_schema.specs.Value.{Value, Values, no_values, value, values_count}
use Rattle.avro_compare.specs.Resolve.{Resolved}
use Rattle.avro_file.specs.Copied.{EachResolved}

pub same_ok : (u w : Value) → ◌≡◌ {A = Resolved} (Ok u) (Ok w) → u ≡ w
same_ok u w q = cc

pub same_made : (resolve : Value → Resolved) (vs us ws : Values) → EachResolved resolve vs us → EachResolved resolve vs ws → us ≡ ws
same_made resolve no_values us ws e f = e ∙ sym f
same_made resolve (value v vs) us ws (u, us', made, more, e) (w, ws', other, others, f) =
    e ∙ (λ i. value (same_ok u w (sym made ∙ other) i) (same_made resolve vs us' ws' more others i)) ∙ sym f

pub resolved-count : (resolve : Value → Resolved) (vs us : Values) → EachResolved resolve vs us → values_count us ≡ values_count vs
resolved-count resolve no_values us e = ap values_count e
resolved-count resolve (value v vs) us (first, others, made, more, e) = ap values_count e ∙ ap suc (resolved-count resolve vs others more)
