use Rattle.std.proofs.Common.{bytes_eq, sym}
use Rattle.std.proofs.lemmas.Map.Text.{is_eq-slice_cmp}
use Rattle.avro_schema.proofs.Unique.{are_distinct-map}
use Rattle.avro_schema.proofs.uniqueness.are_unique_texts.Goals as goal

pub returns : goal.returns
returns c = rw (sym (are_distinct-map (λ t. t.now) _ bytes_eq (λ x y. is_eq-slice_cmp x.now y.now) c.args.texts.items)) c.are_unique.ensures
