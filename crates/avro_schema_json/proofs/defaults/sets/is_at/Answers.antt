use Rattle.avro_schema_json.proofs.Words.{Some, sym, ap, ◌∙◌, bytes_eq-Decides}
use Rattle.avro_schema_json.proofs.defaults.sets.is_at.Goals as goal

pub returns-in-Some : goal.returns-in-Some
returns-in-Some c = λ yes. sym c.in-Some.ensures ∙ ap Some ((bytes_eq-Decides _ _).0 (sym c.eq.ensures ∙ yes))
