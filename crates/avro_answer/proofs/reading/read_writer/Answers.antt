use Rattle.std.proofs.Common.{◌≡◌, ◌<◌, length, Err, ap, refl}
use Rattle.avro_schema_json.specs.Declaration.{max_text}
use Rattle.avro_schema_json.specs.declared.error.SchemaError.{SchemaError}
use Rattle.avro_answer.proofs.Refused.{known_refusal, of_err, writer_refused}
use Rattle.avro_answer.proofs.public.RefusedTexts.{not_long}
use Rattle.avro_answer.specs.declared.refusal.Refusal.{Refusal}
use Rattle.avro_answer.proofs.reading.read_writer.Goals as goal

pub returns-in-Ok-clause-found : goal.returns-in-Ok-clause-found
returns-in-Ok-clause-found c = (not_long c.args.text.now c.in-Ok.schema SchemaError.LimitExceeded c.in-Ok.ensures.too_long, c.in-Ok.ensures.found)

pub returns-in-Err : goal.returns-in-Err
returns-in-Err c =
    let long : max_text < length c.args.text.now → c.in-Err.e ≡ SchemaError.LimitExceeded
    = λ h. of_err (Err c.in-Err.e) c.in-Err.e SchemaError.LimitExceeded refl (c.in-Err.ensures.too_long h) in record {
      found = tt;
      too_long = λ h. ap Err (known_refusal Refusal.Writer c.in-Err.e c.unless_memory.result (long h) c.unless_memory.ensures.other);
      refused = writer_refused c.args.text.now c.in-Err.e c.in-Err.ensures.refused (λ h. (c.in-Err.ensures.not_json.0 (ap Err h)).2) long
          c.unless_memory.result c.unless_memory.ensures.memory c.unless_memory.ensures.other;
      complete = λ h. c.unless_memory.ensures.memory (c.in-Err.ensures.complete h.1.1.0 h.0 h.1.1.1 h.1.1.2 h.1.0);
    }
