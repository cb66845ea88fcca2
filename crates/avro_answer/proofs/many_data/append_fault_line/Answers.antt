use Rattle.std.proofs.Common.{◌∙◌, ◌++◌, List, ℕ, ap, append_assoc, codes, refl}
use Rattle.avro_answer.specs.DataRead.{error_text}
use Rattle.avro_answer.proofs.DataLines.{error_lined}
use Rattle.avro_answer.proofs.many_data.append_fault_line.Goals as goal

pub returns : goal.returns
returns c =
    let told = error_text c.args.error.now in
    let line = codes "{\"fault\":\"" ++ told ++ codes "\"}\n" in (
      line,
      error_lined line 1 refl c.args.error.now (c.is_memory.ensures.no c.if-is_memory.false) refl,
      c.in_ok-extend_from_slice-2.ensures.items ∙ ap (λ (text : List ℕ). text ++ codes "\"}\n") (c.in_ok-append_error.ensures ∙ ap (λ (text : List ℕ). text ++ told) c.in_ok-extend_from_slice.ensures.items) ∙ simp append_assoc,
    )
