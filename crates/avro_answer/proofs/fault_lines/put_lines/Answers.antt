use Rattle.std.proofs.Common.{◌+◌, ◌∙◌, drop}
use Rattle.std.specs.Prelude.{string_bytes}
use Rattle.avro_schema.specs.SeenSchema.{schema_nodes}
use Rattle.avro_display.proofs.public.Fronts.{on_any_err}
use Rattle.avro_answer.proofs.FaultLines.{front_kept, front_more, next_left, put_more}
use Rattle.avro_answer.proofs.fault_lines.put_lines.Goals as goal

pub loop-fault-preserved : goal.loop-fault-preserved
loop-fault-preserved g c = (
  λ have.
      let faults = c.args.found.now.faults.items in
      put_more (schema_nodes c.args.writer.now) (schema_nodes c.args.reader.now) c.args.found.now.places.items c.args.form g.O.Output.keeps g.met.O.Output.chain
      c.args.out.now c.loop-fault.out c.put_piece.new.out
      faults (drop c.loop-fault.fault-index faults) (drop (c.loop-fault.fault-index + 1) faults) c.loop-fault.later _
      (string_bytes c.args.text.now) (string_bytes c.loop-fault.text) (string_bytes c.append_fault.new.text) (string_bytes c.put_piece.new.text)
      (next_left faults c.deref-fault-items.result.now c.loop-fault.fault-index _ c.deref-fault-items.ensures.value c.loop-fault-test.true)
      c.in_ok-append_fault.ensures c.in_ok-put_piece.ensures.put (c.loop-fault.invariant.0 have),
  c.in_ok-put_piece.ensures.works ∙ c.loop-fault.invariant.1,
)

pub returns-in_err-append_fault-clause-front : goal.returns-in_err-append_fault-clause-front
returns-in_err-append_fault-clause-front g c = λ have.
    on_any_err (front_kept (schema_nodes c.args.writer.now) (schema_nodes c.args.reader.now) c.args.found.now.places.items c.args.form g.O.Output.keeps g.met.O.Output.chain
    c.args.out.now c.loop-fault.out c.loop-fault.out
    c.args.found.now.faults.items (drop c.loop-fault.fault-index c.args.found.now.faults.items) c.loop-fault.later (string_bytes c.args.text.now) (string_bytes c.loop-fault.text)
    (c.loop-fault.invariant.0 have)) c.from_residual.result

pub returns-in_err-put_piece-clause-front : goal.returns-in_err-put_piece-clause-front
returns-in_err-put_piece-clause-front g c = λ have.
    let faults = c.args.found.now.faults.items in
    on_any_err (front_more (schema_nodes c.args.writer.now) (schema_nodes c.args.reader.now) c.args.found.now.places.items c.args.form g.O.Output.keeps g.met.O.Output.chain
    c.args.out.now c.loop-fault.out c.put_piece.new.out
    faults (drop c.loop-fault.fault-index faults) (drop (c.loop-fault.fault-index + 1) faults) c.loop-fault.later _
    (string_bytes c.args.text.now) (string_bytes c.loop-fault.text) (string_bytes c.append_fault.new.text)
    (next_left faults c.deref-fault-items.result.now c.loop-fault.fault-index _ c.deref-fault-items.ensures.value c.loop-fault-test.true)
    c.in_ok-append_fault.ensures c.in_err-put_piece.ensures.front (c.loop-fault.invariant.0 have)) c.from_residual-in_err-put_piece.result
