use Rattle.std.proofs.Common.{◌≡◌, ◌++◌, drop, flat_map}
use Rattle.avro_answer.specs.Texts.{step_text}
use Rattle.avro_answer.proofs.faults.append_steps.Given as goal

abbrev pub invariant-loop-step : goal.invariant-loop-step
invariant-loop-step l = l.text.items ++ flat_map step_text (drop l.step-index l.path) ≡ l.fn.text.items ++ flat_map step_text l.path
