use Rattle.std.proofs.Common.{sym, ◌∙◌, ap, is_none}
use Rattle.avro_name.proofs.Scanning.{no_fault, fault_found}
use Rattle.avro_name.proofs.check.check_dotted_name.Goals as goal

pub returns-in-Some-clause-refused : goal.returns-in-Some-clause-refused
returns-in-Some-clause-refused c = fault_found c.args.text.now c.in-Some.fault c.in-Some.ensures

pub returns-in-Some-clause-passes : goal.returns-in-Some-clause-passes
returns-in-Some-clause-passes c = λ h. ap is_none c.in-Some.ensures ∙ sym (no_fault c.args.text.now) ∙ h

pub returns-in-None-clause-good : goal.returns-in-None-clause-good
returns-in-None-clause-good c = no_fault c.args.text.now ∙ ap is_none (sym c.in-None.ensures)
