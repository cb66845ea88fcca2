use Rattle.std.proofs.Common.{rules, inl, refl, arith}
use Rattle.avro_c.proofs.HistoryStatuses.{history_status}
use Rattle.avro_c.proofs.avrojudge_history_text.Goals as goal

pub returns-in-Ok-clause-refused : goal.returns-in-Ok-clause-refused
returns-in-Ok-clause-refused c = λ refused. absurd (omega (arith, refused, c.tell.ensures.status, history_status (c.in-Ok.ensures.answered refl)))

pub returns-in-Ok-clause-nothing : goal.returns-in-Ok-clause-nothing
returns-in-Ok-clause-nothing c = λ nothing. absurd (omega (arith, nothing, c.tell.ensures.status, history_status (c.in-Ok.ensures.answered refl)))

pub returns-in-Ok-clause-known : goal.returns-in-Ok-clause-known
returns-in-Ok-clause-known c = inl (omega (arith, c.tell.ensures.status, history_status (c.in-Ok.ensures.answered refl)))

pub returns-in-Ok-clause-usage : goal.returns-in-Ok-clause-usage
returns-in-Ok-clause-usage c =
    (λ usage. absurd (omega (arith, usage, c.tell.ensures.status, history_status (c.in-Ok.ensures.answered refl))), λ unasked. search rules)

pub returns-in-Ok-clause-complete : goal.returns-in-Ok-clause-complete
returns-in-Ok-clause-complete c = λ lengths limits declare. inl (omega (arith, c.tell.ensures.status, history_status (c.in-Ok.ensures.answered refl)))
