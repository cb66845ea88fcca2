-- As the mode asks.
use Rattle.avro_tool.proofs.commands.history.judge_modes.Goals as goal

pub returns-in-Backward-clause-answered : goal.returns-in-Backward-clause-answered
returns-in-Backward-clause-answered g c = rw c.in-Backward.is c.judge_one.ensures.answered

pub returns-in-Forward-clause-answered : goal.returns-in-Forward-clause-answered
returns-in-Forward-clause-answered g c = rw c.in-Forward.is c.judge_one-in-Forward.ensures.answered
