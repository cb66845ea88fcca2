-- The test is sound, and looks deep enough.
use Rattle.avro_compare.proofs.EnoughSteps.{is_match-Matches}
use Rattle.avro_compare.proofs.laws.match_is_the_test.Goals as goal

pub returns : goal.returns
returns c = λ writer reader i r formed low. is_match-Matches writer reader i r formed low
