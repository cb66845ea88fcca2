use Rattle.avro_answer.specs.inside.JsonText.{named_path}
use Rattle.avro_answer.proofs.json_answers.judged_front.Goals as goal

pub returns : goal.returns
returns c = (named_path c.in_ok-place.place, c.in_ok-front_at.ensures)
