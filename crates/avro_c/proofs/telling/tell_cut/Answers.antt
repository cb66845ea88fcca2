use Rattle.avro_c.proofs.CutTexts.{cut_put}
use Rattle.avro_c.proofs.telling.tell_cut.Goals as goal

pub returns-clause-put : goal.returns-clause-put
returns-clause-put c = λ text cut.
    cut_put text c.args.cut.answer.text.items c.args.out.now c.tell-status.new.out c.tell-status.new.wanted c.args.cut.length cut.front cut.whole c.tell-status.ensures.put
