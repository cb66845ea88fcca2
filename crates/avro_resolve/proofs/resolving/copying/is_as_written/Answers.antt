use Rattle.avro_resolve.proofs.resolving.copying.is_as_written.Goals as goal

pub returns : goal.returns
returns c = λ yes number most i front rest s e. c.starts_shortest.ensures most i front rest s e yes
