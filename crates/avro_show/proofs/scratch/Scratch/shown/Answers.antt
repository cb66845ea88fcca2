use Rattle.avro_show.proofs.scratch.Scratch.shown.Goals as goal

pub returns : goal.returns
returns c = λ bytes stands. c.bytes_at.ensures bytes (rw c.as_slice.ensures stands)
