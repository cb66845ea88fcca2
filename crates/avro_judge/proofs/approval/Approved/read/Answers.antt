use Rattle.std.proofs.Common.{ℕ, Result, Err}
use Rattle.avro_cursor.specs.Seen.{UnlessOutOfMemory}
use Rattle.avro_cursor.specs.declared.error.ReadError.{ReadError}
use Rattle.avro_resolve.specs.Seen.{UnlessOutOfMemory as UnlessNoMemory}
use Rattle.avro_resolve.specs.declared.error.ReadResolveError.{ReadResolveError}
use Rattle.avro_judge.proofs.approval.Approved.read.Goals as goal

abbrev unread : {A : Type 0} → ReadError → Result A ReadResolveError
unread e = Err (ReadResolveError.Read e)

abbrev refused : {A : Type 0} → ReadError → Result A ReadError
refused e = Err e

-- an error of reading that is handed on says that memory ran out where it said so before
only_memory : (A : Type 0) (e : ReadError) → UnlessNoMemory (unread {A = A} e) ⊥ → UnlessOutOfMemory (refused {A = A} e) ⊥
only_memory A ReadError.OutOfMemory h = tt
only_memory A _ h = h

pub returns-in-Ok-clause-begins : goal.returns-in-Ok-clause-begins
returns-in-Ok-clause-begins g c = rw (← c.self.view_is) (λ v front rest encoded within split. c.in-Ok.ensures.begins v front rest encoded within split)

pub returns-in-Err-Read-clause-begins : goal.returns-in-Err-Read-clause-begins
returns-in-Err-Read-clause-begins g c = rw (← c.self.view_is) (λ v front rest encoded within split.
    only_memory (g.row.B-Out.Denot × ℕ) c.in-Err-Read.e (rw c.in-Err-Read.field-0-is at (c.in-Err-Read.ensures.begins v front rest encoded within split)))
