-- What a failure of showing a file is: the fault of the file where it is refused.
use Rattle.std.proofs.Common.{◌≡◌, Err, ap, rules, ◌∙◌}
use Rattle.avro_file.specs.FileSeen.{file_fault}
use Rattle.avro_tool.specs.declared.failure.Failure.TheVariants.{Container}
use Rattle.avro_tool.proofs.commands.show.tell_lines.Goals as goal

pub returns-in-Err-clause-fails : goal.returns-in-Err-clause-fails
returns-in-Err-clause-fails g c = c.of_container.ensures.named c.in-Err.ensures.named (search rules) (λ e. c.in-Err.ensures.first (ap (λ error. Err error) e))

pub returns-in-Err-clause-refused : goal.returns-in-Err-clause-refused
returns-in-Err-clause-refused g c e f is fault =
    let same : c.of_container.result ≡ Container c.args.word e = cc in
    let told : c.of_container.result ≡ Container c.args.word c.in-Err.error = c.of_container.ensures.refused
    (λ i. let now = c.of_container.ensures.read i in absurd (cc))
    (λ i. let now = c.of_container.ensures.written i in absurd (cc))
    (λ i. let now = c.of_container.ensures.memory i in absurd (cc)) in
    let error : c.in-Err.error ≡ e = cc in
    let found = c.in-Err.ensures.fault f (ap file_fault error ∙ fault) in
    rw (← c.default.ensures) found
