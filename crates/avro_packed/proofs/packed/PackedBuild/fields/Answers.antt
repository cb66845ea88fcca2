use Rattle.std.proofs.Common.{◌≡◌, ◌∙◌, List, ℕ, ap, map, subst}
use Rattle.std.specs.Prelude.{IfOk}
use Rattle.std.specs.List.{concat}
use Rattle.std.specs.Global.{Vec}
use Rattle.avro_packed.proofs.Joined.{each_plain}
use Rattle.avro_packed.proofs.packed.PackedBuild.fields.Goals as goal

pub returns : goal.returns
returns c = λ vs are.
    subst (λ (bytes : List ℕ). IfOk c.joined.result (λ out. out.items ≡ bytes))
    (ap (λ (parts : List (Vec ℕ)). concat (map (λ part. part.items) parts)) c.deref.ensures.value ∙ each_plain c.args.values.items vs are) c.joined.ensures
