use Rattle.std.proofs.Common.{◌≡◌, ◌++◌, drop, map}
use Rattle.std.specs.List.{concat}
use Rattle.avro_packed.proofs.packed.joined.Given as goal

-- with what is left, the output is that at the end
abbrev pub invariant-loop-value : goal.invariant-loop-value
invariant-loop-value l = l.out.items ++ concat (map (λ value. value.items) (drop l.value-index l.values)) ≡ concat (map (λ value. value.items) l.values)
