use Rattle.avro_schema_json.proofs.Words.{place_of, all_without_defaults, IsParent, HasSymbols}
use Rattle.avro_schema_json.proofs.NodesSeen.{BeforeNode}
use Rattle.avro_schema_json.proofs.defaults.edges.parents_of.Given as goal

abbrev pub invariant-loop-i : goal.invariant-loop-i
invariant-loop-i l =
    BeforeNode l.raws (λ m n. IsParent (all_without_defaults l.raws) l.last l.labels l.parents n (place_of l.last m)) l.i
    × BeforeNode l.raws (λ m n. HasSymbols l.labels l.parents l.last (place_of l.last m) n) l.i
