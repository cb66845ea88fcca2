use Rattle.avro_schema_json.proofs.Words.{place_of, HasKind, kind_of}
use Rattle.avro_schema_json.proofs.NodesSeen.{BeforeNode}
use Rattle.avro_schema_json.proofs.defaults.kinds.kinds_of.Given as goal

abbrev pub invariant-loop-i : goal.invariant-loop-i
invariant-loop-i l = HasKind l.rows (0, 0) l.last × BeforeNode l.raws (λ m n. HasKind l.rows (kind_of n) (place_of l.last m)) l.i
