-- When no datum of a writer's schema has a fault of resolution into a reader's, and which faulty datum is least.
use Rattle.std.specs.Prelude.{◌≡◌, ℕ, ◌<◌, ◌≤◌, true, List, Err}
use Rattle.avro_schema.specs.Value.{Value, size, depth}
use Rattle.avro_schema.specs.Node.{Node, root_of}
use Rattle.avro_schema.specs.Fits.{fits}
use Rattle.avro_compare.specs.Fault.{ResolutionFault}
use Rattle.avro_compare.specs.Resolve.{resolve_root}

-- the datum fits the writer's root, and resolution gives it this fault
pub record ErrsWith (writer reader : List Node) (v : Value) (fault : ResolutionFault) : Type 0 where
  pub fitting : fits writer (root_of writer) v ≡ true
  pub faulty : resolve_root writer reader v ≡ Err fault

-- the datum fits the writer's root, and resolution gives it some fault
abbrev pub Errs : List Node → List Node → Value → Type 0
Errs writer reader v = (fault : ResolutionFault) × ErrsWith writer reader v fault

-- no datum errs, of any size
abbrev pub AreCompatible : List Node → List Node → Type 0
AreCompatible writer reader = (v : Value) (fault : ResolutionFault) → ErrsWith writer reader v fault → ⊥

-- the datum errs, and no datum that errs has fewer nodes
pub record IsLeastToErr (writer reader : List Node) (v : Value) : Type 0 where
  pub errs : Errs writer reader v
  pub least : (w : Value) (fault : ResolutionFault) → ErrsWith writer reader w fault → size v ≤ size w

-- some data err, but each has more nodes than the limit
pub record ErrsOnlyAbove (writer reader : List Node) (limit : ℕ) : Type 0 where
  pub some : (v : Value) × Errs writer reader v
  pub above : (v : Value) (fault : ResolutionFault) → ErrsWith writer reader v fault → limit < size v

-- some data err, the smallest of them have no more nodes than the limit, and each of these is deeper than the other
-- limit
pub record ErrsLeastDeep (writer reader : List Node) (limit deepest : ℕ) : Type 0 where
  pub some : (v : Value) × IsLeastToErr writer reader v × (size v ≤ limit)
  pub deep : (v : Value) → IsLeastToErr writer reader v → deepest < depth v
