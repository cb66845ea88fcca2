-- How contracts see faults of resolution.
use Rattle.avro_compare.specs.Fault.{FaultCause, no_match, no_branch, missing_field_at, no_symbol, not_utf8, ResolutionFault}
use Rattle.avro_compare.specs.declared.error.Fault.{Fault}
use Rattle.avro_compare.specs.declared.error.FaultKind.{FaultKind}

-- the program's kind of fault, as a cause
abbrev pub cause_of : FaultKind → FaultCause
cause_of FaultKind.NoMatch = no_match
cause_of FaultKind.NoBranch = no_branch
cause_of (FaultKind.MissingField index) = missing_field_at index
cause_of FaultKind.NoSymbol = no_symbol
cause_of FaultKind.NotUtf8 = not_utf8

-- the program's fault, with its path
abbrev pub fault_of : Fault → ResolutionFault
fault_of f = record { cause = cause_of f.kind; path = f.path.items }
