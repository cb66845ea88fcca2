-- Why a marker is not taken.
use Rattle.std.proofs.Common.{arith}
use Rattle.avro_file.proofs.Behind.{part_refused}
use Rattle.avro_file.proofs.HeaderEnds.{marker_part}
use Rattle.avro_file.proofs.header.frame.take_marker.Goals as goal

pub returns-in-Err-clause-lost : goal.returns-in-Err-clause-lost
returns-in-Err-clause-lost g c = grind (arith, part_refused)

pub returns-in-Err-clause-refused : goal.returns-in-Err-clause-refused
returns-in-Err-clause-refused g c = grind (arith, marker_part)
