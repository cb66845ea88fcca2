-- What counting a node without parts returns, and reading it then.
use Rattle.std.proofs.Common.{◌≡◌, ℕ, suc, ◌-◌, List, Ok, Err, ap, subst, arith}
use Rattle.avro_schema.specs.Value.{Value}
use Rattle.avro_schema.specs.Node.{Node}
use Rattle.avro_cursor.specs.CursorValue.{CursorValue, Passes, Counts}
use Rattle.avro_binary.specs.CursorReads.{ReadsNode, outside, left_node, limits_at, child_breaks}
use Rattle.avro_cursor.specs.Elements.{Refuses, Finds}
use Rattle.avro_cursor.specs.Fault.{ReadFault}
use Rattle.avro_cursor.specs.Breaks.{NodeBreaks}
use Rattle.avro_binary.proofs.LeafReads.{leaf_refused}
use Rattle.avro_cursor.specs.declared.error.ReadError.{ReadError}

-- a cursor in the node that it counts, of one that counted it
abbrev pub inside_of : CursorValue → CursorValue
inside_of c = record c { depth = c.depth - 1 }

pub passes_inside : (counted after : CursorValue) (front : List ℕ) → Passes counted front after → Passes (inside_of counted) front (inside_of after)
passes_inside counted after front p =
    record { split = p.split; offset = p.offset; depth = ap (λ (n : ℕ). n - 1) p.depth; nodes = p.nodes; blob = p.blob }

pub finds_inside : {A R : Type 0} (seen : R → A) (IsElement : A → List ℕ → Type 0) (counted after : CursorValue) (r : R) → Finds seen IsElement counted after r
    → Finds seen IsElement (inside_of counted) (inside_of after) r
finds_inside seen IsElement counted after r found = (found.0, found.1, passes_inside counted after found.0 found.2)

-- the cursor before it counted
outside-inside : (before counted : CursorValue) → Counts before counted → outside (inside_of counted) ≡ before
outside-inside before counted c =
    let deep : suc (counted.depth - 1) ≡ before.depth = let d = c.depth in let some = c.some in omega arith in
    let many : suc counted.nodes ≡ before.nodes = let n = c.nodes in omega arith in
    λ i. record { bytes = c.bytes i; offset = c.offset i; depth = deep i; nodes = many i; blob = c.blob i }

left-inside : (before counted after : CursorValue) → Counts before counted → after.depth ≡ counted.depth → left_node (inside_of after) ≡ after
left-inside before counted after c same =
    let deep : suc (after.depth - 1) ≡ after.depth = let d = c.depth in let some = c.some in omega arith in
    λ i. record after { depth = deep i }

module _ {R : Type 0} {stands : R → Value → Type 0} (nodes : List Node) where
  pub counted_found : (n : Node) (before counted after : CursorValue) (r : R) → Counts before counted → after.depth ≡ counted.depth
      → ReadsNode stands nodes n (outside (inside_of counted)) (left_node (inside_of after)) (Ok r) → ReadsNode stands nodes n before after (Ok r)
  counted_found n before counted after r c same reads =
      subst (λ (a : CursorValue). ReadsNode stands nodes n before a (Ok r)) (left-inside before counted after c same)
      (subst (λ (b : CursorValue). ReadsNode stands nodes n b (left_node (inside_of after)) (Ok r)) (outside-inside before counted c) reads)

  -- a fault of the element is one of the node that was counted
  pub counted_refused : {before counted after : CursorValue} {error : ReadError} (n : Node) (B : List ℕ → ReadFault → Type 0) → Counts before counted
      → ((f : ReadFault) → B counted.bytes f → NodeBreaks nodes (limits_at (inside_of counted)) (child_breaks nodes (limits_at (inside_of counted))) n counted.bytes f)
      → Refuses B counted error → ReadsNode stands nodes n before after (Err error)
  counted_refused {counted = counted} {after = after} {error = error} n B c step refused =
      let reads = leaf_refused {R = R} {stands = stands} nodes n (inside_of counted) after B error step refused in
      subst (λ (b : CursorValue). ReadsNode stands nodes n b after (Err error)) (outside-inside _ counted c) (record { found = tt; refused = reads.refused })
