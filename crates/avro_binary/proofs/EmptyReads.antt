-- The datum of a node without bytes: where it is within the limits it is passed at once, and elsewhere it passes one.
use Rattle.std.proofs.Common.{◌≡◌, inl, inr, ◌⊎◌, ℕ, ◌^◌, ◌<◌, ◌≤◌, true, nat_lt, List, [], Result, Ok, Err, Some, refl, sym, subst, arith}
use Rattle.std.specs.List.{list_all}
use Rattle.avro_schema.specs.Value.{Value}
use Rattle.avro_schema.specs.Node.{Node, node_at}
use Rattle.avro_schema.specs.Empty.{IsEmptyDatum}
use Rattle.avro_schema.specs.WellFormed.{is_schema}
use Rattle.avro_cursor.specs.Encoding.{Encodes}
use Rattle.avro_cursor.specs.Fault.{limit_exceeded}
use Rattle.avro_cursor.specs.Breaks.{BreaksWithin}
use Rattle.avro_cursor.specs.Seen.{read_fault}
use Rattle.avro_cursor.specs.CursorValue.{CursorValue}
use Rattle.avro_cursor.specs.CountsAgain.{CountsAgain}
use Rattle.avro_binary.specs.CursorReads.{FindsValue, ReadsNode, ReportsFault, limits_at}
use Rattle.avro_binary.specs.Making.{Made}
use Rattle.avro_cursor.specs.declared.error.ReadError.{ReadError}
use Rattle.avro_binary.proofs.NoFrontItems.{IsSmall}
use Rattle.avro_binary.proofs.Plain.{Encodes-plain}
use Rattle.avro_binary.proofs.Repeated.{limit_passed}
use Rattle.avro_binary.proofs.public.EmptyData.{plain-empty, longest_blob-empty}

module _ (nodes : List Node) (id : ℕ) {count levels : ℕ} (formed : is_schema nodes ≡ true) (known : IsEmptyDatum nodes (node_at nodes id) count levels) where
  encodes : Encodes nodes (node_at nodes id) known.datum []
  encodes = subst (λ (bytes : List ℕ). Encodes nodes (node_at nodes id) known.datum bytes) (plain-empty known.datum known.empty) (Encodes-plain nodes id known.datum formed known.fitting)

  -- it is passed
  pub empty_found : (before after : CursorValue) → levels ≤ before.depth → CountsAgain before count after → FindsValue nodes (node_at nodes id) before after known.datum
  empty_found before after deep counts = record {
    front = [];
    encoded = encodes;
    deep = let d = known.deep in omega arith;
    many = let m = counts.nodes in let k = known.counted in omega arith;
    long = let none = longest_blob-empty known.datum known.empty in omega arith;
    moves = record { split = sym counts.bytes; offset = let o = counts.offset in omega arith; depth = counts.depth; blob = counts.blob };
  }

  over-limit : (before : CursorValue) → (before.nodes < count) ⊎ (before.depth < levels) → IsSmall before.depth before.nodes before.blob known.datum → ⊥
  over-limit before (inl few) small = let k = known.counted in let fits_in = small.1 in absurd (omega arith)
  over-limit before (inr shallow) small = let d = known.deep in let fits_in = small.0 in absurd (omega arith)

  -- or it passes a limit, whatever follows
  pub empty_refused : (before : CursorValue) (e : ReadError) → list_all (λ b. nat_lt b 256) before.bytes ≡ true → before.nodes < 2 ^ 32 → before.blob < 2 ^ 32
      → (read_fault e ≡ Some limit_exceeded) × ((before.nodes < count) ⊎ (before.depth < levels))
      → ReportsFault (BreaksWithin nodes before.depth before.nodes before.blob (node_at nodes id)) before e
  empty_refused before e are few small refused =
      rw refused.0 (limit_exceeded, limit_passed nodes (limits_at before) id known.datum before.bytes formed are few (omega (arith, small)) encodes (over-limit before refused.1), refl)

-- what is read by a maker that was kept before
pub reads_kept : {S R : Type 0} (keeps : S → S → Type 0) (stands : S → R → Value → Type 0) (nodes : List Node) (n : Node) (before after : CursorValue) (maker mid made : S) → (keeps mid made → keeps maker made)
    → (result : Result R ReadError) → ReadsNode (Made keeps stands mid made) nodes n before after result → ReadsNode (Made keeps stands maker made) nodes n before after result
reads_kept keeps stands nodes n before after maker mid made kept (Ok r) reads =
    record { found = (reads.found.0, reads.found.1, (kept reads.found.2.0, reads.found.2.1)); refused = tt }
reads_kept keeps stands nodes n before after maker mid made kept (Err e) reads = record { found = tt; refused = reads.refused }
