-- Reading with resolution in one pass is exact.
use Rattle.std.proofs.Common.{◌≡◌, ℕ, List, Some, Result, Ok, Err, refl, sym, ap, ◌∙◌, subst}
use Rattle.std.specs.Global.{Box}
use Rattle.avro_schema.specs.Value.{Value}
use Rattle.avro_schema.specs.Node.{Node, node_at, root_of}
use Rattle.avro_schema.specs.Fits.{LimitValues}
use Rattle.avro_schema.specs.declared.datum.Datum.{Datum}
use Rattle.avro_schema.specs.declared.schema.NodeId.{NodeId}
use Rattle.avro_binary.specs.Reading.{BuildsExactly}
use Rattle.avro_binary.specs.declared.place.Place.{Place}
use Rattle.avro_cursor.specs.Seen.{read_fault, UnlessOutOfMemory as UnlessMemory}
use Rattle.avro_cursor.specs.declared.error.ReadError.{ReadError}
use Rattle.avro_resolve.specs.Ends.{turned, IsSeen}
use Rattle.avro_resolve.specs.inside.Guided.{MadeAs, StandsAs, of_node}
use Rattle.avro_resolve.specs.Reading.{ReadsAs, BuildsResolved, ReadsResolved}
use Rattle.avro_compare.specs.Resolve.{Resolved, resolve, resolve_root}
use Rattle.avro_compare.specs.Seen.{fault_of}
use Rattle.avro_resolve.specs.Seen.{UnlessOutOfMemory}
use Rattle.avro_compare.specs.declared.error.Fault.{Fault}
use Rattle.avro_resolve.specs.declared.error.ReadResolveError.{ReadResolveError}
use Rattle.avro_compare.specs.declared.comparison.At.{At}
use Rattle.avro_compare.specs.declared.comparison.At.TheVariants.{Pair}
use Rattle.avro_resolve.specs.declared.resolving.guided.Made.{Made}
use Rattle.avro_resolve.proofs.Guiding.{as_fault, good_made}

-- two pairs of schemas are the same
abbrev pub AreGuides : List Node → List Node → List Node → List Node → Type 0
AreGuides a b c d = ◌≡◌ {A = List Node × List Node} (a, b) (c, d)

-- the part of the roots
abbrev pub IsAtRoots : At → Type 0
IsAtRoots at = (w : NodeId) × (r : NodeId) × (at ≡ Pair w r) × (w.0 ≡ 0) × (r.0 ≡ 0)

-- what was made there, by a maker that is kept
pub at_roots : {O : Type 0} (S : List Node → Node → Place → O → Value → Type 0) (writer reader ws rs : List Node) (n : Node) (at : At) (made : Made O) (v : Value) → AreGuides writer reader ws rs → n ≡ root_of writer → IsAtRoots at
    → StandsAs S ws rs writer n at made v → MadeAs (of_node S reader 0) made (resolve_root writer reader v)
at_roots S writer reader ws rs n at made v kept root roots h =
    let w = roots.0 in
    let r = roots.1 in
    let here = subst (λ (g : List Node × List Node). StandsAs S g.0 g.1 writer n (Pair w r) made v) (sym kept) (subst (λ (x : At). StandsAs S ws rs writer n x made v) roots.2 h) in
    subst (λ (i : ℕ). MadeAs (of_node S reader i) made (resolve writer reader (root_of writer) (node_at reader i) v)) roots.4
    (subst (λ (i : ℕ). MadeAs (of_node S reader r.0) made (resolve writer reader (node_at writer i) (node_at reader r.0) v)) roots.3 (here refl (root ∙ ap (node_at writer) (sym roots.3))))

pub guide_is : (writer reader ws rs xs ys : List Node) → writer ≡ ws → reader ≡ rs → AreGuides ws rs xs ys → AreGuides writer reader xs ys
guide_is writer reader ws rs xs ys e f kept = both_are ∙ kept
  where
    both_are : AreGuides writer reader ws rs
    both_are i = (e i, f i)

abbrev error_of : (A : Type 0) → ReadError → Result A ReadError
error_of A e = Err e

abbrev unread_as : (A : Type 0) → ReadError → Result A ReadResolveError
unread_as A e = Err (ReadResolveError.Read e)

only_memory : (A B : Type 0) (e : ReadError) (P : Type 0) → UnlessMemory (error_of A e) P → UnlessOutOfMemory (unread_as B e) P
only_memory A B ReadError.OutOfMemory P h = tt
only_memory A B _ P h = h

-- what a maker makes of a datum is what resolution gives of it
abbrev pub MakesResolved : {O : Type 0} → (O → Value → Type 0) → List Node → List Node → (Made O → Value → Type 0) → Type 0
MakesResolved {O = O} S writer reader stands = (made : Made O) (v : Value) → stands made v → MadeAs S made (resolve_root writer reader v)

module _ {O : Type 0} (S : O → Value → Type 0) (writer reader : List Node) (limits : LimitValues) (bytes : List ℕ) {stands : Made O → Value → Type 0} (n : Node) (root : n ≡ root_of writer) where
  at_root : (result : Result (Made O × ℕ) ReadError) → BuildsExactly stands writer n limits bytes result → BuildsExactly stands writer (root_of writer) limits bytes result
  at_root result b = subst (λ (m : Node). BuildsExactly stands writer m limits bytes result) root b

  pub resolved : (out : O) (len : ℕ) → BuildsExactly stands writer n limits bytes (Ok (Made.Good out, len)) → MakesResolved S writer reader stands
      → BuildsResolved S writer reader limits bytes (Ok (out, len))
  resolved out len there law =
      let b = at_root (Ok (Made.Good out, len)) there in
      let v = b.found.0 in
      let made = good_made S out (resolve_root writer reader v) (law (Made.Good out) v b.found.1) in
      record {
        found = (made.0, made.2, record { datum = v; in_bytes = b.found.2; encoded = b.found.3; within = b.found.4; resolves = made.1 });
        faulty = tt;
        begins = λ x front rest encoded within split.
            let h = b.begins x front rest encoded within split in
            let got = good_made S out (resolve_root writer reader x) (law (Made.Good out) x h.0) in
            (got.0, got.2, got.1, h.1);
        refused = tt;
        breaks = λ fault broken. b.breaks fault broken;
      }

  pub unresolved : (fault : Box Fault) (from_root : Fault) (len : ℕ) → BuildsExactly stands writer n limits bytes (Ok (Made.Faulty fault, len)) → MakesResolved S writer reader stands → fault_of from_root ≡ turned fault.value
      → BuildsResolved S writer reader limits bytes (Err (ReadResolveError.Resolve from_root))
  unresolved fault from_root len there law same =
      let b = at_root (Ok (Made.Faulty fault, len)) there in
      record {
        found = tt;
        faulty = (len, record { datum = b.found.0; in_bytes = b.found.2; encoded = b.found.3; within = b.found.4; resolves = fails b.found.0 b.found.1 });
        begins = λ x front rest encoded within split. fails x (b.begins x front rest encoded within split).0;
        refused = tt;
        breaks = λ broken_by broken. b.breaks broken_by broken;
      }
    where
      fails : (v : Value) → stands (Made.Faulty fault) v → resolve_root writer reader v ≡ Err (fault_of from_root)
      fails v h = law (Made.Faulty fault) v h ∙ ap as_fault (sym same)

  pub unread : (e : ReadError) → BuildsExactly stands writer n limits bytes (Err e) → BuildsResolved S writer reader limits bytes (Err (ReadResolveError.Read e))
  unread e there =
      let b = at_root (Err e) there in
      record {
        found = tt;
        faulty = tt;
        begins = λ v front rest encoded within split. only_memory (Made O × ℕ) (O × ℕ) e ⊥ (b.begins v front rest encoded within split);
        refused = b.refused;
        breaks = λ fault broken. only_memory (Made O × ℕ) (O × ℕ) e (read_fault e ≡ Some fault) (b.breaks fault broken);
      }

-- an answer that is the datum
module _ (writer reader : List Node) (limits : LimitValues) (bytes : List ℕ) where
  pub answered : (result : Result (Datum × ℕ) ReadResolveError) → BuildsResolved IsSeen writer reader limits bytes result → ReadsResolved writer reader limits bytes result
  answered (Ok r) b = record {
    found = subst (λ (u : Value). ReadsAs writer reader limits bytes r.1 (Ok u)) (sym b.found.1) b.found.2;
    faulty = tt;
    begins = λ v front rest encoded within split.
        let h = b.begins v front rest encoded within split in
        (h.2 ∙ ap (λ (u : Value). as_ok u) (sym h.1), h.3);
    refused = tt;
    breaks = b.breaks;
  }
    where
      as_ok : Value → Resolved
      as_ok u = Ok u
  answered (Err (ReadResolveError.Resolve f)) b = record { found = tt; faulty = b.faulty; begins = b.begins; refused = tt; breaks = b.breaks }
  answered (Err (ReadResolveError.Read e)) b = record { found = tt; faulty = tt; begins = b.begins; refused = b.refused; breaks = b.breaks }
