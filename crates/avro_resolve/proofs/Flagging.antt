-- Fields that are copied, one by one.
use Rattle.std.proofs.Common.{◌≡◌, ℕ, zero, suc, ◌+◌, ◌<◌, ◌≤◌, List, [], ◌∷◌, drop, length, Some, sym, ap, ◌∙◌, subst, arith}
use Rattle.std.specs.Prelude.{slice_get, slice_index_or}
use Rattle.std.proofs.Math.ListN.{drop_of_length-le}
use Rattle.avro_schema.specs.Node.{Node, FieldNode, field_ids, node_at}
use Rattle.avro_schema.specs.Seen.{field_of, seen_fields}
use Rattle.avro_schema.specs.declared.schema.Field.{Field}
use Rattle.avro_schema.specs.declared.schema.NodeId.{NodeId}
use Rattle.avro_compare.specs.Fields.{IsField, here, later}
use Rattle.avro_compare.specs.Planned.{AreSources}
use Rattle.avro_compare.specs.Resolve.{fields_at}
use Rattle.avro_compare.specs.Source.{source_of}
use Rattle.avro_compare.proofs.public.Lists.{seen_next}
use Rattle.avro_resolve.specs.Copied.{AreCopied, CopiedFrom, IsVerbatim}
use Rattle.avro_resolve.proofs.VerbatimRecords.{empty_get}

-- the node of a field at hand
pub id_there : (ws : List Field) (k : ℕ) (f : Field) → k < length ws → f ≡ slice_index_or ws k f → slice_get (field_ids (seen_fields ws)) k ≡ Some f.node.0
id_there [] k f low is = absurd (omega (arith, low))
id_there (g ∷ fs) zero f low is = ap (λ (h : Field). Some h.node.0) (sym is)
id_there (g ∷ fs) (suc k) f low is = id_there fs k f (omega (arith, low)) is

-- a field at an index is one of the fields
pub is_field_at : (rs : List FieldNode) (i : ℕ) (f : FieldNode) → slice_get rs i ≡ Some f → IsField f rs
is_field_at [] i f e = absurd (empty_get i f e)
is_field_at (g ∷ gs) zero f e = let same : g ≡ f = cc in subst (λ (h : FieldNode). IsField h (g ∷ gs)) same here
is_field_at (g ∷ gs) (suc i) f e = later (is_field_at gs i f e)

pub field_next : (reads : List Field) (i : ℕ) (f : Field) → i < length reads → f ≡ slice_index_or reads i f → seen_fields (drop i reads) ≡ field_of f ∷ seen_fields (drop (i + 1) reads)
field_next reads i f low is = seen_next reads i f low ∙ ap (λ (g : Field). field_of g ∷ seen_fields (drop (i + 1) reads)) (sym is)

module _ (writer reader : List Node) (ws : List FieldNode) where
  pub copied_more : (f : FieldNode) (fs gs : List FieldNode) → ((k : ℕ) → source_of ws f ≡ Some k → CopiedFrom writer reader ws f k) → AreCopied writer reader ws fs → gs ≡ f ∷ fs → AreCopied writer reader ws gs
  copied_more f fs gs law more e g (here {fs = hs}) k src =
      let same : f ≡ g = cc in
      subst (λ (h : FieldNode). CopiedFrom writer reader ws h k) same (law k (subst (λ (h : FieldNode). source_of ws h ≡ Some k) (sym same) src))
  copied_more f fs gs law more e g (later {g = h} {fs = hs} is) k src = let same : hs ≡ fs = cc in more g (subst (IsField g) same is) k src

  pub copied_none : (gs : List FieldNode) → gs ≡ [] → AreCopied writer reader ws gs
  copied_none gs e g (here {fs = hs}) k src = absurd cc
  copied_none gs e g (later {g = h} {fs = hs} is) k src = absurd cc

  pub copied_all : (reads : List Field) (i : ℕ) → length reads ≤ i → AreCopied writer reader ws (seen_fields (drop i reads))
  copied_all reads i high = copied_none (seen_fields (drop i reads)) (ap seen_fields (drop_of_length-le reads high))

-- the same fields
pub copied_by : (writer reader : List Node) {xs ws rs ys : List FieldNode} → xs ≡ ws → rs ≡ ys → AreCopied writer reader xs rs → AreCopied writer reader ws ys
copied_by writer reader {ws = ws} {rs = rs} e f h = subst (λ (gs : List FieldNode). AreCopied writer reader ws gs) f (subst (λ (gs : List FieldNode). AreCopied writer reader gs rs) e h)

-- what is kept of a pair that is verbatim, at equal nodes
module _ (writer reader : List Node) (sources : List (ℕ × ℕ)) where
  abbrev VerbatimWith : NodeId → NodeId → Type 0
  VerbatimWith w r = IsVerbatim writer reader w r × AreSources (fields_at (node_at writer w.0)) (fields_at (node_at reader r.0)) sources

  pub verbatim_at : {v w q r : NodeId} → v ≡ w → q ≡ r → VerbatimWith v q → VerbatimWith w r
  verbatim_at {v = v} {r = r} e f h = subst (λ (n : NodeId). VerbatimWith n r) e (subst (λ (n : NodeId). VerbatimWith v n) f h)

-- sources of the same fields
pub sources_by : {ws xs rs ys : List FieldNode} (sources : List (ℕ × ℕ)) → ws ≡ xs → rs ≡ ys → AreSources xs ys sources → AreSources ws rs sources
sources_by {ws = ws} {xs = xs} {rs = rs} {ys = ys} sources e f h =
    subst (λ (fs : List FieldNode). AreSources fs rs sources) (sym e) (subst (λ (gs : List FieldNode). AreSources xs gs sources) (sym f) h)
