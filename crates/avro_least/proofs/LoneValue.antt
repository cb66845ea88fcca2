-- A datum of one node that errs, by what is found of a pair.
use Rattle.std.proofs.Common.{◌≡◌, ℕ, ◌+◌, ◌<◌, ◌||◌, Bool, true, false, cond, List, [], ◌∷◌, Option, Some, None, refl, ◌∙◌, ap, arith, unwrap_or}
use Rattle.std.specs.List.{list_any, position_from}
use Rattle.std.proofs.lemmas.Iterator.Adapters.{position_from-zero}
use Rattle.avro_name.specs.Name.{Name}
use Rattle.avro_schema.specs.Value.{Value}
use Rattle.avro_schema.specs.Node.{Node}
use Rattle.avro_schema.specs.Seen.{node_of, texts_of}
use Rattle.avro_schema.specs.declared.schema.EnumNode.{EnumNode}
use Rattle.avro_schema.specs.declared.schema.NodeId.{NodeId}
use Rattle.avro_schema.specs.declared.schema.Node.{Node as KeptNode}
use Rattle.avro_compare.specs.Match.{is_match}
use Rattle.avro_compare.specs.Pairs.{target_of}
use Rattle.avro_compare.specs.Planned.{AreInside}
use Rattle.avro_compare.specs.declared.error.FaultKind.TheVariants.{NoMatch}
use Rattle.avro_compare.specs.declared.comparison.Target.TheVariants.{Fault, To}
use Rattle.avro_compare.specs.declared.comparison.Comparison.{Comparison}
use Rattle.avro_least.specs.Asked.{Asked, asked}
use Rattle.avro_least.specs.BuiltErrors.{IsLone, first_from, is_lacking}
use Rattle.avro_least.proofs.AskedKinds.{AreLone, asks}
use Rattle.std.proofs.lemmas.Bool.{false≢true}

-- the first that passes, where some does
first_same : (test : List ℕ → Bool) (n : ℕ) (xs : List (List ℕ)) → list_any test xs ≡ true → unwrap_or (position_from test n xs) 0 ≡ first_from test n xs
first_same test n [] h = absurd (false≢true h)
first_same test n (x ∷ xs) h = chosen (test x) h (λ later. first_same test (n + 1) xs later)
  where
    chosen : (b : Bool) → (b || list_any test xs) ≡ true → (list_any test xs ≡ true → unwrap_or (position_from test (n + 1) xs) 0 ≡ first_from test (n + 1) xs)
        → unwrap_or (cond b (Some n) (position_from test (n + 1) xs)) 0 ≡ cond b n (first_from test (n + 1) xs)
    chosen true h later = refl
    chosen false h later = later h

module _ (writer reader : List Node) where
  symbol_of_enum : (a : Name) (xs : List Name) (symbols : List (List ℕ)) (x : Option ℕ) (q : Node) (pair : Comparison)
      → pair.target ≡ target_of writer reader (Node.enum a xs symbols x) pair.r q
      → ((b : NodeId) → pair.target ≡ To None b → AreInside (Node.enum a xs symbols x) q pair)
      → (is_match writer reader (Node.enum a xs symbols x) q ≡ true) × AreLone (Node.enum a xs symbols x) q → (v : Value)
      → (unwrap_or pair.lacking 0 < 4294967296 → v ≡ Value.enum (unwrap_or pair.lacking 0)) → IsLone (Node.enum a xs symbols x) q v
  symbol_of_enum a xs symbols x (Node.enum b ys theirs None) pair targets inside own v h =
      let kept = inside pair.r (targets ∙ ap (λ (t : Bool). cond t (To None pair.r) (Fault NoMatch)) own.0) in
      let same : unwrap_or pair.lacking 0 ≡ first_from (is_lacking theirs) 0 symbols =
      ap (λ (o : Option ℕ). unwrap_or o 0) (kept.lacking ∙ position_from-zero (is_lacking theirs) symbols) ∙ first_same (is_lacking theirs) 0 symbols own.1 in
      record { symbol = λ k is low. chosen (first_from (is_lacking theirs) 0 symbols) k same (enum_same (first_from (is_lacking theirs) 0 symbols) k is) low; bytes = λ is. absurd (grind arith) }
    where
      enum_same : (i k : ℕ) → Value.enum i ≡ Value.enum k → i ≡ k
      enum_same i k s = cc

      chosen : (i k : ℕ) → unwrap_or pair.lacking 0 ≡ i → i ≡ k → k < 4294967296 → v ≡ Value.enum k
      chosen i k same is low = h (omega (arith, same, is, low)) ∙ ap Value.enum (same ∙ is)
  symbol_of_enum a xs symbols x (Node.enum b ys theirs (Some d)) pair targets inside own v h = absurd (false≢true own.1)
  symbol_of_enum a xs symbols x _ pair targets inside own v h = absurd own.1

  -- the first symbol that the reader lacks
  pub lone_symbol : (n : EnumNode) (q : Node) (pair : Comparison) → pair.target ≡ target_of writer reader (node_of (KeptNode.Enum n)) pair.r q
      → ((b : NodeId) → pair.target ≡ To None b → AreInside (node_of (KeptNode.Enum n)) q pair)
      → Asked.lone ≡ asked writer reader (node_of (KeptNode.Enum n)) q → (v : Value)
      → (unwrap_or pair.lacking 0 < 4294967296 → v ≡ Value.enum (unwrap_or pair.lacking 0)) → IsLone (node_of (KeptNode.Enum n)) q v
  lone_symbol n q pair targets inside e v h = symbol_of_enum n.name n.aliases.items (texts_of n.symbols.items) n.default q pair targets inside
      (asks writer reader (node_of (KeptNode.Enum n)) q Asked.lone e) v h
