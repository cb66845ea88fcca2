-- The first of the writer's symbols that the reader lacks, as they are gone through.
use Rattle.std.proofs.Common.{◌≡◌, ◌∙◌, ℕ, ◌+◌, ◌<◌, ◌&&◌, Bool, true, false, not, cond, List, [], ◌∷◌, Option, Some, None, drop, length, is_some, refl, sym, ap}
use Rattle.std.proofs.Math.Seq.{drop-length}
use Rattle.std.specs.Prelude.{String, is_none}
use Rattle.std.specs.declared.alloc.Global.{Global}
use Rattle.std.specs.List.{position_from}
use Rattle.std.proofs.lemmas.Bool.{cond-true, cond-false, false≢true, true≢false}
use Rattle.std.proofs.lemmas.Iterator.Adapters.{position_from-zero}
use Rattle.avro_schema.specs.Node.{Node, node_at}
use Rattle.avro_schema.specs.Seen.{texts_of}
use Rattle.avro_schema.specs.SeenSchema.{schema_nodes}
use Rattle.avro_schema.specs.declared.schema.NodeId.{NodeId}
use Rattle.avro_schema.specs.declared.schema.Schema.{Schema}
use Rattle.avro_compare.specs.Children.{first_lacking, lacks}
use Rattle.avro_compare.specs.inside.NameTables.{symbols_at}
use Rattle.avro_compare.specs.Resolve.{symbol_at}
use Rattle.avro_compare.proofs.Named.{texts_count}
use Rattle.avro_compare.proofs.public.Symbols.{symbols_there}

pub none_is : (o : Option ℕ) (b : Bool) → is_some o ≡ not b → b ≡ is_none o
none_is None true e = refl
none_is None false e = absurd (false≢true e)
none_is (Some k) true e = absurd (true≢false e)
none_is (Some k) false e = refl

pub defaulted : (y : Option ℕ) → is_some y ≡ true → (b : Bool) → (is_none y && b) ≡ false
defaulted None e b = absurd (false≢true e)
defaulted (Some d) e b = refl

never : (test : List ℕ → Bool) → ((s : List ℕ) → test s ≡ false) → (n : ℕ) (xs : List (List ℕ)) → position_from test n xs ≡ None
never test h n [] = refl
never test h n (x ∷ xs) = ap (λ (b : Bool). cond b (Some n) (position_from test (n + 1) xs)) (h x) ∙ never test h (n + 1) xs

-- a node with a default lacks no symbol
pub none_lacking : (w q : Node) → ((s : List ℕ) → lacks q s ≡ false) → first_lacking w q ≡ None
none_lacking w q h = position_from-zero (lacks q) (symbols_at w) ∙ never (lacks q) h 0 (symbols_at w)

pub symbols_count : (symbols : List (String Global)) (s t : Schema) (w : NodeId) → texts_of symbols ≡ symbols_at (node_at (schema_nodes s) w.0) → s ≡ t
    → length symbols ≡ length (symbols_at (node_at (schema_nodes t) w.0))
symbols_count symbols s t w e same = sym (texts_count symbols) ∙ ap length (e ∙ ap (λ (u : Schema). symbols_at (node_at (schema_nodes u) w.0)) same)

-- the first from an index on
abbrev pub lacking_from : Node → Node → ℕ → Option ℕ
lacking_from w q n = position_from (lacks q) n (drop n (symbols_at w))

pub lacking_start : (w q : Node) → first_lacking w q ≡ lacking_from w q 0
lacking_start w q = position_from-zero (lacks q) (symbols_at w)

pub lacking_end : (w q : Node) (n : ℕ) → n ≡ length (symbols_at w) → lacking_from w q n ≡ None
lacking_end w q n e = ap (λ (ss : List (List ℕ)). position_from (lacks q) n ss) (ap (λ (m : ℕ). drop m (symbols_at w)) e ∙ drop-length (symbols_at w))

module _ (w q : Node) (i : ℕ) (low : i < length (symbols_at w)) where
  step : lacking_from w q i ≡ cond (lacks q (symbol_at w i)) (Some i) (lacking_from w q (i + 1))
  step = ap (λ (ss : List (List ℕ)). position_from (lacks q) i ss) (symbols_there w i low)

  pub lacking_past : lacks q (symbol_at w i) ≡ false → lacking_from w q i ≡ lacking_from w q (i + 1)
  lacking_past e = step ∙ cond-false (lacks q (symbol_at w i)) (Some i) (lacking_from w q (i + 1)) e

  pub lacking_here : lacks q (symbol_at w i) ≡ true → lacking_from w q i ≡ Some i
  lacking_here e = step ∙ cond-true (lacks q (symbol_at w i)) (Some i) (lacking_from w q (i + 1)) e
