-- Data that err at a pair, by what the pair asks for.
use Rattle.std.proofs.Common.{◌≡◌, ℕ, suc, ◌+◌, ◌<◌, Bool, true, false, cond, ◌||◌, List, [], ◌∷◌, Option, Some, None, length, refl, sym, ◌∙◌, ap, subst, arith, slice_get, unwrap_or, position, bytes_eq}
use Rattle.std.proofs.lemmas.Bool.{and_from, false≢true, lt-ltb}
use Rattle.std.specs.List.{list_any}
use Rattle.avro_schema.specs.Value.{Value, size, depth}
use Rattle.avro_schema.specs.Node.{Node, node_at, branches_of}
use Rattle.avro_schema.specs.Fits.{fits}
use Rattle.avro_schema.proofs.public.Choices.{HasFewChoices}
use Rattle.avro_compare.specs.Match.{first_match}
use Rattle.avro_compare.specs.Children.{lacks_symbol}
use Rattle.avro_compare.specs.Resolve.{Resolved, bytes_as, enum_as, enum_or_default, symbol_at, into_branch, matched, branch_node, resolve}
use Rattle.avro_certificate.proofs.public.Tests.{not_true}
use Rattle.avro_certificate.proofs.public.FaultyResults.{IsFault, fault_map, fault_matched, not_a_text, no_index, array_faults, map_faults, map_fits, plain_form, value_of_plain, through_is_matched}
use Rattle.avro_least.specs.Asked.{Asked, asked}
use Rattle.avro_least.specs.BuiltErrors.{first_from, is_lacking, lone_value, IsLone, part_value}
use Rattle.avro_least.proofs.AskedKinds.{AreLone, HaveParts, asks}

-- the first that passes
abbrev IsFirst : {A : Type 0} → (A → Bool) → ℕ → List A → ℕ → A → Type 0
IsFirst test n xs k x = (first_from test n xs ≡ n + k) × (k < length xs) × (slice_get xs k ≡ Some x) × (test x ≡ true)

first_passes : {A : Type 0} (test : A → Bool) (n : ℕ) (xs : List A) → list_any test xs ≡ true → (k : ℕ) × ((x : A) × IsFirst test n xs k x)
first_passes test n [] h = absurd (false≢true h)
first_passes {A} test n (x ∷ xs) h = chosen (test x) refl h (first_passes test (n + 1) xs)
  where
    chosen : (t : Bool) → test x ≡ t → (t || list_any test xs) ≡ true → (list_any test xs ≡ true → (k : ℕ) × ((y : A) × IsFirst test (n + 1) xs k y))
        → (k : ℕ) × ((y : A) × IsFirst test n (x ∷ xs) k y)
    chosen true e s later = (0, (x, (ap (λ t. cond t n (first_from test (n + 1) xs)) e ∙ omega arith, omega arith, refl, e)))
    chosen false e s later =
        let found = later s in
        let is = found.1.1 in
        (suc found.0, (found.1.0, (ap (λ t. cond t n (first_from test (n + 1) xs)) e ∙ is.0 ∙ omega arith, omega (arith, is.1), is.2, is.3)))

-- the first symbol that the reader lacks
lacking_index : (symbols theirs : List (List ℕ)) (y : Option ℕ) → lacks_symbol symbols theirs y ≡ true
    → (first_from (is_lacking theirs) 0 symbols < length symbols)
    × IsFault (enum_or_default (position (λ t. bytes_eq t (unwrap_or (slice_get symbols (first_from (is_lacking theirs) 0 symbols)) [])) theirs) y)
lacking_index symbols theirs (Some index) h = absurd (false≢true h)
lacking_index symbols theirs None h =
    let found = first_passes (is_lacking theirs) 0 symbols h in
    let is = found.1.1 in
    let at : first_from (is_lacking theirs) 0 symbols ≡ found.0 = omega (arith, is.0) in (
      omega (arith, at, is.1),
      rw (at, is.2) (subst (λ (o : Option ℕ). IsFault (enum_or_default o None)) (sym (no_index found.1.0 theirs (not_true _ is.3))) tt),
    )

module _ (writer reader : List Node) where
  pub record Errs (n q : Node) (v : Value) (nodes levels : ℕ) : Type 0 where
    pub fitting : fits writer n v ≡ true
    pub faulty : IsFault (resolve writer reader n q v)
    pub nodes_is : size v ≡ nodes
    pub depth_is : depth v ≡ levels

  lone_inside : (n q : Node) → AreLone n q → Errs n q (lone_value n q) 1 1
  lone_inside Node.bytes Node.string e = record {
    fitting = refl;
    faulty = fault_matched writer reader Node.bytes Node.string (bytes_as (255 ∷ [])) (rw not_a_text tt);
    nodes_is = refl;
    depth_is = refl;
  }
  lone_inside (Node.enum a xs symbols x) (Node.enum b ys theirs y) e =
      let found = lacking_index symbols theirs y e in
      record {
        fitting = lt-ltb (first_from (is_lacking theirs) 0 symbols) (length symbols) found.0;
        faulty = fault_matched writer reader (Node.enum a xs symbols x) (Node.enum b ys theirs y)
            (enum_as (symbol_at (Node.enum a xs symbols x) (first_from (is_lacking theirs) 0 symbols))) found.1;
        nodes_is = refl;
        depth_is = refl;
      }
  lone_inside _ _ e = absurd e

  -- a datum of one node
  pub lone_errs : (n q : Node) → Asked.lone ≡ asked writer reader n q → Errs n q (lone_value n q) 1 1
  lone_errs n q e = lone_inside n q (asks writer reader n q Asked.lone e).1

  lone_same : (n q : Node) (v : Value) → HasFewChoices n → AreLone n q → IsLone n q v → v ≡ lone_value n q
  lone_same Node.bytes Node.string v few e is = is.bytes refl
  lone_same (Node.enum a xs symbols x) (Node.enum b ys theirs y) v few e is =
      is.symbol (first_from (is_lacking theirs) 0 symbols) refl (omega (arith, (lacking_index symbols theirs y e).0, few))
  lone_same _ _ v few e is = absurd e

  -- as it is built
  pub built_errs : (n q : Node) (v : Value) → HasFewChoices n → Asked.lone ≡ asked writer reader n q → IsLone n q v → Errs n q v 1 1
  built_errs n q v few e is =
      subst (λ (x : Value). Errs n q x 1 1) (sym (lone_same n q v few (asks writer reader n q Asked.lone e).1 is)) (lone_errs n q e)

  -- one part
  part_inside : (n q : Node) (a b : ℕ) (v : Value) → HaveParts n q a b → fits writer (node_at writer a) v ≡ true
      → IsFault (resolve writer reader (node_at writer a) (node_at reader b) v) → Errs n q (part_value n v) (suc (size v)) (suc (depth v))
  part_inside (Node.array x) (Node.array y) a b v same fit f = record {
    fitting = and_from (fits writer (node_at writer x) v) true (subst (λ (p : ℕ). fits writer (node_at writer p) v ≡ true) same.0 fit) refl;
    faulty = array_faults writer reader x y v (subst (λ (p : ℕ). IsFault (resolve writer reader (node_at writer p) (node_at reader y) v)) same.0
        (subst (λ (p : ℕ). IsFault (resolve writer reader (node_at writer a) (node_at reader p) v)) same.1 f));
    nodes_is = omega arith;
    depth_is = omega arith;
  }
  part_inside (Node.map_of x) (Node.map_of y) a b v same fit f = record {
    fitting = map_fits writer reader x v (subst (λ (p : ℕ). fits writer (node_at writer p) v ≡ true) same.0 fit);
    faulty = map_faults writer reader x y v (subst (λ (p : ℕ). IsFault (resolve writer reader (node_at writer p) (node_at reader y) v)) same.0
        (subst (λ (p : ℕ). IsFault (resolve writer reader (node_at writer a) (node_at reader p) v)) same.1 f));
    nodes_is = omega arith;
    depth_is = omega arith;
  }
  part_inside _ _ a b v own fit f = absurd own

  pub part_errs : (n q : Node) (a b : ℕ) (v : Value) → Asked.part a b ≡ asked writer reader n q → fits writer (node_at writer a) v ≡ true
      → IsFault (resolve writer reader (node_at writer a) (node_at reader b) v) → Errs n q (part_value n v) (suc (size v)) (suc (depth v))
  part_errs n q a b v e fit f = part_inside n q a b v (asks writer reader n q (Asked.part a b) e) fit f

  -- a reader's union
  pub into_errs : (n q : Node) (ids : List ℕ) (k b : ℕ) (v : Value) → branches_of n ≡ None → q ≡ Node.union ids → first_match writer reader n ids ≡ Some k → slice_get ids k ≡ Some b
      → branches_of (node_at reader b) ≡ None → fits writer n v ≡ true → IsFault (resolve writer reader n (node_at reader b) v) → IsFault (resolve writer reader n q v)
  into_errs n q ids k b v plain is first here their_plain fit f =
      let form = plain_form writer reader n v (value_of_plain writer n v plain fit) in
      let own : unwrap_or (slice_get ids k) 0 ≡ b = ap (λ (o : Option ℕ). unwrap_or o 0) here in
      subst (λ (m : Node). IsFault (resolve writer reader n m v)) (sym is)
      (subst (λ (x : Resolved). IsFault x) (sym (form.1 (Node.union ids)))
      (subst (λ (o : Option ℕ). IsFault (into_branch writer reader n ids o form.0)) (sym first)
      (fault_map (Value.union k) (matched writer reader n (branch_node reader ids k) form.0)
      (subst (λ (p : ℕ). IsFault (matched writer reader n (node_at reader p) form.0)) (sym own)
      (subst (λ (x : Resolved). IsFault x) (form.1 (node_at reader b) ∙ through_is_matched writer reader n (node_at reader b) form.0 their_plain) f)))))
