-- What is resolved as it is read.
use Rattle.std.proofs.Common.{◌≡◌, ℕ, suc, List, [], ◌∷◌, ◌++◌, length, Option, Some, None, Result, Ok, Err, refl, sym, ap, ◌∙◌}
use Rattle.std.specs.Prelude.{slice_get, unwrap_or}
use Rattle.std.specs.Global.{Box}
use Rattle.std.proofs.lemmas.List.{append-nil, append_assoc}
use Rattle.avro_schema.specs.Value.{Value}
use Rattle.avro_schema.specs.Node.{Node, node_at}
use Rattle.avro_resolve.specs.Ends.{turned}
use Rattle.avro_compare.specs.Fault.{ResolutionFault, fault_in}
use Rattle.avro_resolve.specs.inside.Guided.{MadeAs, IsNothing, StandsAs, SoFar, branch_for, of_node}
use Rattle.avro_binary.specs.declared.place.Place.{Place}
use Rattle.avro_compare.specs.Pairs.{wrapped, branch_id}
use Rattle.avro_compare.specs.Resolve.{Resolved, resolve, inside, result_map}
use Rattle.avro_compare.specs.declared.error.Fault.{Fault}
use Rattle.avro_compare.specs.declared.comparison.At.{At}
use Rattle.avro_compare.specs.declared.comparison.At.TheVariants.{Ignored, Pair}
use Rattle.avro_compare.proofs.public.Lists.{one_longer}
use Rattle.avro_resolve.specs.declared.resolving.guided.Made.{Made}

abbrev pub as_fault : ResolutionFault → Resolved
as_fault f = Err f

-- ---- What was made

pub good_made : {O : Type 0} (S : O → Value → Type 0) (out : O) (q : Resolved) → MadeAs S (Made.Good out) q → (u : Value) × (q ≡ Ok u) × S out u
good_made S out (Ok u) h = (u, refl, h)
good_made S out (Err f) h = absurd h

-- ---- Unions of the writer

pub branch_good : {O : Type 0} (S : O → Value → Type 0) (out : O) (q : Resolved) → MadeAs S (Made.Good out) q → MadeAs S (Made.Good out) (inside 0 q)
branch_good S out (Ok v) h = h
branch_good S out (Err f) h = absurd h

pub branch_made : {O : Type 0} (S : List Node → Node → Place → O → Value → Type 0) (writer reader nodes : List Node) (ids : List ℕ) (k p : ℕ) (v : Value) (at : At) (made outer : Made O) → slice_get ids k ≡ Some p
    → (IsNothing made → IsNothing outer) → ((id : ℕ) (q : Resolved) → MadeAs (of_node S reader id) made q → MadeAs (of_node S reader id) outer (inside 0 q))
    → StandsAs S writer reader nodes (node_at nodes p) (branch_for writer at k) made v → StandsAs S writer reader nodes (Node.union ids) at outer (Value.union k v)
branch_made S writer reader nodes ids k p v Ignored made outer e none step h = none h
branch_made S writer reader nodes ids k p v (Pair w r) made outer e none step h = λ are is.
    let there : p ≡ branch_id (node_at writer w.0) k = sym (ap (λ (o : Option ℕ). unwrap_or o 0) e) ∙ ap (λ (n : Node). branch_id n k) is in
    step r.0 (resolve writer reader (node_at writer (branch_id (node_at writer w.0) k)) (node_at reader r.0) v)
    (h are (ap (λ (ns : List Node). node_at ns p) are ∙ ap (node_at writer) there))

pub branch_bad : (fault outer : Box Fault) (q : Resolved) → turned outer.value ≡ fault_in 0 (turned fault.value) → q ≡ Err (turned fault.value) → inside 0 q ≡ Err (turned outer.value)
branch_bad fault outer q step e = ap (inside 0) e ∙ ap as_fault (sym step)

pub wrapped_fault : (branch : Option ℕ) (f : ResolutionFault) → wrapped branch (Err f) ≡ Err f
wrapped_fault None f = refl
wrapped_fault (Some k) f = refl

-- ---- Parts so far

module _ {E A M : Type 0} (run : ℕ → List E → Result A ResolutionFault) (join : M → A → A) where
  pub so_far_none : (made : M) → ((a : A) → join made a ≡ a) → SoFar run join [] made
  so_far_none made same = λ more. unchanged (run 0 more)
    where
      unchanged : (r : Result A ResolutionFault) → r ≡ result_map (join made) r
      unchanged (Ok a) = ap (λ (x : A). Ok x) (sym (same a))
      unchanged (Err f) = refl

  pub so_far_more : (xs : List E) (x : E) (made new : M) → SoFar run join xs made
      → ((more : List E) → result_map (join made) (run (length xs) (x ∷ more)) ≡ result_map (join new) (run (suc (length xs)) more)) → SoFar run join (xs ++ x ∷ []) new
  so_far_more xs x made new h step = λ more.
      ap (run 0) (append_assoc xs (x ∷ []) more) ∙ h (x ∷ more) ∙ step more ∙ ap (λ (k : ℕ). result_map (join new) (run k more)) (sym (one_longer xs x))

  pub so_far_fails : (xs : List E) (x : E) (made : M) (f : ResolutionFault) → SoFar run join xs made → ((more : List E) → run (length xs) (x ∷ more) ≡ Err f)
      → (more : List E) → run 0 ((xs ++ x ∷ []) ++ more) ≡ Err f
  so_far_fails xs x made f h bad more = ap (run 0) (append_assoc xs (x ∷ []) more) ∙ h (x ∷ more) ∙ ap (result_map (join made)) (bad more)

  pub so_far_whole : (xs : List E) (made : M) → SoFar run join xs made → run 0 xs ≡ result_map (join made) (run (length xs) [])
  so_far_whole xs made h = ap (run 0) (sym (append-nil xs)) ∙ h []
