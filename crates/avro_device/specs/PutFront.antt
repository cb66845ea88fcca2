-- What a put that may fail leaves, where `keeps` says which bytes an output moved between two states.
use Rattle.std.specs.Prelude.{◌≡◌, ℕ, List, ◌++◌}

-- A prefix of some bytes was put.
pub record PutsFrontOf {O : Type 0} (keeps : O → List ℕ → O → Type 0) (from to : O) (bytes : List ℕ) : Type 0 where
  pub front : List ℕ
  pub later : List ℕ
  pub kept : keeps from front to
  pub split : bytes ≡ front ++ later
