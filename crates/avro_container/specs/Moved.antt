-- What a call does to an input and an output.
use Rattle.std.specs.Prelude.{ℕ, List}

-- some bytes were taken and some put, of which this holds
pub record Moved {I O : Type 0} (gives : I → List ℕ → I → Type 0) (keeps : O → List ℕ → O → Type 0) (input input_after : I) (output output_after : O) (holds : List ℕ → List ℕ → Type 0) : Type 0 where
  pub taken : List ℕ
  pub put : List ℕ
  pub is_taken : gives input taken input_after
  pub is_put : keeps output put output_after
  pub does : holds taken put
