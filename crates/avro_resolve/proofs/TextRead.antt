-- Bytes that become a text.
use Rattle.std.proofs.Common.{◌≡◌, ℕ, List, true, false, Ok, Err, ap, sym, ◌∙◌}
use Rattle.std.specs.Str.{is_utf8}
use Rattle.std.proofs.lemmas.Bool.{cond-true, cond-false}
use Rattle.avro_schema.specs.Value.{Value}
use Rattle.avro_schema.specs.Node.{Node}
use Rattle.avro_compare.specs.Fault.{fault_here, not_utf8}
use Rattle.avro_compare.specs.Resolve.{bytes_as}

pub text_taken : (b t : List ℕ) (n : Node) → n ≡ Node.string → t ≡ b → is_utf8 b ≡ true → bytes_as b n ≡ Ok (Value.string t)
text_taken b t n e same good =
    ap (bytes_as b) e ∙ cond-true (is_utf8 b) (Ok (Value.string b)) (Err (fault_here not_utf8)) good ∙ ap (λ (x : List ℕ). Ok (Value.string x)) (sym same)

pub text_bad : (b : List ℕ) (n : Node) → n ≡ Node.string → is_utf8 b ≡ false → bytes_as b n ≡ Err (fault_here not_utf8)
text_bad b n e bad = ap (bytes_as b) e ∙ cond-false (is_utf8 b) (Ok (Value.string b)) (Err (fault_here not_utf8)) bad
