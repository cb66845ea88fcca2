-- Faults after bytes.
use Rattle.std.proofs.Common.{◌≡◌, ℕ, ◌+◌, List, ◌++◌, length, refl, sym, ap, ◌∙◌, length-append, arith}
use Rattle.avro_cursor.specs.Fault.{ReadFault, end_of_input, invalid_number, invalid_boolean, invalid_text, unknown_index, invalid_length, wrong_block_size, duplicate_key, limit_exceeded, behind}

pub behind-none : (f : ReadFault) → f ≡ behind 0 f
behind-none (end_of_input place) = ap end_of_input (omega arith)
behind-none (invalid_number place) = ap invalid_number (omega arith)
behind-none (invalid_boolean place) = ap invalid_boolean (omega arith)
behind-none (invalid_text place) = ap invalid_text (omega arith)
behind-none (unknown_index place) = ap unknown_index (omega arith)
behind-none (invalid_length place) = ap invalid_length (omega arith)
behind-none (wrong_block_size place) = ap wrong_block_size (omega arith)
behind-none (duplicate_key place) = ap duplicate_key (omega arith)
behind-none limit_exceeded = refl

pub behind-add : (a b : ℕ) (f : ReadFault) → behind (a + b) f ≡ behind a (behind b f)
behind-add a b (end_of_input place) = ap end_of_input (omega arith)
behind-add a b (invalid_number place) = ap invalid_number (omega arith)
behind-add a b (invalid_boolean place) = ap invalid_boolean (omega arith)
behind-add a b (invalid_text place) = ap invalid_text (omega arith)
behind-add a b (unknown_index place) = ap unknown_index (omega arith)
behind-add a b (invalid_length place) = ap invalid_length (omega arith)
behind-add a b (wrong_block_size place) = ap wrong_block_size (omega arith)
behind-add a b (duplicate_key place) = ap duplicate_key (omega arith)
behind-add a b limit_exceeded = refl

pub behind-append : (a b : List ℕ) (f : ReadFault) → behind (length (a ++ b)) f ≡ behind (length a) (behind (length b) f)
behind-append a b f = ap (λ (n : ℕ). behind n f) (length-append a b) ∙ behind-add (length a) (length b) f

-- faults after the same bytes
pub same_moved : (f g p q : ReadFault) (a b : List ℕ) → f ≡ behind (length a) p → g ≡ behind (length b) q → a ≡ b → p ≡ q → f ≡ g
same_moved f g p q a b m k same e = m ∙ ap (behind (length a)) e ∙ ap (λ (c : List ℕ). behind (length c) q) same ∙ sym k
