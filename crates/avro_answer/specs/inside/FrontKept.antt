-- What is kept of the bytes that were put.
use Rattle.std.proofs.Common.{◌≡◌, ◌∙◌, ℕ, List, [], ◌++◌, length, take, sym, ap, refl, subst, append_assoc, append-nil}
use Rattle.avro_answer.specs.declared.front.Front.{Front}

-- these bytes were put: their front is kept, and their number is known
pub record HasPut (s : Front) (bytes : List ℕ) : Type 0 where
  pub front : s.text.items ≡ take s.capacity bytes
  pub whole : s.length ≡ length bytes

-- whatever was put before, these bytes were put after it
pub record Keeps (s : Front) (bytes : List ℕ) (t : Front) : Type 0 where
  pub capacity : t.capacity ≡ s.capacity
  pub puts : (before : List ℕ) → HasPut s before → HasPut t (before ++ bytes)

-- nothing was put where what is kept stays as it is
pub keeps_same : (s t : Front) → t.capacity ≡ s.capacity → t.text.items ≡ s.text.items → t.length ≡ s.length → Keeps s [] t
keeps_same s t same_capacity same_text same_length = record {
  capacity = same_capacity;
  puts = λ before put. subst (HasPut t) (sym (append-nil before)) (record {
    front = same_text ∙ put.front ∙ ap (λ n. take n before) (sym same_capacity);
    whole = same_length ∙ put.whole;
  });
}

pub keeps_none : (s : Front) → Keeps s [] s
keeps_none s = keeps_same s s refl refl refl

pub keeps_chain : (s t u : Front) (front back : List ℕ) → Keeps s front t → Keeps t back u → Keeps s (front ++ back) u
keeps_chain s t u front back first second = record {
  capacity = second.capacity ∙ first.capacity;
  puts = λ before put. subst (HasPut u) (append_assoc before front back) (second.puts (before ++ front) (first.puts before put));
}
