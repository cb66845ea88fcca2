-- What an output that keeps a front has kept, and the answer with it.
use Rattle.std.proofs.Common.{◌≡◌, ◌∙◌, ℕ, zero, suc, ◌-◌, ◌+◌, min, List, [], ◌∷◌, ◌++◌, length, take, refl, sym, ap, arith, length-append}
use Rattle.std.proofs.lemmas.List.{take_min}
use Rattle.std.specs.Prelude.{vec_items}
use Rattle.avro_answer.specs.CutAnswer.{IsCut}
use Rattle.avro_answer.specs.declared.answer.CutAnswer.{CutAnswer}
use Rattle.avro_answer.specs.declared.front.Front.{Front}
use Rattle.avro_answer.specs.inside.FrontKept.{HasPut, Keeps}

-- a front, and as much more as there is room for
front_more : (capacity : ℕ) (before bytes : List ℕ) → take capacity before ++ take (capacity - length (take capacity before)) bytes ≡ take capacity (before ++ bytes)
front_more zero before bytes = refl
front_more (suc capacity) [] bytes = let all : suc capacity - 0 ≡ suc capacity = omega arith in ap (λ n. take n bytes) all
front_more (suc capacity) (x ∷ before) bytes =
    let less : suc capacity - length (x ∷ take capacity before) ≡ capacity - length (take capacity before) = omega arith in
    ap (λ n. x ∷ (take capacity before ++ take n bytes)) less ∙ ap (λ rest. x ∷ rest) (front_more capacity before bytes)

pub adds : (s t : Front) (bytes front : List ℕ) (count : ℕ) → t.capacity ≡ s.capacity → t.text.items ≡ s.text.items ++ front → front ≡ take count bytes
    → count ≡ min (s.capacity - length s.text.items) (length bytes) → t.length ≡ s.length + length bytes → Keeps s bytes t
adds s t bytes front count same_capacity grown is counted longer = record {
  capacity = same_capacity;
  puts = λ before put. record {
    front = grown
        ∙ ap (λ more. s.text.items ++ more) (is ∙ ap (λ n. take n bytes) counted ∙ take_min (s.capacity - length s.text.items) bytes)
        ∙ ap (λ held. held ++ take (s.capacity - length held) bytes) put.front
        ∙ front_more s.capacity before bytes
        ∙ ap (λ n. take n (before ++ bytes)) (sym same_capacity);
    whole = longer ∙ ap (λ n. n + length bytes) put.whole ∙ sym (length-append before bytes);
  };
}

pub cut_of : (s t : Front) (capacity : ℕ) (text : List ℕ) (a : CutAnswer) → HasPut s [] → s.capacity ≡ capacity → Keeps s text t
    → a.answer.text ≡ t.text → a.length ≡ t.length → IsCut capacity text a
cut_of s t capacity text a empty is kept same_text same_length = let put = kept.puts [] empty in record {
  front = ap vec_items same_text ∙ put.front ∙ ap (λ n. take n text) (kept.capacity ∙ is);
  whole = same_length ∙ put.whole;
}
