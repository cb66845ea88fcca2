-- What is found after a number of bytes is what is found at the front of the rest.
use Rattle.std.proofs.Common.{◌≡◌, ℕ, ◌<◌, ◌≤◌, inl, inr, List, length, drop, Option, Some, None, Result, Ok, Err, refl, subst, sym, arith}
use Rattle.std.specs.Option.{IfSome}
use Rattle.avro_schema.specs.Node.{Node}
use Rattle.avro_schema.specs.Fits.{LimitValues}
use Rattle.avro_cursor.specs.Fault.{end_of_input}
use Rattle.avro_cursor.specs.declared.error.ReadError.{ReadError}
use Rattle.avro_resolve.specs.declared.error.ReadResolveError.{ReadResolveError}
use Rattle.avro_answer.specs.DataPut.{DatumPut}
use Rattle.avro_answer.specs.DataRead.{fault_found, IsDatumTold}
use Rattle.avro_answer.specs.ReadAnswer.{Found, broken, datum, IsAtFront, IsFound, IsAllFound}
use Rattle.avro_answer.specs.declared.data_error.DataError.{DataError}
use Rattle.avro_answer.specs.declared.form.Form.{Form}

module _ (writer : List Node) (reader : Option (List Node)) (limits : LimitValues) (skip : ℕ) (bytes : List ℕ) where
  -- where bytes are fewer than those that are skipped
  pub too_few : length bytes < skip → IsAllFound writer reader limits skip bytes (broken (end_of_input 0))
  too_few few = record { there = inl (few, refl); alone = others }
    where
      others : (other : Found) → IsFound writer reader limits skip bytes other → other ≡ broken (end_of_input 0)
      others other (inl (_, is)) = is
      others other (inr (enough, _)) = absurd (omega (arith, few, enough))

  -- and why data are refused then
  pub too_few_for : length bytes < skip → (e : ReadResolveError) → e ≡ ReadResolveError.Read (ReadError.EndOfInput 0)
      → IfSome (fault_found e) (IsAllFound writer reader limits skip bytes)
  too_few_for few e is = subst (λ (x : ReadResolveError). IfSome (fault_found x) (IsAllFound writer reader limits skip bytes)) (sym is) (too_few few)

module _ (writer : List Node) (reader : Option (List Node)) (limits : LimitValues) (skip : ℕ) (bytes : List ℕ) (enough : skip ≤ length bytes) where
  at_front : (rest : List ℕ) (found : Found) → IsFound writer reader limits 0 rest found → IsAtFront writer reader limits rest found
  at_front rest found (inl (few, _)) = absurd (omega (arith, few))
  at_front rest found (inr (_, at)) = at

  found_behind : (found : Found) → IsAllFound writer reader limits 0 (drop skip bytes) found → IsAllFound writer reader limits skip bytes found
  found_behind found h = record { there = inr (enough, at_front (drop skip bytes) found h.there); alone = others }
    where
      others : (other : Found) → IsFound writer reader limits skip bytes other → other ≡ found
      others other (inl (few, _)) = absurd (omega (arith, few, enough))
      others other (inr (_, at)) = h.alone other (inr (omega arith, at))

  module _ (rest : List ℕ) (is : rest ≡ drop skip bytes) where
    pub all_behind : (found : Found) → IsAllFound writer reader limits 0 rest found → IsAllFound writer reader limits skip bytes found
    all_behind found h = found_behind found (subst (λ b. IsAllFound writer reader limits 0 b found) is h)

    pub some_behind : (o : Option Found) → IfSome o (IsAllFound writer reader limits 0 rest) → IfSome o (IsAllFound writer reader limits skip bytes)
    some_behind None h = tt
    some_behind (Some found) h = all_behind found h

    pub told_behind : (form : Form) (text : List ℕ) → IsDatumTold writer reader limits form 0 rest text → IsDatumTold writer reader limits form skip bytes text
    told_behind form text h = record { value = h.value; len = h.len; is_found = all_behind (datum h.value h.len) h.is_found; told = h.told }

    pub put_behind : {O A : Type 0} (keeps : O → List ℕ → O → Type 0) (failures : O → ℕ) (stuck : O → Type 0) (form : Form) (s t : O) (r : Result A DataError)
        → DatumPut keeps failures stuck writer reader limits form 0 rest s t r → DatumPut keeps failures stuck writer reader limits form skip bytes s t r
    put_behind keeps failures stuck form s t (Ok x) h =
        record { put = (h.put.0, told_behind form h.put.0 h.put.1, h.put.2); front = tt; refused = tt; works = h.works; fails = λ is. absurd cc; memory = λ is. absurd cc; unused = tt }
    put_behind keeps failures stuck form s t (Err (DataError.Refused e)) h =
        record { put = tt; front = tt; refused = (h.refused.0, some_behind (fault_found e) h.refused.1); works = tt; fails = λ is. absurd cc; memory = λ is. absurd cc; unused = h.unused }
    put_behind keeps failures stuck form s t (Err (DataError.Put e)) h =
        record { put = tt; front = (h.front.0, told_behind form h.front.0 h.front.1, h.front.2); refused = tt; works = tt; fails = h.fails; memory = h.memory; unused = tt }
