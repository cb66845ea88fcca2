-- A name that was taken, or why it is none.
use Rattle.std.proofs.Common.{◌≡◌, ◌-◌, true, false, cond, bytes_eq, List, ℕ, take, drop, ap, sym, subst, ◌∙◌, arith}
use Rattle.std.specs.Prelude.{string_bytes}
use Rattle.std.specs.BTreeSet.{contains_text}
use Rattle.std.specs.Str.{is_utf8}
use Rattle.std.proofs.lemmas.Option.{same_Some, none-some}
use Rattle.std.proofs.lemmas.Result.{err_from_is_err_and}
use Rattle.avro_file.specs.Held.{held}
use Rattle.avro_file.proofs.Behind.{own_refused, memory_refused}
use Rattle.avro_file.proofs.Taken.{takes_name, no_text_stops, twice_stops, content_key_stops}
use Rattle.avro_file.proofs.header.properties.take_name.Goals as goal

pub returns-in_err-start-clause-refused : goal.returns-in_err-start-clause-refused
returns-in_err-start-clause-refused g c = grind (arith, content_key_stops, err_from_is_err_and)

pub returns-in-Ok-clause-found : goal.returns-in-Ok-clause-found
returns-in-Ok-clause-found g c =
    let new = held c.take_content.new.buffer in
    let start = c.in_ok-start.start in
    let end = c.in_ok-start.end in
    let name = c.in-Ok.ensures.name in
    let behind : c.split_at.result.1.now ≡ drop start new = c.split_at.ensures.back ∙ ap (drop start) c.bytes.ensures in
    let content : c.split_at-2.result.0.now ≡ take (end - start) (drop start new) = c.split_at-2.ensures.front ∙ ap (take (end - start)) behind in
    takes_name c.args.names.now c.add_name.new.names c.args.at start end new (string_bytes c.in-Ok.name) c.in_ok-start.ensures.found
    (omega (arith, c.in_ok-start.ensures.took.limited, c.requires.fits, c.requires.small)) (name ∙ content)
    (ap is_utf8 name ∙ c.in-Ok.ensures.valid)
    (subst (λ (n : List ℕ). contains_text c.args.names.now n ≡ false) (sym name) c.in-Ok.ensures.fresh)
    (subst (λ (n : List ℕ). (word : List ℕ) → contains_text c.add_name.new.names word ≡ cond (bytes_eq n word) true (contains_text c.args.names.now word)) (sym name) c.in-Ok.ensures.added)

pub returns-in-Err-NoText-clause-lost : goal.returns-in-Err-NoText-clause-lost
returns-in-Err-NoText-clause-lost g c =
    own_refused g.I.Input.gives g.I.Input.failures g.met.I.Input.chain c.args.reach.limit _ _ _ _ _ (λ q. cc) (λ q. cc) (λ q. cc) tt c.in_ok-start.ensures.took

pub returns-in-Err-NoText-clause-refused : goal.returns-in-Err-NoText-clause-refused
returns-in-Err-NoText-clause-refused g c = grind (arith, no_text_stops, same_Some)

pub returns-in-Err-Twice-clause-lost : goal.returns-in-Err-Twice-clause-lost
returns-in-Err-Twice-clause-lost g c =
    own_refused g.I.Input.gives g.I.Input.failures g.met.I.Input.chain c.args.reach.limit _ _ _ _ _ (λ q. cc) (λ q. cc) (λ q. cc) tt c.in_ok-start.ensures.took

pub returns-in-Err-Twice-clause-refused : goal.returns-in-Err-Twice-clause-refused
returns-in-Err-Twice-clause-refused g c = grind (arith, same_Some, twice_stops)

pub returns-in-Err-OutOfMemory-clause-lost : goal.returns-in-Err-OutOfMemory-clause-lost
returns-in-Err-OutOfMemory-clause-lost g c =
    memory_refused g.I.Input.gives g.I.Input.failures g.met.I.Input.chain c.args.reach.limit _ _ _ _ c.in_ok-start.ensures.took

pub returns-in-Err-OutOfMemory-clause-refused : goal.returns-in-Err-OutOfMemory-clause-refused
returns-in-Err-OutOfMemory-clause-refused g c = λ f keys is are. absurd (none-some f is)
