use Rattle.std.proofs.Common.{◌∙◌, ap, arith, slice_get, List, ℕ}
use Rattle.std.proofs.lemmas.List.{length-map}
use Rattle.avro_texts.proofs.Keys.{all_kept, all_more, distinct_of, stored_at}
use Rattle.avro_texts.proofs.texts.Texts.add.Goals as goal

pub invariant_of-self-2 : goal.invariant_of-self-2
invariant_of-self-2 c =
    let long = length-map c.self.inside.items.keys (λ k. k.now) in
    let more = all_more c.insert_full.result c.self.inside.items.keys c.insert_full.new.self.keys _ c.insert_full.ensures.keys c.insert_full.ensures.err in
    (omega (arith, long, more, c.len.ensures.len, c.if-len-ge4294967296.false), distinct_of c.insert_full.new.self.keys c.insert_full.ensures.unique)

pub returns-clause-numbered : goal.returns-clause-numbered
returns-clause-numbered c =
    let at = c.in_ok-number.ensures.stored in
    stored_at c.insert_full.new.self.keys c.in_ok-number.number c.args.text.now at.0 at.1 at.2

pub returns-clause-kept : goal.returns-clause-kept
returns-clause-kept c =
    λ i t e. all_kept c.insert_full.result c.self.inside.items.keys c.insert_full.new.self.keys _ c.insert_full.ensures.keys c.insert_full.ensures.err i t (ap (λ (ts : List (List ℕ)). slice_get ts i) c.self.view_is ∙ e)

pub returns-clause-distinct : goal.returns-clause-distinct
returns-clause-distinct c = distinct_of c.insert_full.new.self.keys c.insert_full.ensures.unique
