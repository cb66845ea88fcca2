use Rattle.std.proofs.Common.{◌∙◌, List, ℕ, Option, ap, length, refl, sym}
use Rattle.std.specs.Prelude.{slice_get}
use Rattle.std.proofs.lemmas.Option.{slice_get_read}
use Rattle.avro_compare.proofs.part_finding.aliases_at.Goals as goal

pub returns : goal.returns
returns c =
    let lists = c.args.all.now in
    let list = c.in_ok-lists.lists.now in
    let seen = c.deref.result.now in
    let outer = c.in_ok-lists.ensures.lookup in
    let inner = c.in_ok-aliases.ensures.lookup in
    record {
      list = list;
      there = slice_get_read lists (length lists) c.args.r.0 list refl outer.3.0 outer.1;
      is = ap (λ (xs : List (Option ℕ)). slice_get xs c.args.index) (sym c.deref.ensures.value) ∙ slice_get_read seen (length seen) c.args.index c.in_ok-aliases.aliases.now refl inner.3.0 inner.1;
    }
