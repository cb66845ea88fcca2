use Rattle.std.proofs.Common.{◌∷◌, [], List, ℕ, pos, take, sym, subst, refl, arith, None}
use Rattle.avro_zigzag.specs.Number.{SpellsLong}
use Rattle.avro_cursor.proofs.public.HeadLaws.{head_found}
use Rattle.avro_cursor.proofs.cursor.Cursor.block.Goals as goal

pub returns-then-is_at_end : goal.returns-then-is_at_end
returns-then-is_at_end c =
    let now = c.args.self.now in
    let zero : SpellsLong (pos 0) (0 ∷ []) = record { groups = refl; value = refl; few = omega arith } in
    head_found now c.pass.new.self None None (take 1 now.bytes)
    (subst (λ (bytes : List ℕ). SpellsLong (pos 0) bytes) (sym (c.is_at_end.ensures.zero c.if-is_at_end.true)) zero) c.pass.ensures.passed tt
