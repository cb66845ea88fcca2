use Rattle.std.proofs.Common.{◌≡◌, ◌+◌, ◌-◌, ◌∙◌, ◌&&◌, ◌||◌, ◌==◌, ap, drop, length, arith}
use Rattle.avro_compare.specs.inside.TypeNames.{has_alias, holds}
use Rattle.avro_compare.proofs.HeldAliases.{alias_next, alias_none}
use Rattle.avro_compare.proofs.reader_types.add_aliases.Goals as goal

pub loop-left-init : goal.loop-left-init
loop-left-init c = (
  omega arith,
  λ key b. alias_none c.args.texts.now c.args.aliases.now (length c.args.aliases.now) key (c.args.id == b) (holds c.args.sets.now key b) (omega arith),
)

pub bounds-aliases-left : goal.bounds-aliases-left
bounds-aliases-left c = omega (arith, c.loop-left-test.true, c.loop-left.invariant.0)

pub loop-left-preserved : goal.loop-left-preserved
loop-left-preserved c =
    let l = c.loop-left in
    let aliases = c.args.aliases.now in
    let texts = c.args.texts.now in
    let one : l.left ≡ l.left - 1 + 1 = omega (arith, c.loop-left-test.true) in (
      omega (arith, l.invariant.0),
      λ key b.
          let here = c.args.id == b in
          let old = holds c.args.sets.now key b in
          alias_next texts aliases (l.left - 1) c.index-aliases-left.result key here (holds l.sets key b) (holds c.add_alias.new.sets key b) old
          (omega (arith, c.loop-left-test.true, l.invariant.0)) c.index-aliases-left.is
          (l.invariant.1 key b ∙ ap (λ n. (here && has_alias texts key (drop n aliases)) || old) one)
          (c.in_ok-add_alias.ensures key b),
    )

pub returns : goal.returns
returns c = λ key b.
    let none : c.loop-left.left ≡ 0 = omega (arith, c.loop-left-test.false) in
    c.loop-left.invariant.1 key b ∙ ap (λ n. (c.args.id == b && has_alias c.args.texts.now key (drop n c.args.aliases.now)) || holds c.args.sets.now key b) none
