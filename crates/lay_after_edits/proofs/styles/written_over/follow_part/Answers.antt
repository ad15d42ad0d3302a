use Rattle.std.proofs.Common.{arith, refl}
use Rattle.lay_style.specs.ComputedStyle.{style_at}
use Rattle.lay_after_edits.proofs.StylesLemmas.WrittenStyles.{all_follow, one_follows}
use Rattle.lay_after_edits.proofs.styles.written_over.follow_part.Goals as goal

pub follow_style-requires-clause-there : goal.follow_style-requires-clause-there
follow_style-requires-clause-there c = let known = c.loop-k.invariant in omega (arith, c.loop-k-test.true, known.within)

pub follow_style-requires-clause-later : goal.follow_style-requires-clause-later
follow_style-requires-clause-later c = let known = c.loop-k.invariant in omega (arith, c.loop-k-test.true, known.within, known.count)

pub loop-k-preserved : goal.loop-k-preserved
loop-k-preserved c =
    rw c.follow_style.ensures
    (one_follows c.loop-k.styles.items c.args.later.now c.loop-k.k c.args.part.until (style_at c.args.later.now c.loop-k.k) c.loop-k.invariant c.loop-k-test.true refl)

pub returns : goal.returns
returns c = all_follow c.loop-k.styles.items c.args.later.now c.loop-k.k c.args.part.until c.loop-k.invariant c.loop-k-test.false
