use Rattle.std.proofs.Common.{arith, sym, set, subst}
use Rattle.lay_abspos.proofs.RelativeLemmas.Ends.{Closing, begin, finish, step}
use Rattle.lay_abspos.proofs.relative.subtree_end.end_at.Goals as goal

pub loop-at-init : goal.loop-at-init
loop-at-init c = begin c.args.boxes.now c.requires.tree c.args.ends.now c.args.k c.requires.behind c.requires.within c.requires.before

pub bounds-ends-at : goal.bounds-ends-at
bounds-ends-at c =
    let i = c.loop-at.invariant in
    let high = i.high in
    let count = i.count in
    let within = c.requires.within in
    omega (arith, high, count, within)

pub box_parent-at-requires : goal.box_parent-at-requires
box_parent-at-requires c =
    let i = c.loop-at.invariant in
    let high = i.high in
    let within = c.requires.within in
    omega (arith, high, within)

pub loop-at-preserved : goal.loop-at-preserved
loop-at-preserved c =
    let boxes = c.args.boxes.now in
    let is = c.box_parent-parent.ensures in
    let more = c.loop-at-test.true in
    subst (λ (p : _). Closing boxes (set c.loop-at.ends c.loop-at.at c.args.k) c.args.k p) (sym c.box_parent-at.ensures)
    (step boxes c.requires.tree c.loop-at.ends c.args.k c.loop-at.at c.requires.within c.loop-at.invariant (omega (arith, is, more)))

pub returns : goal.returns
returns c =
    let is = c.box_parent-parent.ensures in
    let done = c.loop-at-test.false in
    finish c.args.boxes.now c.requires.tree c.loop-at.ends c.args.k c.loop-at.at c.loop-at.invariant (omega (arith, is, done))
