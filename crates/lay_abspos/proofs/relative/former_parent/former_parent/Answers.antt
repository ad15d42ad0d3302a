use Rattle.std.proofs.Common.{◌≡◌, ◌<◌, ◌+◌, ◌-◌, ◌∙◌, ℕ, List, ap, arith, get_or, sym, subst, take, length, vec_len}
use Rattle.lay_abspos.specs.Relative.OpenParts.{AreOpen, GoesOn}
use Rattle.lay_abspos.proofs.RelativeLemmas.Nearest.{nearest-is, popped}
use Rattle.lay_abspos.proofs.relative.former_parent.former_parent.Goals as goal

pub loop-parts-preserved : goal.loop-parts-preserved
loop-parts-preserved c =
    let boxes = c.args.boxes.now in
    let xs = c.loop-parts.parts.items in
    let top = subst (λ (ys : List ℕ). (i : ℕ) × (i + 1 ≡ length ys) × (get_or c.args.next.now (get_or ys i 0) 0 < c.args.end)) c.deref.ensures.value (c.is_top_over.ensures.over c.loop-parts-test.true) in
    let count : vec_len c.loop-parts.parts - 1 ≡ top.0 = (let n = c.deref.ensures.len in let m : length c.deref.result.now ≡ length xs = ap (λ (ys : List ℕ). length ys) c.deref.ensures.value in let t = top.1 in omega (arith, n, m, t)) in
    subst (AreOpen boxes c.args.k) (sym (c.pop.ensures.rest ∙ ap (λ (n : ℕ). take n xs) count))
    (popped boxes c.requires.tree c.args.next.now c.requires.next c.args.k c.args.end xs c.requires.within c.requires.end c.loop-parts.invariant top.0 top.1 top.2)

pub returns-clause-parent : goal.returns-clause-parent
returns-clause-parent c =
    let goes = subst (λ (ys : List ℕ). GoesOn c.args.next.now ys c.args.end) c.deref.ensures.value (c.is_top_over.ensures.goes_on c.loop-parts-test.false) in
    let found = rw (c.deref-2.ensures.value, c.box_parent.ensures) at c.nearest.ensures in
    nearest-is c.args.boxes.now c.requires.tree c.args.next.now c.requires.next c.args.k c.args.end c.loop-parts.parts.items c.requires.within c.requires.end c.loop-parts.invariant goes c.nearest.result found
