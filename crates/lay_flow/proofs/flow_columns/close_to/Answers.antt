use Rattle.std.proofs.Common.{◌<◌, ◌≤◌, ◌-◌, arith, length, ℕ, subst, sym, inl, inr}
use Rattle.std.proofs.lemmas.Bool.{cases_lt}
use Rattle.lay_flow.specs.Blocks.Boxes.{parent_at}
use Rattle.lay_flow.proofs.BlocksLemmas.BoxTrees.{parent_before, parents_together}
use Rattle.lay_flow.specs.Pass.Known.{IsKnown}
use Rattle.lay_flow.proofs.flow_columns.close_to.Goals as goal

pub loop-innermost-init : goal.loop-innermost-init
loop-innermost-init c =
    let boxes = c.args.boxes.now.list.now in
    let positive = c.requires.knows.fits.parent in
    let to = c.holder_at-to in
    let up : to.result ≤ c.args.m - 1 = elim (cases_lt c.args.m (length boxes)) [
      | inl there ↦ (let next = to.ensures.next there in let up = parent_before boxes c.args.boxes.now.are.is_tree.tree c.args.m (omega (arith, positive)) there in omega (arith, next, up))
      | inr over ↦ (let z = to.ensures.last over in omega (arith, z))
    ] in (up, positive, c.requires)

pub loop-innermost-preserved : goal.loop-innermost-preserved
loop-innermost-preserved c =
    let boxes = c.args.boxes.now.list.now in
    let p = c.loop-innermost.innermost in
    let inv = c.loop-innermost.invariant in
    let order = inv.0 in let less = inv.1 in
    let within = inv.2.knows.fits.within in
    let test = c.loop-innermost-test.true in
    let tree = c.args.boxes.now.are.is_tree.tree in
    let to = c.holder_at-to in
    let is = c.parent-innermost.ensures.value in
    let inside : to.result < p = omega (arith, test, order) in
    let up : parent_at boxes p < p = parent_before boxes tree p (omega (arith, inside)) (omega (arith, less, within)) in
    let stays : to.result ≤ parent_at boxes p = elim (cases_lt c.args.m (length boxes)) [
      | inl there ↦ (let next = to.ensures.next there in let t = parents_together boxes tree p c.args.m less there (omega (arith, next, inside)) in omega (arith, next, t))
      | inr over ↦ (let z = to.ensures.last over in omega (arith, z))
    ] in
    let done = c.in_ok-close.ensures {u = tt} in (
      omega (arith, stays, is),
      omega (arith, up, is, less),
      subst (λ (q : ℕ). IsKnown boxes c.close.new.flow q c.args.m) (sym is) done,
    )
