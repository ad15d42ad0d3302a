use Rattle.std.proofs.Common.{◌≡◌, ◌+◌, ◌-◌, arith, length, ℕ, refl, subst, sym}
use Rattle.lay_flow.specs.Pass.Known.{IsKnown}
use Rattle.lay_flow.proofs.BorderBoxSteps.{columns_of, near_columns}
use Rattle.lay_flow.proofs.flow_columns.flow_columns.Goals as goal

pub loop-k-preserved : goal.loop-k-preserved
loop-k-preserved c =
    let k = c.loop-k.k in
    let e : k + 1 - 1 ≡ k = omega arith in
    let done = c.in_ok-advance.ensures {u = tt} in
    (omega arith, subst (λ (p : ℕ). IsKnown c.args.boxes.now.list.now c.advance.new.flow p (k + 1)) (sym e) done)

pub finish-requires : goal.finish-requires
finish-requires c =
    let some = c.args.boxes.now.are.is_tree.some in
    let inv = c.loop-k.invariant in
    let e : c.loop-k.k ≡ length c.args.boxes.now.list.now = omega (arith, some) in
    subst (λ (m : ℕ). IsKnown c.args.boxes.now.list.now c.loop-k.flow (m - 1) m) e inv.1

pub returns-clause-columns : goal.returns-clause-columns
returns-clause-columns c =
    let done = (c.in_ok-finish.ensures {u = tt}).finished in
    let corners = c.in_ok-corners.ensures {u = tt} in
    columns_of c.args.boxes.now.list.now c.finish.new.flow _ c.in_ok-corners.corners.items done (rw c.deref.ensures.value at corners) refl refl refl refl refl

pub returns-clause-near : goal.returns-clause-near
returns-clause-near c =
    let done = c.in_ok-finish.ensures {u = tt} in
    let corners = c.in_ok-corners.ensures {u = tt} in
    near_columns c.args.boxes.now.list.now c.finish.new.flow _ c.in_ok-corners.corners.items done.finished (rw c.deref.ensures.value at corners) refl refl refl refl refl c.args.boxes.now.are done.near done.sized
