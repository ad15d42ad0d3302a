use Rattle.std.proofs.Common.{◌<◌, length, rules, arith, ap, sym, subst, ◌∙◌, List}
use Rattle.lay_units.specs.declared.length.Unit.{Unit as Length}
use Rattle.lay_flow.specs.Blocks.Lengths.{length_at}
use Rattle.lay_flow.proofs.SettleSteps.{settled_standing, settled_inheriting, settled_keeping}
use Rattle.lay_flow.proofs.SoFar.{Wrote}
use Rattle.lay_flow.proofs.WroteColumns.{wrote_length}
use Rattle.lay_flow.proofs.settling.EndedRun.settle_one.Goals as goal
use Rattle.std.proofs.Common.{refl}

pub returns-then-not-flag_at : goal.returns-then-not-flag_at
returns-then-not-flag_at c before was =
    let marks = c.args.marks.now.items in let within : c.args.k < length c.args.self.now.boxes.list.now = (let low = c.requires.within in let high = c.args.self.now.within in omega (arith, low, high)) in let counted = c.requires.marks in
    let wrote : Wrote length_at marks c.write_at.new.column.items c.args.k c.args.self.now.mark.0 =
    subst (λ (xs : List Length). Wrote length_at marks xs c.args.k c.args.self.now.mark.0) (sym c.write_at.ensures) (wrote_length marks c.args.k c.args.self.now.mark (omega (arith, within, counted))) in
    settled_standing c.args.self.now.boxes.list.now c.args.self.now.boxes.are.is_tree.tree (record { through = c.args.self.now.through.now; first = c.args.self.now.first; next = c.args.k; mark = c.args.self.now.mark.0 }) before marks c.write_at.new.column.items c.args.k c.args.self.now.mark.0 c.args.self.now.positive c.requires.order within wrote was
    (search rules) refl

pub returns-then-parent-self : goal.returns-then-parent-self
returns-then-parent-self c before was =
    let marks = c.args.marks.now.items in let within : c.args.k < length c.args.self.now.boxes.list.now = (let low = c.requires.within in let high = c.args.self.now.within in omega (arith, low, high)) in let counted = c.requires.marks in
    let v = c.length_at-inherited.result in
    let wrote : Wrote length_at marks c.write_at-then-parent-self.new.column.items c.args.k v.0 =
    subst (λ (xs : List Length). Wrote length_at marks xs c.args.k v.0) (sym c.write_at-then-parent-self.ensures) (wrote_length marks c.args.k v (omega (arith, within, counted))) in
    let is = c.parent-parent.ensures.value in let high = c.if-parent-self.true in
    settled_inheriting c.args.self.now.boxes.list.now c.args.self.now.boxes.are.is_tree.tree (record { through = c.args.self.now.through.now; first = c.args.self.now.first; next = c.args.k; mark = c.args.self.now.mark.0 }) before marks c.write_at-then-parent-self.new.column.items c.args.k v.0 c.args.self.now.positive c.requires.order within wrote was
    (search rules) (omega (arith, is, high)) (rw c.deref.ensures.value at c.length_at-inherited.ensures ∙ ap (length_at marks) is)

pub returns-else-parent-self : goal.returns-else-parent-self
returns-else-parent-self c before was =
    let is = c.parent-parent.ensures.value in let low = c.if-parent-self.false in
    settled_keeping c.args.self.now.boxes.list.now (record { through = c.args.self.now.through.now; first = c.args.self.now.first; next = c.args.k; mark = c.args.self.now.mark.0 }) before c.args.marks.now.items c.args.k was (search rules) (omega (arith, is, low))
