use Rattle.std.proofs.Common.{◌≡◌, ◌↔◌, ℕ, Some, sym, subst}
use Rattle.lay_sheet.specs.declared.selector.Joint.{Joint}
use Rattle.lay_cascade.specs.Matching.{Stands}
use Rattle.lay_cascade.proofs.Climbing.{one_before}
use Rattle.lay_cascade.proofs.matching.before.Goals as goal

pub returns-in-Child : goal.returns-in-Child
returns-in-Child c =
    subst (λ (z : Joint). (m : ℕ) → (c.parent_of.result ≡ Some m) ↔ Stands c.args.named.nodes.now z m c.args.place) (sym c.in-Child.is) c.parent_of.ensures

pub returns-in-Adjacent : goal.returns-in-Adjacent
returns-in-Adjacent c =
    subst (λ (z : Joint). (m : ℕ) → (c.adjacent_to.result ≡ Some m) ↔ Stands c.args.named.nodes.now z m c.args.place) (sym c.in-Adjacent.is)
    (λ m. one_before c.args.named.nodes.now c.args.named.adjacent.now c.args.place m c.adjacent_to.result c.requires.named.siblings c.requires.place c.adjacent_to.ensures)
