use Rattle.std.proofs.Common.{◌≡◌, ◌∙◌, ◌<◌, false, sym, subst, arith}
use Rattle.std.specs.Prelude.{slice_index_or}
use Rattle.lay_sheet.specs.declared.selector.Joint.TheVariants.{Descendant}
use Rattle.lay_cascade.specs.Columns.{IsReached}
use Rattle.lay_cascade.proofs.Adjacent.{parent_before}
use Rattle.lay_cascade.proofs.Columns.{says_true, says_false, says_of, reached_root, reached_parent, reached_above}
use Rattle.lay_cascade.proofs.forward.is_inside.Goals as goal

pub returns-then-k-eq0 : goal.returns-then-k-eq0
returns-then-k-eq0 c =
    let nodes = c.args.nodes.now in
    let ends = c.args.ends.now in
    says_false (IsReached nodes ends Descendant c.args.k) (reached_root nodes ends c.args.k (omega (arith, c.if-k-eq0.true)))

pub returns-then-is_set : goal.returns-then-is_set
returns-then-is_set c =
    let nodes = c.args.nodes.now in
    let ends = c.args.ends.now in
    let some : 0 < c.args.k = omega (arith, c.if-k-eq0.false) in
    says_true (IsReached nodes ends Descendant c.args.k)
    (reached_parent nodes ends c.args.k c.parent_at-parent.result some c.parent_at-parent.ensures (sym c.is_set.ensures ∙ c.if-is_set.true))

pub returns : goal.returns
returns c =
    let nodes = c.args.nodes.now in
    let ends = c.args.ends.now in
    let k = c.args.k in
    let p = c.parent_at-parent.result in
    let some : 0 < k = omega (arith, c.if-k-eq0.false) in
    let below : p < k = subst (λ z. z < k) (sym c.parent_at-parent.ensures) (parent_before nodes k c.requires.tree c.requires.place some) in
    let none : slice_index_or ends p false ≡ false = sym c.is_set.ensures ∙ c.if-is_set.false in
    says_of c.is_set-2.result (slice_index_or c.args.inside.now p false) (IsReached nodes ends Descendant k) c.is_set-2.ensures
    (reached_above nodes ends (slice_index_or c.args.inside.now p false) k p some c.parent_at-parent.ensures none (c.requires.so_far.each p below))
