use Rattle.std.proofs.Common.{◌≡◌, ◌+◌, ◌++◌, ◌∷◌, [], length, sym, subst, arith, rules}
use Rattle.std.proofs.lemmas.Grind.{common_steps}
use Rattle.lay_sheet.specs.declared.selector.Joint.TheVariants.{Descendant}
use Rattle.lay_cascade.specs.Columns.{IsColumn, IsReached}
use Rattle.lay_cascade.proofs.Columns.{column_none, column_more}
use Rattle.lay_cascade.proofs.forward.inside_of.Goals as goal

pub loop-k-init : goal.loop-k-init
loop-k-init c = subst (IsColumn 0 (IsReached c.args.nodes.now c.args.ends.now Descendant)) (sym c.new-inside.ensures.items) (column_none (IsReached c.args.nodes.now c.args.ends.now Descendant))

pub is_inside-told-requires-clause-so_far : goal.is_inside-told-requires-clause-so_far
is_inside-told-requires-clause-so_far c =
    subst (IsColumn c.loop-k.k (IsReached c.args.nodes.now c.args.ends.now Descendant)) (sym c.as_slice.ensures.value) c.loop-k.invariant

pub loop-k-preserved : goal.loop-k-preserved
loop-k-preserved c =
    let pushed : c.push.new.self.items ≡ c.loop-k.inside.items ++ c.is_inside-told.result ∷ [] = first_of (search rules, grind (arith, common_steps)) in
    subst (IsColumn (c.loop-k.k + 1) (IsReached c.args.nodes.now c.args.ends.now Descendant)) (sym pushed)
    (column_more (IsReached c.args.nodes.now c.args.ends.now Descendant) c.loop-k.k c.loop-k.inside.items c.is_inside-told.result c.loop-k.invariant c.is_inside-told.ensures)

pub returns : goal.returns
returns c =
    let all : c.loop-k.k ≡ length c.args.nodes.now = first_of (omega (arith, c.loop-k-test.false, c.loop-k.auto.k-end), search rules, grind (arith, common_steps)) in
    subst (λ z. IsColumn z (IsReached c.args.nodes.now c.args.ends.now Descendant) c.loop-k.inside.items) all c.loop-k.invariant
