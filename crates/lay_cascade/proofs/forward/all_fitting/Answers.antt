use Rattle.std.proofs.Common.{◌≡◌, ◌+◌, ◌++◌, ◌∷◌, [], ℕ, true, length, sym, subst, arith, rules}
use Rattle.std.proofs.lemmas.Grind.{common_steps}
use Rattle.lay_cascade.specs.NodeNames.{fits_at}
use Rattle.lay_cascade.specs.Columns.{IsColumn}
use Rattle.lay_cascade.proofs.Columns.{column_none, column_more, says_itself, fitting_node}
use Rattle.lay_cascade.proofs.forward.all_fitting.Goals as goal

pub loop-k-init : goal.loop-k-init
loop-k-init c =
    let holds = fitting_node c.args.named.names.now c.args.simple.now in
    subst (IsColumn 0 holds) (sym c.new-fitting.ensures.items) (column_none holds)

pub loop-k-preserved : goal.loop-k-preserved
loop-k-preserved c =
    let holds = fitting_node c.args.named.names.now c.args.simple.now in
    let pushed : c.push.new.self.items ≡ c.loop-k.fitting.items ++ c.fits_at.result ∷ [] = first_of (search rules, grind (arith, common_steps)) in
    subst (IsColumn (c.loop-k.k + 1) holds) (sym pushed)
    (column_more holds c.loop-k.k c.loop-k.fitting.items c.fits_at.result c.loop-k.invariant (says_itself c.fits_at.result (fits_at c.args.named.names.now c.loop-k.k c.args.simple.now) c.fits_at.ensures))

pub returns : goal.returns
returns c =
    let holds = fitting_node c.args.named.names.now c.args.simple.now in
    let all : c.loop-k.k ≡ length c.args.named.nodes.now = first_of (omega (arith, c.loop-k-test.false, c.loop-k.auto.k-end), search rules, grind (arith, common_steps)) in
    subst (λ z. IsColumn z holds c.loop-k.fitting.items) all c.loop-k.invariant
