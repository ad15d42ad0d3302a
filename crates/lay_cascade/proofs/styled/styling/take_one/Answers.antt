use Rattle.std.proofs.Common.{◌≡◌, ◌∙◌, true, false, ap, arith, rules}
use Rattle.std.specs.Prelude.{◌||◌, not}
use Rattle.std.proofs.lemmas.Grind.{common_steps}
use Rattle.lay_doc.specs.Changes.{changed_at}
use Rattle.lay_cascade.specs.Styled.Taken.{declares_at, takes_one}
use Rattle.lay_cascade.proofs.StyledLemmas.Restyling.{takes_set, takes_none, same_nodes}
use Rattle.lay_cascade.proofs.styled.styling.take_one.Goals as goal

pub returns-then-not-yields : goal.returns-then-not-yields
returns-then-not-yields c =
    let nodes = c.args.doc.now.nodes in
    let test : (c.args.next.weight.important || not (declares_at nodes c.args.k c.args.next.decl.property)) ≡ false = first_of (search rules, grind (arith, common_steps)) in
    same_nodes c.args.doc.now (changed_at c.args.k (takes_one c.args.next) nodes) (takes_none c.args.next nodes c.args.k c.requires.place test)

pub returns : goal.returns
returns c =
    let nodes = c.args.doc.now.nodes in
    let test : (c.args.next.weight.important || not (declares_at nodes c.args.k c.args.next.decl.property)) ≡ true = first_of (search rules, grind (arith, common_steps)) in
    c.in_ok-set_at.ensures {u = tt} ∙ ap (λ z. record c.args.doc.now { nodes = z }) (takes_set c.args.next nodes c.args.k c.requires.place test)
