use Rattle.std.proofs.Common.{◌∙◌, ◌∷◌, [], ap}
use Rattle.lay_doc.specs.Changes.{changed_at}
use Rattle.lay_cascade.specs.Styled.Taken.{takes}
use Rattle.lay_cascade.proofs.StyledLemmas.Restyling.{takes_absent, same_nodes}
use Rattle.lay_cascade.proofs.styled.styling.take_winner.Goals as goal

pub returns-in-None : goal.returns-in-None
returns-in-None c =
    let nodes = c.args.doc.now.nodes in
    same_nodes c.args.doc.now (changed_at c.args.k (takes (c.args.winner ∷ [])) nodes)
    (ap (λ z. changed_at c.args.k (takes (z ∷ [])) nodes) c.in-None.is ∙ takes_absent c.args.k nodes)
