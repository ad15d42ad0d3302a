use Rattle.std.proofs.Common.{◌≡◌, ◌∙◌, ◌++◌, ◌∷◌, [], sym, ap, subst}
use Rattle.std.proofs.lemmas.Result.{IfOk-weaker}
use Rattle.lay_run.specs.Runs.{IsListed}
use Rattle.lay_generator.specs.Nodes.{id}
use Rattle.lay_generator.proofs.Steps.{listed_put}
use Rattle.lay_generator.proofs.generated.put.Goals as goal

pub returns-clause-listed : goal.returns-clause-listed
returns-clause-listed c =
    let listed = c.args.listed.now in
    IfOk-weaker c.push.result _ _ (λ x pushed. λ is.
    let ids : c.push.new.self ≡ listed ++ c.args.node.id ∷ [] = pushed ∙ ap (λ i. listed ++ i ∷ []) c.id-id.ensures in
    subst (IsListed c.push_last.new.self) (sym ids) (subst (λ d. IsListed d (listed ++ c.args.node.id ∷ [])) (sym c.in_ok-push_last.ensures.ok) (listed_put c.args.doc.now (id c.args.parent) c.args.node listed c.requires is))) c.push.ensures.ok
