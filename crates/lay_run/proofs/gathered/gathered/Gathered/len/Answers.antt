use Rattle.std.proofs.Common.{◌∙◌, arith, ap, length}
use Rattle.lay_doc.specs.Document.{Document}
use Rattle.lay_run.proofs.gathered.gathered.Gathered.len.Goals as goal

pub returns-clause-value : goal.returns-clause-value
returns-clause-value c = c.len.ensures ∙ c.self.invariant.stands.item_count ∙ ap (λ (d : Document). length d.nodes) c.self.view_is

pub returns-clause-few : goal.returns-clause-few
returns-clause-few c =
    let count = c.len.ensures in
    let items = c.self.invariant.stands.item_count in
    let few = c.self.invariant.stands.document.few in
    omega (arith, count, items, few)
