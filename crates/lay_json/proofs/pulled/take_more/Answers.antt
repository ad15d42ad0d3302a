use Rattle.std.proofs.Common.{◌≡◌, ap, ◌∙◌, subst}
use Rattle.serde_json.specs.Data.{item}
use Rattle.serde_json.specs.View.{items_view}
use Rattle.lay_json.specs.SheetNames.{items_or_none}
use Rattle.lay_json.specs.Pulled.{Adds}
use Rattle.lay_json.proofs.Asked.{on_ok}
use Rattle.lay_json.proofs.pulled.take_more.Goals as goal

pub returns-clause-value : goal.returns-clause-value
returns-clause-value c =
    let it = c.in_ok-nodes.ensures.value in
    let items : items_view c.items_in.result.now ≡ item it.0 it.1 = c.items_in.ensures ∙ ap items_or_none it.2 in
    on_ok c.add.result
    (λ adds. (item it.0 it.1, it.3, subst (λ ds. Adds c.args.named c.args.taken.now ds c.add.new.self) items adds))
    c.add.ensures
