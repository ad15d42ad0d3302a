use Rattle.std.proofs.Common.{◌++◌, ◌∙◌, List, ap}
use Rattle.std.proofs.lemmas.List.Elements.{All-same}
use Rattle.lay_pool.specs.Hands.{ComesOf}
use Rattle.lay_pool.proofs.hand.Hand.work.Goals as goal

pub returns : goal.returns
returns g c =
    let none = c.new.ensures ∙ c.in_ok-room.ensures.items in
    All-same ComesOf _ _ (c.work_on.ensures.stay ∙ ap (λ (xs : List _). xs ++ c.work_on.ensures.more) none) c.work_on.ensures.come
