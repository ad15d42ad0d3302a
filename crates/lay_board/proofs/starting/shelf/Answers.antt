use Rattle.std.proofs.Common.{sym, ap, ◌∙◌, subst, List, [], ◌∷◌, ◌++◌, Some, Option}
use Rattle.atomic_table.specs.Table.{opening}
use Rattle.lay_core.specs.State.{State}
use Rattle.lay_board.specs.Cores.{origin_told}
use Rattle.lay_board.specs.Rules.{IsKept, maker_view}
use Rattle.lay_board.proofs.Steps.{begins}
use Rattle.lay_board.proofs.starting.shelf.Goals as goal

pub new-requires : goal.new-requires
new-requires c =
    let t = c.args.terms.now in let o = origin_told t in
    subst (λ (xs : List (Option State)). IsKept o (opening (0 ∷ 0 ∷ []) xs (maker_view o 0 t.calls.value.items)))
    (sym (c.push_reserved.ensures.items ∙ ap (λ (xs : List (Option State)). xs ++ Some c.args.core ∷ []) c.in_ok-slots.ensures.items))
    (begins o t.calls.value.items c.args.core c.requires.origin c.requires.new c.requires.calls c.requires.few c.requires.draws)
