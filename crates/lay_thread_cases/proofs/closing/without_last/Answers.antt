use Rattle.std.proofs.Common.{◌≡◌, ◌<◌, Some}
use Rattle.std.proofs.lemmas.List.Elements.{All-pop}
use Rattle.lay_board.specs.Passes.{PassOf}
use Rattle.lay_thread_cases.proofs.closing.without_last.Goals as goal

pub returns-in-Some : goal.returns-in-Some
returns-in-Some c =
    let table = All-pop (λ (p : PassOf). p.table ≡ c.args.engine.table) _ _ (Some c.in-Some.out) c.in-Some.ensures.items c.requires.of in
    let left = All-pop (λ (p : PassOf). 0 < p.knows.left) _ _ (Some c.in-Some.out) c.in-Some.ensures.items c.requires.left in
    (c.requires.closer, table.0, table.1, left.1)
