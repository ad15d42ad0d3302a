use Rattle.lay_history.specs.declared.edits.history.Entry.TheVariants.{Latest}
use Rattle.lay_board.proofs.Additions.{latest_adds}
use Rattle.lay_board.proofs.Turns.{calls_are_left, turned}
use Rattle.lay_board.proofs.engine.Engine.latest.Goals as goal

pub latest-reply-requires : goal.latest-reply-requires
latest-reply-requires g c = record { calls = calls_are_left _ _ _ _ _ _ _ c.begun-core.ensures.turn }

pub ended-pass-requires-clause-call : goal.ended-pass-requires-clause-call
ended-pass-requires-clause-call g c =
    let t = c.begun-core.ensures.turn in let a = c.latest-reply.ensures in
    (c.args.pass.knows, _, _, t, turned (λ editor index. Latest editor index c.latest-reply.result) _ _ _ _ _ _ _ _ t (latest_adds _ _ _ _ _ (calls_are_left _ _ _ _ _ _ _ t) a.draws a.shows))

pub returns-clause-call : goal.returns-clause-call
returns-clause-call g c =
    let t = c.begun-core.ensures.turn in let a = c.latest-reply.ensures in
    c.ended-pass.ensures.call _ _ _ t (turned (λ editor index. Latest editor index c.latest-reply.result) _ _ _ _ _ _ _ _ t (latest_adds _ _ _ _ _ (calls_are_left _ _ _ _ _ _ _ t) a.draws a.shows))
