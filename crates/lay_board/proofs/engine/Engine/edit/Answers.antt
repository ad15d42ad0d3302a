use Rattle.lay_history.specs.declared.edits.history.Entry.TheVariants.{Edit}
use Rattle.lay_board.proofs.Additions.{edit_adds}
use Rattle.lay_board.proofs.Turns.{calls_are_left, turned}
use Rattle.lay_board.proofs.engine.Engine.edit.Goals as goal

pub edit-reply-requires : goal.edit-reply-requires
edit-reply-requires g c = record { calls = calls_are_left _ _ _ _ _ _ _ c.begun-core.ensures.turn }

pub ended-pass-requires-clause-call : goal.ended-pass-requires-clause-call
ended-pass-requires-clause-call g c =
    let t = c.begun-core.ensures.turn in let a = c.edit-reply.ensures in
    (c.args.pass.knows, _, _, t, turned (λ editor index. Edit editor index c.args.edits c.edit-reply.result) _ _ _ _ _ _ _ _ t (edit_adds _ _ _ _ c.args.edits _ (calls_are_left _ _ _ _ _ _ _ t) a.draws a.edits))

pub returns-clause-call : goal.returns-clause-call
returns-clause-call g c =
    let t = c.begun-core.ensures.turn in let a = c.edit-reply.ensures in
    c.ended-pass.ensures.call _ _ _ t (turned (λ editor index. Edit editor index c.args.edits c.edit-reply.result) _ _ _ _ _ _ _ _ t (edit_adds _ _ _ _ c.args.edits _ (calls_are_left _ _ _ _ _ _ _ t) a.draws a.edits))
