use Rattle.std.proofs.Common.{length}
use Rattle.std.proofs.lemmas.List.Elements.{All-push}
use Rattle.lay_table.specs.NeedBounds.{NeedFits}
use Rattle.lay_table.proofs.row_needs.push_needs.Goals as goal

pub returns-in_ok-push-2-clause-fit : goal.returns-in_ok-push-2-clause-fit
returns-in_ok-push-2-clause-fit c =
    let one = All-push (NeedFits (length c.args.input.now.table.grid.rows)) c.args.needs.now.items c.content_need.result c.requires.fit c.content_need.ensures.fits in
    let pushed = (c.in_ok-push.ensures {u = tt}).items in
    let after = (c.in_ok-push-2.ensures {u = tt}).items in
    rw (after, pushed) (All-push (NeedFits (length c.args.input.now.table.grid.rows)) _ c.height_need.result one c.height_need.ensures.fits)

pub returns-in_default-clause-fit : goal.returns-in_default-clause-fit
returns-in_default-clause-fit c =
    let pushed = (c.in_ok-push.ensures {u = tt}).items in
    rw pushed (All-push (NeedFits (length c.args.input.now.table.grid.rows)) c.args.needs.now.items c.content_need.result c.requires.fit c.content_need.ensures.fits)
