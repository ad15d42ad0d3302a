use Rattle.lay_abspos.proofs.absolute.cases.Goals as goal

pub returns-in-Of-Auto-Of-clause-cases : goal.returns-in-Of-Auto-Of-clause-cases
returns-in-Of-Auto-Of-clause-cases c =
    let e = c.width_follows.ensures in
    rw (c.in-Of-Auto-Of.is-0, c.in-Of-Auto-Of.is-1, c.in-Of-Auto-Of.is-2) (e.margins, e.left, e.room, e.no_room)
