use Rattle.std.proofs.Common.{ap, arith, length}
use Rattle.lay_board.proofs.Turns.{called, pass_after, told_as}
use Rattle.lay_board.proofs.turn.ended.Goals as goal

pub tell_core-seat-requires-clause-out : goal.tell_core-seat-requires-clause-out
tell_core-seat-requires-clause-out c =
    let o = c.requires.call in let t = o.3 in
    (o.0, o.1, o.2, t.me_is, (let l = t.left_is in let s = t.some in omega (arith, l, s)), o.4, t.before_is)

pub invariant_of-result : goal.invariant_of-result
invariant_of-result c =
    let o = c.requires.call in let t = o.3 in
    pass_after o.0 _ o.1 c.args.core o.2 _ _ _ _ (told_as o.0 o.1 c.args.core _ _ _ _ _ _ t c.tell_core-seat.ensures.pass) t.some t.meets o.4 c.history.ensures.core.legal t.editor_is t.index_is t.left_is t.few (ap length c.history.ensures.value)

pub returns-clause-call : goal.returns-clause-call
returns-clause-call c p h e t adds =
    called p _ h c.args.core e (told_as p h c.args.core _ _ _ _ _ _ t c.tell_core-seat.ensures.pass) (let l = t.left_is in let s = t.some in omega (arith, l, s)) t.meets adds c.history.ensures.core.legal
