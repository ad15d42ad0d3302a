use Rattle.std.proofs.Common.{arith, subst}
use Rattle.std.proofs.lemmas.Int.{ints}
use Rattle.lay_grid.specs.Lengths.{MayBePosition}
use Rattle.lay_grid.proofs.LeastRooms.{room_at}
use Rattle.lay_grid.proofs.needs.room_needed.Goals as goal

pub returns-in-Some-Some-clause-value : goal.returns-in-Some-Some-clause-value
returns-in-Some-Some-clause-value c =
    let e = room_at c.args.cell.now c.args.row_baseline c.in-Some-Some.own c.in-Some-Some.lowest c.in-Some-Some.is-0 c.in-Some-Some.is-1 in
    let o = subst MayBePosition c.in-Some-Some.is-0 c.requires.baseline in
    let l = subst MayBePosition c.in-Some-Some.is-1 c.requires.row_baseline in
    let o0 = o.0 in let o1 = o.1 in let l0 = l.0 in let l1 = l.1 in
    omega (arith, ints, e, o0, o1, l0, l1)

pub returns-in-Some-Some-clause-within : goal.returns-in-Some-Some-clause-within
returns-in-Some-Some-clause-within c =
    let o = subst MayBePosition c.in-Some-Some.is-0 c.requires.baseline in
    let l = subst MayBePosition c.in-Some-Some.is-1 c.requires.row_baseline in
    let o0 = o.0 in let o1 = o.1 in let l0 = l.0 in let l1 = l.1 in
    (omega (arith, ints, o0, o1, l0, l1), omega (arith, ints, o0, o1, l0, l1))
