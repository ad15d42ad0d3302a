use Rattle.lay_abspos.proofs.RelativeLemmas.MoveSteps.{carrier_before}
use Rattle.lay_abspos.proofs.relative.moves.carrier.Goals as goal

pub returns-clause-before : goal.returns-clause-before
returns-clause-before c =
    rw c.former_or_parent.ensures (carrier_before c.args.boxes.now c.args.formers.now c.args.k c.as_slice.ensures.are c.requires.formers c.requires.behind c.requires.place)
