use Rattle.lay_sizes.proofs.SizesFit.{size_is_used, solved_of}
use Rattle.lay_sizes.proofs.replaced.replaced_size_of.Goals as goal

pub returns-clause-width : goal.returns-clause-width
returns-clause-width c =
    let e = c.replaced_size.ensures.width in
    rw e (size_is_used (solved_of c.replaced_of.result).width)

pub returns-clause-height : goal.returns-clause-height
returns-clause-height c =
    let e = c.replaced_size.ensures.height in
    rw e (size_is_used (solved_of c.replaced_of.result).height)
