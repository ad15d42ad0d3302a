use Rattle.std.proofs.Common.{take}
use Rattle.lay_frag.specs.Pieces.{frags_of}
use Rattle.lay_hit.specs.Questions.{AreNoted}
use Rattle.lay_hit.proofs.noted.noted.Given as goal

abbrev pub invariant-loop-placed : goal.invariant-loop-placed
invariant-loop-placed l = AreNoted l.q (frags_of (take l.placed-index l.q.tree.now)) l.noted
