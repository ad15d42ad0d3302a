use Rattle.std.proofs.Common.{◌≡◌, drop}
use Rattle.lay_frag.specs.Pieces.{frags_of}
use Rattle.lay_generator.specs.Summary.{mark_from}
use Rattle.lay_generator.proofs.summary.tree_mark.Given as goal

abbrev pub invariant-loop-placed : goal.invariant-loop-placed
invariant-loop-placed l = mark_from l.mark (frags_of (drop l.placed-index l.contexts)) ≡ mark_from 0 (frags_of l.contexts)
