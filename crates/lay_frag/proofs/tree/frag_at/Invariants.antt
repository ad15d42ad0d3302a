use Rattle.std.proofs.Common.{◌≡◌, drop, slice_get}
use Rattle.lay_frag.specs.Pieces.{frags_of}
use Rattle.lay_frag.proofs.tree.frag_at.Given as goal

abbrev pub invariant-loop-placed : goal.invariant-loop-placed
invariant-loop-placed l = slice_get (frags_of (drop l.placed-index l.contexts)) l.left ≡ slice_get (frags_of l.contexts) l.i
