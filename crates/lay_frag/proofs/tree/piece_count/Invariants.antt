use Rattle.std.proofs.Common.{◌≡◌, ◌+◌, length, drop}
use Rattle.lay_frag.specs.Pieces.{frags_of}
use Rattle.lay_frag.proofs.tree.piece_count.Given as goal

abbrev pub invariant-loop-placed : goal.invariant-loop-placed
invariant-loop-placed l = l.count + length (frags_of (drop l.placed-index l.contexts)) ≡ length (frags_of l.contexts)
