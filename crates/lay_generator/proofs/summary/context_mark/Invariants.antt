use Rattle.std.proofs.Common.{◌≡◌, drop}
use Rattle.lay_frag.specs.Pieces.{page_pieces}
use Rattle.lay_generator.specs.Summary.{mark_from}
use Rattle.lay_generator.proofs.summary.context_mark.Given as goal

abbrev pub invariant-loop-k : goal.invariant-loop-k
invariant-loop-k l = mark_from l.mark (drop l.k (page_pieces l.placed)) ≡ mark_from l.before (page_pieces l.placed)
