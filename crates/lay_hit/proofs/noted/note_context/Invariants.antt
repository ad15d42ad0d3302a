use Rattle.std.proofs.Common.{◌≡◌, List, ◌++◌, length, take}
use Rattle.lay_frag.specs.declared.frag.Frag.{Frag}
use Rattle.lay_frag.specs.Pieces.{page_pieces}
use Rattle.lay_hit.specs.Questions.{AreNoted}
use Rattle.lay_hit.proofs.noted.note_context.Given as goal

abbrev pub invariant-loop-k : goal.invariant-loop-k
invariant-loop-k l = record {
  count : length l.noted ≡ length l.q.doc.now.nodes;
  noted : (fs : List Frag) → AreNoted l.q fs l.fn.noted → AreNoted l.q (fs ++ take l.k (page_pieces l.placed)) l.noted;
}
