use Rattle.std.proofs.Common.{◌≡◌, ◌++◌, List, take, length, ap, subst, arith}
use Rattle.std.proofs.lemmas.List.{take_all}
use Rattle.lay_frag.specs.declared.frag.Frag.{Frag}
use Rattle.lay_frag.specs.Pieces.{page_pieces}
use Rattle.lay_hit.proofs.Cited.{length-page_pieces}
use Rattle.lay_hit.specs.Questions.{AreNoted}
use Rattle.lay_hit.proofs.NotedPieces.{missed_more, noted_more}
use Rattle.lay_hit.proofs.noted.note_context.Goals.{then-holds_at+in_ok-note, else-holds_at}
use Rattle.lay_hit.proofs.noted.note_context.Goals as goal

pub loop-k-preserved : goal.loop-k-preserved
loop-k-preserved c = elim c.if-holds_at.branch [
  | then-holds_at+in_ok-note w ↦ record {
    count = rw w.noted-is w.note.ensures.count;
    noted = λ fs before. rw w.noted-is (noted_more c.args.q.now fs (page_pieces c.args.placed.now) c.loop-k.k w.page_piece.result w.note.new.noted w.page_piece.ensures
        ((w.in_ok-note.ensures {u = tt}).noted (fs ++ take c.loop-k.k (page_pieces c.args.placed.now)) (c.loop-k.invariant.noted fs before)));
  }
  | else-holds_at w ↦ record {
    count = rw w.noted-is c.loop-k.invariant.count;
    noted = λ fs before. rw w.noted-is (missed_more c.args.q.now fs (page_pieces c.args.placed.now) c.loop-k.k c.holds_at.result c.loop-k.noted
        (omega (arith, c.loop-k-test.true, length-page_pieces c.args.placed.now, ap length c.pieces-k-end.ensures)) c.holds_at.ensures w.if-holds_at.false (c.loop-k.invariant.noted fs before));
  }
]

pub returns-clause-noted : goal.returns-clause-noted
returns-clause-noted c fs before =
    let pages = page_pieces c.args.placed.now in
    let whole : take c.loop-k.k pages ≡ pages = take_all c.loop-k.k pages (omega (arith, c.loop-k-test.false, length-page_pieces c.args.placed.now, ap length c.pieces-k-end.ensures)) in
    subst (λ (gs : List Frag). AreNoted c.args.q.now (fs ++ gs) c.loop-k.noted) whole (c.loop-k.invariant.noted fs before)
