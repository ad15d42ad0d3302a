use Rattle.std.proofs.Common.{◌≡◌, false, length, drop}
use Rattle.lay_doc.specs.Document.{is_text_at}
use Rattle.lay_doc.specs.Changes.{changed_at}
use Rattle.lay_cascade.specs.Styled.Taken.{takes}
use Rattle.lay_cascade.proofs.styled.styling.take_all.Given as goal

abbrev pub invariant-loop-i : goal.invariant-loop-i
invariant-loop-i l = record {
  width : l.doc.width ≡ l.fn.doc.width;
  height : l.doc.height ≡ l.fn.doc.height;
  count : length l.doc.nodes ≡ length l.fn.doc.nodes;
  no_text : is_text_at l.doc.nodes l.k ≡ false;
  goes_on : changed_at l.k (takes (drop l.i l.winners)) l.doc.nodes ≡ changed_at l.k (takes l.winners) l.fn.doc.nodes;
}
