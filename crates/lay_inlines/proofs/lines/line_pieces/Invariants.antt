use Rattle.std.proofs.Common.{◌≡◌, ◌≤◌, ◌^◌, ◌++◌, [], drop}
use Rattle.lay_units.specs.Units.{IsUsed}
use Rattle.lay_lines.specs.Content.LineContents.{boxes_of, spread_of}
use Rattle.lay_inlines.specs.LinePieces.{pieces_of, pieces_from}
use Rattle.lay_inlines.proofs.lines.line_pieces.Given as goal

abbrev pub invariant-loop-k : goal.invariant-loop-k
invariant-loop-k l = record {
  pieces : l.pieces.items ++ pieces_from l.lines.container l.lines.areas.now l.frame l.open_boxes.items l.rest (drop l.k l.lines.rows.now)
      ≡ pieces_of l.lines.container l.lines.content.now l.lines.rows.now l.lines.areas.now;
  left : l.frame.left ≡ l.lines.container.left;
  tab : l.frame.tab ≡ l.lines.content.now.tab;
  indent : IsUsed l.frame.indent.0;
  spread : spread_of l.lines.content.now.tab.0 l.rest ≤ 2 ^ 58;
  none : boxes_of l.lines.content.now.stretches ≡ 0 → l.open_boxes.items ≡ [];
  no_boxes : boxes_of l.lines.content.now.stretches ≡ 0 → boxes_of l.rest ≡ 0;
}
