use Rattle.std.proofs.Common.{◌≡◌, ◌≤◌, drop}
use Rattle.lay_sheet.specs.Pieces.{behind_block}
use Rattle.lay_sheet.proofs.pieces.behind_block.Given as goal

abbrev pub invariant-loop-i : goal.invariant-loop-i
invariant-loop-i l = record {
  few : l.depth ≤ l.i;
  rest : behind_block 0 l.text ≡ behind_block l.depth (drop l.i l.text);
}
