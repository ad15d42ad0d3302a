use Rattle.std.proofs.Common.{◌≡◌, ◌++◌, ◌≤◌, take, drop}
use Rattle.lay_sheet.specs.Pieces.{block_to, behind_block, part_to, behind_part}
use Rattle.lay_sheet.proofs.pieces.split_nested.Given as goal

abbrev pub invariant-loop-i : goal.invariant-loop-i
invariant-loop-i l = record {
  few : l.depth ≤ l.i;
  part : part_to 0 (block_to 0 l.text) ≡ take l.i l.text ++ part_to l.depth (block_to l.depth (drop l.i l.text));
  left : behind_part 0 (block_to 0 l.text) ≡ behind_part l.depth (block_to l.depth (drop l.i l.text));
  rest : behind_block 0 l.text ≡ behind_block l.depth (drop l.i l.text);
}
