use Rattle.std.proofs.Common.{◌≡◌, ◌++◌, ◌+◌, ◌≤◌, List, true, false, length, if◌then◌else◌}
use Rattle.lay_sheet.specs.declared.declaration.SheetDecl.{SheetDecl}
use Rattle.lay_sheet.specs.Pieces.{block_to, behind_block}
use Rattle.lay_sheet.specs.Declarations.{AreDeclarations}
use Rattle.lay_sheet.proofs.declaration.declarations_of.Given as goal

abbrev pub invariant-loop-open : goal.invariant-loop-open
invariant-loop-open l = record {
  going : l.open ≡ true → (decls : List SheetDecl) → AreDeclarations (block_to 0 l.rest) decls → AreDeclarations (block_to 0 l.text) (l.decls.items ++ decls);
  going_rest : l.open ≡ true → behind_block 0 l.text ≡ behind_block 0 l.rest;
  done : l.open ≡ false → AreDeclarations (block_to 0 l.text) l.decls.items;
  shorter : length l.rest ≤ length l.text;
  done_rest : l.open ≡ false → l.rest ≡ behind_block 0 l.text;
}

abbrev pub decreases-loop-open : goal.decreases-loop-open
decreases-loop-open l = length l.rest + (if l.open then 1 else 0)
