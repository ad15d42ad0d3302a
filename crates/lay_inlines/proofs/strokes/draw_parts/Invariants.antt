use Rattle.std.proofs.Common.{◌≡◌, ◌++◌, drop}
use Rattle.lay_lines.specs.Content.Pens.{over_all}
use Rattle.lay_inlines.specs.Bounds.{PensWithin}
use Rattle.lay_inlines.specs.Looks.{LookAs}
use Rattle.lay_inlines.specs.Raises.{raises_after_all}
use Rattle.lay_inlines.specs.Strokes.{strokes}
use Rattle.lay_inlines.proofs.strokes.draw_parts.Given as goal

abbrev pub invariant-loop-k : goal.invariant-loop-k
invariant-loop-k l = record {
  strokes : LookAs (l.out ++ strokes l.frame l.before l.raises (drop l.k l.parts)) (l.initial.out ++ strokes l.frame l.initial.before l.initial.raises l.parts);
  raises : raises_after_all l.raises (drop l.k l.parts) ≡ raises_after_all l.initial.raises l.parts;
  pen : over_all l.frame l.before (drop l.k l.parts) ≡ over_all l.frame l.initial.before l.parts;
  fits : PensWithin l.frame l.before (drop l.k l.parts);
}
