use Rattle.std.proofs.Common.{◌≡◌, ◌++◌, drop}
use Rattle.lay_lines.specs.Content.Pens.{over_all}
use Rattle.lay_inlines.specs.Bounds.{PensWithin}
use Rattle.lay_inlines.specs.Looks.{LookAs}
use Rattle.lay_inlines.specs.Raises.{raises_after_all}
use Rattle.lay_inlines.specs.Strokes.{strokes, parts_of}
use Rattle.lay_inlines.proofs.strokes.draw.Given as goal

abbrev pub invariant-loop-k : goal.invariant-loop-k
invariant-loop-k l = record {
  strokes : LookAs (l.out ++ strokes l.frame l.pen l.raises (parts_of (drop l.k l.stretches)))
      (l.initial.out ++ strokes l.frame l.initial.pen l.initial.raises (parts_of l.stretches));
  raises : raises_after_all l.raises (parts_of (drop l.k l.stretches)) ≡ raises_after_all l.initial.raises (parts_of l.stretches);
  pen : over_all l.frame l.pen (parts_of (drop l.k l.stretches)) ≡ over_all l.frame l.initial.pen (parts_of l.stretches);
  fits : PensWithin l.frame l.pen (parts_of (drop l.k l.stretches));
}
