-- What the code keeps of the children of a box.
use Rattle.std.specs.Prelude.{List}
use Rattle.lay_measure.specs.Children.{Child, floats_first, greatest_after, greatest_minimum, holds_lines}
use Rattle.lay_measure.specs.declared.children.ChildTotals.{ChildTotals}

abbrev pub totals_of : List Child → ChildTotals
totals_of cs = record {
  lines = holds_lines cs;
  minimum = record { 0 = greatest_minimum cs };
  floats_first = record { 0 = floats_first cs };
  after = record { 0 = greatest_after cs };
}
