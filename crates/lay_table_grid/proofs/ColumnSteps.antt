-- The boxes of columns.
use Rattle.std.proofs.Common.{◌≡◌, ℕ, ◌≤◌, ◌||◌, Bool, List, [], length, drop, sym, ap, ◌∙◌}
use Rattle.std.proofs.Math.ListN.{drop_of_length-le}
use Rattle.std.proofs.Math.Bool.{or-false}
use Rattle.lay_box_tree.specs.declared.box_tree.BoxNode.{BoxNode}
use Rattle.lay_table_grid.specs.Pass.ColumnMarks.{AreColumnMarks, ColumnMarksTo, any_column_in, mark_at}

-- behind the last box no column stands
pub marks_done : (boxes : List BoxNode) (n : ℕ) (marks : List Bool) → length boxes ≤ n → ColumnMarksTo boxes n marks → AreColumnMarks boxes marks
marks_done boxes n marks all to = record {
  as_many = to.as_many;
  each = λ p less.
      let none : drop n boxes ≡ [] = drop_of_length-le boxes all in
      let rest = ap (λ (xs : List BoxNode). mark_at marks p || any_column_in p xs) none in
      sym (or-false (mark_at marks p)) ∙ sym rest ∙ to.each p less;
}
