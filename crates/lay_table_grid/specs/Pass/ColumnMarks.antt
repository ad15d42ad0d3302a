-- For each box whether columns are in it, which is asked of column groups.
use Rattle.std.specs.Prelude.{ℕ, ◌≡◌, ◌≢◌, ◌==◌, ◌<◌, ◌||◌, ◌&&◌, ◌++◌, Bool, true, false, List, length, drop, slice_index_or}
use Rattle.std.specs.List.{list_any}
use Rattle.lay_box_tree.specs.declared.box_tree.BoxNode.{BoxNode}
use Rattle.lay_table_grid.specs.TableBoxes.{column_boxes_of, columns_from, has_columns, is_column_kind}

abbrev pub mark_at : List Bool → ℕ → Bool
mark_at marks k = slice_index_or marks k false

-- some of these are columns in the box at p
abbrev pub any_column_in : ℕ → List BoxNode → Bool
any_column_in p boxes = list_any (λ b. is_column_kind b.kind && (b.parent == p)) boxes

-- these are the marks but for columns that stand at k or behind
pub record ColumnMarksTo (boxes : List BoxNode) (k : ℕ) (marks : List Bool) : Type 0 where
  pub as_many : length marks ≡ length boxes
  pub each : (p : ℕ) → p < length boxes → mark_at marks p || any_column_in p (drop k boxes) ≡ has_columns boxes p

pub record AreColumnMarks (boxes : List BoxNode) (marks : List Bool) : Type 0 where
  pub as_many : length marks ≡ length boxes
  pub each : (p : ℕ) → p < length boxes → mark_at marks p ≡ has_columns boxes p

-- one of the marks is set, if there is that
pub record MarksColumn (at : ℕ) (before after : List Bool) : Type 0 where
  pub here : at < length before → mark_at after at ≡ true
  pub others : (k : ℕ) → k ≢ at → mark_at after k ≡ mark_at before k
  pub as_many : length after ≡ length before

-- these are the boxes of the columns but for those that stand at k or behind
abbrev pub AreColumnsTo : List BoxNode → ℕ → List ℕ → Type 0
AreColumnsTo boxes k columns = columns ++ columns_from boxes k (drop k boxes) ≡ column_boxes_of boxes
