-- For each box the row groups before it that are drawn where they stand.
use Rattle.std.specs.Prelude.{ℕ, ◌≡◌, ◌<◌, ◌≤◌, List, length, slice_index}
use Rattle.lay_box_tree.specs.declared.box_tree.BoxNode.{BoxNode}
use Rattle.lay_table_grid.specs.TableBoxes.{groups_before}

-- the counts of the boxes before the place k, and the one that comes next
pub record GroupCountsTo (boxes : List BoxNode) (k : ℕ) (counts : List ℕ) (next : ℕ) : Type 0 where
  pub as_many : length counts ≡ k
  pub each : (j : ℕ) → j < k → slice_index counts j ≡ groups_before boxes j
  pub next_is : next ≡ groups_before boxes k
  pub few : next ≤ k

pub record CountsGroups (boxes : List BoxNode) (counts : List ℕ) : Type 0 where
  pub as_many : length counts ≡ length boxes
  pub each : (k : ℕ) → k < length boxes → slice_index counts k ≡ groups_before boxes k
