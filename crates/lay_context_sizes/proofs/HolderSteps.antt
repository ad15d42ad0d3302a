-- The box whose height percentages refer to isn't behind the one that they are in.
use Rattle.std.proofs.Common.{ℕ, zero, suc, ◌<◌, ◌≤◌, Bool, true, false, List, length, arith, if◌then◌else◌}
use Rattle.lay_box_tree.specs.declared.box_tree.BoxNode.{BoxNode}
use Rattle.lay_box_tree.specs.ContextBoxes.{AreContextBoxes}
use Rattle.lay_box_tree.specs.Containing.{container_of, is_anonymous}
use Rattle.lay_context_sizes.proofs.Cited.{container_before}
use Rattle.lay_placements.specs.ContainingBlocks.{height_holder}

holder_by : (boxes : List BoxNode) (c : ℕ) (b : Bool) → AreContextBoxes boxes → c < length boxes → (if b then container_of boxes c else c) ≤ c
holder_by boxes zero true are within = omega arith
holder_by boxes (suc c) true are within = let h = container_before boxes (suc c) are (omega arith) within in omega arith
holder_by boxes c false are within = omega arith

-- nor is the box that percentages refer to behind it
pub holder_before : (boxes : List BoxNode) (c : ℕ) → AreContextBoxes boxes → c < length boxes → height_holder boxes c ≤ c
holder_before boxes c are within = holder_by boxes c (is_anonymous boxes c) are within
