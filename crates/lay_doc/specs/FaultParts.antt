-- The faults of an insertion below a place, in two parts: those of the parent and the id, and those of
-- the limits. The fault of the index stands between them.
use Rattle.std.specs.Prelude.{ℕ, ◌==◌, ◌||◌, not, List, length, slice_index, Option, Some, None, nat_le, is_some, if◌then◌else◌}
use Rattle.lay_units.specs.Limits.{most_depth, most_nodes}
use Rattle.lay_style.specs.Places.{place_of}
use Rattle.lay_doc.specs.declared.node.Node.{Node}
use Rattle.lay_doc.specs.declared.edit.EditFault.{EditFault}
use Rattle.lay_doc.specs.declared.edit.EditFault.TheVariants.{NotElement, IdTaken, TooManyNodes, TooDeep, TextTooLong}
use Rattle.lay_doc.specs.Document.{ids_of, depths_of, is_element_at, is_too_long}

abbrev pub parent_or_id_fault : List Node → ℕ → ℕ → Option EditFault
parent_or_id_fault nodes p id =
    if not (is_element_at nodes p) then Some NotElement
    else (if (id == 0) || is_some (place_of id (ids_of nodes)) then Some IdTaken
    else None)

abbrev pub limit_fault : List Node → ℕ → ℕ → ℕ → Option EditFault
limit_fault nodes others p bytes =
    if nat_le most_nodes (length nodes) then Some TooManyNodes
    else (if nat_le most_depth (slice_index (depths_of nodes) p) then Some TooDeep
    else (if is_too_long others bytes then Some TextTooLong
    else None))
