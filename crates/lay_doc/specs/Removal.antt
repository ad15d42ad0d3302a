-- The removal of a node with its descendants: its first fault, and the document after it.
use Rattle.std.specs.Prelude.{ℕ, ◌-◌, ◌==◌, List, map, Option, Some, None, nat_lt, if◌then◌else◌}
use Rattle.std.specs.List.{remove_range}
use Rattle.lay_style.specs.Places.{place_of}
use Rattle.lay_doc.specs.declared.node.Node.{Node}
use Rattle.lay_doc.specs.declared.edit.EditFault.{EditFault}
use Rattle.lay_doc.specs.declared.edit.EditFault.TheVariants.{NoNode, RootFixed}
use Rattle.lay_doc.specs.Tree.{end_of}
use Rattle.lay_doc.specs.Document.{Document, parents_of, ids_of}

-- the first fault of removing the node with this id: the root, which stands at place 0, stays
abbrev pub remove_fault : Document → ℕ → Option EditFault
remove_fault d id = fault_or (place_of id (ids_of d.nodes))
  where
    fault_or : Option ℕ → Option EditFault
    fault_or None = Some NoNode
    fault_or (Some p) = if p == 0 then Some RootFixed else None

-- a place, after the places from p up to `end` were taken out
abbrev pub closed_up : ℕ → ℕ → ℕ → ℕ
closed_up p end k = if nat_lt k p then k else (k - (end - p))

-- a node whose parent's place is moved by that
abbrev pub moved_back : ℕ → ℕ → Node → Node
moved_back p end n = record n { parent = closed_up p end n.parent }

-- the nodes without those from the place p up to `end`
abbrev pub removed_between : List Node → ℕ → ℕ → List Node
removed_between nodes p end = map (moved_back p end) (remove_range nodes p end)

-- the nodes without the one at the place p and its descendants, which stand from p up to its end
abbrev pub removed : List Node → ℕ → List Node
removed nodes p = removed_between nodes p (end_of (parents_of nodes) p)

abbrev pub after_remove : Document → ℕ → Document
after_remove d id = removed_or (place_of id (ids_of d.nodes))
  where
    removed_or : Option ℕ → Document
    removed_or None = d
    removed_or (Some p) = record d { nodes = removed d.nodes p }
