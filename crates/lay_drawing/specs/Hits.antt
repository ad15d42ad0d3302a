-- The picture of one tree with a piece that is asked for by its name, as the program `lay` names what is seen at a point.
use Rattle.std.specs.Prelude.{◌&&◌, ◌==◌, Bool, List, map, if◌then◌else◌}
use Rattle.lay_frag.specs.declared.frag.Frag.{Frag}
use Rattle.lay_drawing.specs.declared.hit.PieceName.{PieceName}
use Rattle.lay_drawing.specs.declared.mark.Mark.{Mark}
use Rattle.lay_drawing.specs.declared.mark.Mark.TheVariants.{Plain, Hit}
use Rattle.lay_drawing.specs.declared.mark.Marked.{Marked}
use Rattle.lay_drawing.specs.Changes.{is_same_kind}
use Rattle.lay_drawing.specs.Marks.{marked}

abbrev pub is_called : PieceName → Frag → Bool
is_called n f = is_same_kind n.kind f.kind && f.node.0 == n.node && f.part == n.part

abbrev pub hit_mark : PieceName → Frag → Mark
hit_mark n f = if is_called n f then Hit else Plain

-- the pieces of the tree, of which those of this name are marked
abbrev pub hit_pieces : PieceName → List Frag → List Marked
hit_pieces n pieces = map (λ f. marked (hit_mark n f) f) pieces
