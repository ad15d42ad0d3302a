-- The content of the lines of some block containers of a context, kept at the places of their boxes for all who ask for it.
use Rattle.std.specs.Prelude.{ℕ, ◌≡◌, Bool, true, false, List, [], Option, Some, None, IfSome, slice_index_or}
use Rattle.std.specs.Arc.{arc_value}
use Rattle.std.specs.declared.sync.Arc.{Arc}
use Rattle.lay_box_tree.specs.declared.box_tree.BoxNode.{BoxNode}
use Rattle.lay_face.specs.FaceValue.{FaceValue}
use Rattle.lay_space.specs.declared.segment.Segment.{Segment}
use Rattle.lay_line_items.specs.InlineSegments.{segments_in}

abbrev pub KeptSegments : Type 0
KeptSegments = List (Option (List Segment))

abbrev pub kept_segments_or_none : {Z : Type 0} → Option (Arc KeptSegments Z) → KeptSegments
kept_segments_or_none None = []
kept_segments_or_none (Some kept) = arc_value kept

-- what is kept of the box at k
abbrev pub kept_at : KeptSegments → ℕ → Option (List Segment)
kept_at kept k = slice_index_or kept k None

-- all that is kept is of these boxes, in this face
abbrev pub AreContents : FaceValue → List BoxNode → KeptSegments → Type 0
AreContents face boxes kept = (k : ℕ) → IfSome (kept_at kept k) (λ ss. ss ≡ segments_in face boxes k)

abbrev pub kept_where : Bool → List Segment → Option (List Segment)
kept_where true ss = Some ss
kept_where false ss = None

-- what is kept is the content of the boxes of these that are marked, and of no other
abbrev pub AreMarkedContents : FaceValue → List BoxNode → List Bool → KeptSegments → Type 0
AreMarkedContents face boxes marked kept =
    (k : ℕ) → kept_at kept k ≡ kept_where (slice_index_or marked k false) (segments_in face boxes k)
