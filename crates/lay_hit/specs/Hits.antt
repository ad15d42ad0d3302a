-- The piece that is seen at a point: the last that is painted of those that hold it. A piece holds the points from its left
-- edge up to its right one, which no longer counts, and likewise from top to bottom.
use Rattle.std.specs.Prelude.{ℤ, ◌+ℤ◌, int_le, int_lt, Bool, ◌&&◌, List, filter, Option, None}
use Rattle.std.specs.List.{last_or}
use Rattle.lay_units.specs.declared.records.Rect.{Rect}
use Rattle.lay_style.specs.declared.style.Style.{Style}
use Rattle.lay_doc.specs.Document.{Document}
use Rattle.lay_frag.specs.declared.frag.Frag.{Frag}
use Rattle.lay_frag.specs.Pieces.{Context, frags_of}
use Rattle.lay_hit.specs.Pages.{page_of}
use Rattle.lay_hit.specs.Painting.{painting}

-- v lies from an edge up to the one that is so far behind it
abbrev pub is_from : ℤ → ℤ → ℤ → Bool
is_from edge length v = int_le edge v && int_lt v (edge +ℤ length)

abbrev pub is_in_rect : ℤ → ℤ → Rect → Bool
is_in_rect x y r = is_from r.x.0 r.w.0 x && is_from r.y.0 r.h.0 y

abbrev pub holds : ℤ → ℤ → Frag → Bool
holds x y f = is_in_rect x y f.rect

-- the last of these that holds the point
abbrev pub last_holding : ℤ → ℤ → List Frag → Option Frag
last_holding x y fs = last_or None (filter (holds x y) fs)

-- the boxes and texts of a tree from back to front
abbrev pub painted : Document → List Style → List Context → List Frag
painted d styles tree = painting (page_of d.nodes styles (frags_of tree))

unfoldable pub hit_of : Document → List Style → List Context → ℤ → ℤ → Option Frag
hit_of d styles tree x y = last_holding x y (painted d styles tree)
