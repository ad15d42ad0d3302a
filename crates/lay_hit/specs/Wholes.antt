-- Painting as one walk: of each node its own pieces, and then what it paints, by rank and in document order. A node that is
-- not painted as a whole paints no other. That this is the order of painting is a law (`PaintingIsWalk` of `Laws.antt`).
use Rattle.std.specs.Prelude.{ℕ, zero, suc, Bool, ◌==◌, List, [], ◌++◌, filter, flat_map, if◌then◌else◌}
use Rattle.lay_frag.specs.declared.frag.Frag.{Frag}
use Rattle.lay_hit.specs.PaintKinds.{is_inline_paint}
use Rattle.lay_hit.specs.Sorting.{in_order}
use Rattle.lay_hit.specs.Pages.{Page}
use Rattle.lay_hit.specs.Painting.{others}
use Rattle.lay_hit.specs.Ranks.{is_under, painter_at, paint_rank_at}

-- the pieces that are painted of a node itself
abbrev pub own_pieces : Page → ℕ → List Frag
own_pieces p k = if is_inline_paint (p.kind k) then p.boxes_and_texts k else p.boxes k

abbrev pub is_painted_under : Page → ℕ → ℕ → Bool
is_painted_under p j k = is_under (paint_rank_at p j) (paint_rank_at p k)

-- the nodes that g paints, from back to front
abbrev pub painted_by : Page → ℕ → List ℕ
painted_by p g = in_order (is_painted_under p) (filter (λ k. painter_at p k == g) (others p))

abbrev pub whole : Page → (turns : ℕ) → ℕ → List Frag
whole p zero g = []
whole p (suc turns) g = own_pieces p g ++ flat_map (whole p turns) (painted_by p g)
