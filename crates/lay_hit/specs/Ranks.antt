-- The node that paints a node, and where among its nodes: the step of painting, and in it the level. Nodes of equal rank are
-- painted in document order.
use Rattle.std.specs.Prelude.{ℕ, ℤ, pos, int_lt, int_le, Bool, ◌&&◌, ◌||◌, ◌==◌, nat_lt, if◌then◌else◌}
use Rattle.lay_hit.specs.declared.kinds.PaintKind.{PaintKind}
use Rattle.lay_hit.specs.declared.kinds.PaintKind.TheVariants.{Stacking, Layered, Float, Atomic, Block, Inline}
use Rattle.lay_hit.specs.declared.rank.Rank.{Rank}
use Rattle.lay_hit.specs.PaintKinds.{is_stacking, is_layered}
use Rattle.lay_hit.specs.Pages.{Page}
use Rattle.lay_hit.specs.Painting.{group, owner}

-- the step in which a node of this kind and level is painted
abbrev pub step_of : PaintKind → ℤ → ℕ
step_of Stacking level = if int_lt level (pos 0) then 2 else (if int_lt (pos 0) level then 7 else 6)
step_of Layered level = 6
step_of Float level = 4
step_of Atomic level = 5
step_of Block level = 3
step_of Inline level = 5

abbrev pub paint_rank_at : Page → ℕ → Rank
paint_rank_at p k = record { step = step_of (p.kind k) (p.level k); level = p.level k }

-- a is painted no later than b
abbrev pub is_under : Rank → Rank → Bool
is_under a b = nat_lt a.step b.step || ((a.step == b.step) && int_le a.level b.level)

abbrev pub is_of_owner : PaintKind → Bool
is_of_owner k = is_stacking k || is_layered k

-- the node that paints the one at k
abbrev pub painter_at : Page → ℕ → ℕ
painter_at p k = if is_of_owner (p.kind k) then owner p k else group p k
