-- What is given of where a formatting context stands itself is within bounds.
use Rattle.std.specs.Prelude.{◌≡◌, ◌^◌, ℤ, pos, neg_ℤ, ◌≤ℤ◌, length, ⊤}
use Rattle.lay_sizes.specs.SizeColumns.{HaveSizeBounds}
use Rattle.lay_box_tree.specs.ContextBoxes.{AreContextBoxes}
use Rattle.lay_abspos.specs.OffsetBounds.{IsStart}
use Rattle.lay_abspos.specs.AbsoluteSettings.{SettingFits}
use Rattle.lay_abspos.specs.ViewportBounds.{ViewportFits}
use Rattle.lay_abspos.specs.OwnOffsets.{StandInput}
use Rattle.lay_abspos.specs.declared.own_place.OwnPlace.{OwnPlace}
use Rattle.lay_abspos.specs.declared.own_place.OwnPlace.TheVariants.{Inner, Root, Absolute}

abbrev pub OwnPlaceFits : OwnPlace → Type 0
OwnPlaceFits Inner = ⊤
OwnPlaceFits (Root viewport) = ViewportFits viewport
OwnPlaceFits (Absolute s) = SettingFits s

pub record StandInputFits (i : StandInput) : Type 0 where
  pub boxes : AreContextBoxes i.boxes
  pub size_count : length i.sizes ≡ length i.boxes
  pub size_bounds : HaveSizeBounds i.sizes
  pub left : IsStart i.left.0
  pub position : OwnPlaceFits i.position

-- where a border edge of the root's own box can be
abbrev pub IsRootEdge : ℤ → Type 0
IsRootEdge v = (neg_ℤ (pos (2 ^ 40)) ≤ℤ v) × (v ≤ℤ pos (2 ^ 40))
