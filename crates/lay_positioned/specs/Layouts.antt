-- What is known of formatting contexts that are laid out, each by its number: the used sizes of its boxes, where they stand, and
-- of the root's and of an absolutely positioned one its own offset.
--
-- Where a formatting context stands in the one around it is counted between their contents. They are counted from the corners of
-- their border boxes, but for what is in a table cell, which is moved down (CSS 2.2, 17.5.3). So nothing but the one around says
-- it, and how that is moved itself doesn't matter.
use Rattle.std.specs.Prelude.{ℕ, ◌+ℤ◌, List, if◌then◌else◌}
use Rattle.lay_sizes.specs.declared.sizing.BoxSizes.{BoxSizes}
use Rattle.lay_contexts.specs.FormattingContexts.{FormattingContext, formatting_context_at}
use Rattle.lay_placements.specs.declared.corner.Corner.{Corner}
use Rattle.lay_placements.specs.declared.standing.Standing.{Standing}
use Rattle.lay_placements.specs.Standings.{standing_at}
use Rattle.lay_positioned.specs.Absolute.{is_absolute}

pub record Layout : Type 0 where
  pub sizes : List BoxSizes
  pub standings : List Standing
  -- The corner of the border box of an absolutely positioned one, counted as the standings are of the one around it; of the root's
  -- from the corner of the page. Of others it is nothing.
  pub offset : Corner

-- where the box of the formatting context with the number i stands in the one around it
abbrev pub standing_of : List FormattingContext → (ℕ → Layout) → ℕ → Standing
standing_of contexts laid i =
    let c = formatting_context_at contexts i in
    standing_at (laid c.outer).standings c.outer_box

-- where what is in a box that stands so is counted from
abbrev pub content_corner : Standing → Corner
content_corner s = record { x = s.corner.x; y = record { 0 = s.corner.y.0 +ℤ s.shift.0 } }

-- how far the content of the formatting context with the number i, which isn't the root's, stands from the content of the one
-- around it
abbrev pub step : List FormattingContext → (ℕ → Layout) → ℕ → Corner
step contexts laid i = if is_absolute contexts i then (laid i).offset else content_corner (standing_of contexts laid i)
