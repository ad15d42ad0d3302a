-- Where formatting contexts stand on the page. Each stands in the one around it, from the corner of whose border box its place is
-- counted; and where what is in a cell is moved down (CSS 2.2, 17.5.3), so is each that stands in it. An absolutely positioned one has
-- its own offset there (9.6).
use Rattle.std.specs.Prelude.{ℕ, zero, suc, ◌≡◌, ◌<◌, ◌+ℤ◌, List, length, if◌then◌else◌}
use Rattle.lay_units.specs.declared.length.Unit.{Unit as Length}
use Rattle.lay_units.specs.Lengths.{no_length}
use Rattle.lay_contexts.specs.FormattingContexts.{FormattingContext, formatting_context_at}
use Rattle.lay_placements.specs.declared.corner.Corner.{Corner}
use Rattle.lay_placements.specs.declared.standing.Standing.{Standing}
use Rattle.lay_placements.specs.Corners.{corner_at}
use Rattle.lay_placements.specs.Standings.{standing_at}
use Rattle.lay_positioned.specs.Absolute.{is_absolute}
use Rattle.lay_context.specs.PlacedContexts.{PlacedContext, placed_in, placement_in}

-- the root and an absolutely positioned one stand where they say themselves, and nothing moves what is in them
abbrev pub own_standing : PlacedContext → Standing
own_standing p = record { corner = p.offset; height = p.placement.own.height; shift = no_length }

-- how the formatting context with the number i, in flow or floating, stands in the one around it
abbrev pub flow_standing : List FormattingContext → List PlacedContext → ℕ → Standing
flow_standing contexts places zero = own_standing (placed_in places 0)
flow_standing contexts places (suc i) =
    let c = formatting_context_at contexts (suc i) in
    standing_at (placement_in places c.outer).standings c.outer_box

-- how the formatting context with the number i stands
abbrev pub standing_of : List FormattingContext → List PlacedContext → ℕ → Standing
standing_of contexts places i =
    if is_absolute contexts i then own_standing (placed_in places i) else flow_standing contexts places i

-- how the first n formatting contexts stand
pub record ArePageStandings (contexts : List FormattingContext) (places : List PlacedContext) (standings : List Standing) (n : ℕ)
    : Type 0 where
  pub count : length standings ≡ n
  pub each : (i : ℕ) → i < n → standing_at standings i ≡ standing_of contexts places i

-- a corner that is counted from another one
abbrev pub beside : Corner → Corner → Corner
beside outer inner = record { x = record { 0 = outer.x.0 +ℤ inner.x.0 }; y = record { 0 = outer.y.0 +ℤ inner.y.0 } }

-- a corner so much further down
abbrev pub lowered : Length → Corner → Corner
lowered shift corner = record { x = corner.x; y = record { 0 = corner.y.0 +ℤ shift.0 } }

-- the corner of the border box of the formatting context with the number i, which isn't the root's
abbrev pub inner_corner : List FormattingContext → List PlacedContext → List Corner → ℕ → Corner
inner_corner contexts places corners i =
    let outer = (formatting_context_at contexts i).outer in
    beside (lowered (standing_of contexts places outer).shift (corner_at corners outer)) (standing_of contexts places i).corner

-- these are the corners of their border boxes on the page
pub record HasPageCorners (contexts : List FormattingContext) (places : List PlacedContext) (corners : List Corner) : Type 0 where
  pub count : length corners ≡ length contexts
  pub first : 0 < length contexts → corner_at corners 0 ≡ (placed_in places 0).offset
  pub inner : (i : ℕ) → 0 < i → i < length contexts → corner_at corners i ≡ inner_corner contexts places corners i
