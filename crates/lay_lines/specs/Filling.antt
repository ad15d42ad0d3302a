-- What a line takes, and where it stands (CSS 2.2, 9.4.2, 9.5 and 16.6). A line takes stretches of content as long as
-- each fits the room that floats leave at its top. Where no float is beside it, it takes at least one. Where
-- a float is, and nothing fits, the line moves down until something fits or no float is beside it. Lines are broken
-- "as necessary to fill line boxes", so a stretch that takes no room stays on the line of what is before it, also where
-- that overflows: a preserved linefeed, spaces that hang, an inline box without content.
use Rattle.std.specs.Prelude.{ℕ, zero, suc, ◌≡◌, ◌+◌, ◌<◌, ◌≤◌, ◌⊎◌, ℤ, ◌-ℤ◌, ◌≤ℤ◌, List, length, slice_get, Some, IsFalse}
use Rattle.lay_floats.specs.declared.placed.Placed.{Placed}
use Rattle.lay_floats.specs.SolidPlace.{IsAlone}
use Rattle.lay_lines.specs.declared.content.content.Stretch.{Stretch}
use Rattle.lay_lines.specs.declared.content.frame.Frame.{Frame}
use Rattle.lay_lines.specs.Content.Pens.{strut_height, pen_to}
use Rattle.lay_lines.specs.Meeting.{State, Chain, IsLineRoom, Meets, CanMeetAll, RoomsFit}

-- the first k stretches fit the room at y, spaces at their end not counted
abbrev pub HasFit : Frame → ℤ → List Stretch → ℕ → List Placed → Type 0
HasFit fr y ss k floats =
    (a : ℤ) × (e : ℤ) × IsLineRoom fr y floats a e × ((pen_to fr a ss k).visible.0 ≤ℤ (e -ℤ fr.left.0))

-- one more than the first k takes no room at y: with it the visible end of content is no further right
abbrev pub TakesNoRoom : Frame → ℤ → List Stretch → ℕ → List Placed → Type 0
TakesNoRoom fr y ss k floats =
    (a : ℤ) × (e : ℤ) × IsLineRoom fr y floats a e × ((pen_to fr a ss (suc k)).visible.0 ≤ℤ (pen_to fr a ss k).visible.0)

-- One more than the first k is taken: it fits; or it is the first of its line and no float is beside it; or it is
-- a later one and takes no room.
abbrev pub FitsNext : Frame → ℤ → List Stretch → ℕ → List Placed → Type 0
FitsNext fr y ss k floats =
    HasFit fr y ss (suc k) floats ⊎ ((k ≡ 0) × IsAlone floats y (strut_height fr))
    ⊎ ((0 < k) × TakesNoRoom fr y ss k floats)

-- a stretch is taken, and then the floats in it are met
pub record TakesNext (fr : Frame) (y : ℤ) (ss : List Stretch) (k : ℕ) (st after : State) : Type 0 where
  pub stretch : Stretch
  pub is : slice_get ss k ≡ Some stretch
  pub meets : Meets fr y ss (suc k) stretch.floats st after

-- the line after it took the first n of these
abbrev pub Fills : Frame → ℤ → List Stretch → ℕ → State → State → Type 0
Fills fr y ss n st after = Chain (TakesNext fr y ss) n st after

-- each of the first n fits after those before it, beside the floats that stand then
pub record FitsAll (fr : Frame) (y : ℤ) (ss : List Stretch) (st : State) (n : ℕ) : Type 0 where
  pub each : (k : ℕ) → k < n → (mid : State) × Fills fr y ss k st mid × FitsNext fr y ss k mid.floats

-- a line can end after the first n: a forced one is the last of its line
pub record Reaches (ss : List Stretch) (n : ℕ) : Type 0 where
  pub within : n ≤ length ss
  pub last : (j : ℕ) (s : Stretch) → j + 1 < n → slice_get ss j ≡ Some s → IsFalse s.forced

-- n is the greatest number that can be and fits
pub record IsLongest (Can Fit : ℕ → Type 0) (n : ℕ) : Type 0 where
  pub can : Can n
  pub fits : Fit n
  pub most : (m : ℕ) → n < m → Can m → Fit m → ⊥

abbrev pub Takes : Frame → ℤ → List Stretch → State → ℕ → Type 0
Takes fr y ss st n = IsLongest (Reaches ss) (FitsAll fr y ss st) n

-- something fits at y, or no float is beside the line there
abbrev pub Begins : Frame → ℤ → List Stretch → List Placed → Type 0
Begins fr y ss floats = HasFit fr y ss (suc zero) floats ⊎ IsAlone floats y (strut_height fr)

-- y is the least top from `from` downward where a line begins
pub record IsTop (fr : Frame) (from : ℤ) (ss : List Stretch) (floats : List Placed) (y : ℤ) : Type 0 where
  pub low : from ≤ℤ y
  pub begins : Begins fr y ss floats
  pub least : (z : ℤ) → from ≤ℤ z → Begins fr z ss floats → y ≤ℤ z

-- all that a line with the top y can meet is within bounds
pub record CanFill (fr : Frame) (y : ℤ) (ss : List Stretch) (st : State) : Type 0 where
  pub rooms : RoomsFit fr st.floats ss
  pub meets : (k : ℕ) (mid : State) (s : Stretch) → Fills fr y ss k st mid → slice_get ss k ≡ Some s
      → CanMeetAll fr y ss (suc k) s.floats mid
