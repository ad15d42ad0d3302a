-- Floats that a line meets (CSS 2.2, 9.5 and 9.5.1). A float that stands before all content of its line that is
-- seen is placed from the line's top downward. A later one stands beside the content where it fits there at
-- the line's top. Otherwise it waits until the line is over, and all later floats of the line wait then.
use Rattle.std.specs.Prelude.{ℕ, zero, suc, ◌≡◌, ℤ, ◌+ℤ◌, ◌-ℤ◌, ◌≤ℤ◌, IsTrue, List, [], ◌∷◌, ◌++◌, length, slice_get, Some}
use Rattle.lay_units.specs.Units.{IsPosition}
use Rattle.lay_floats.specs.declared.placed.Placed.{Placed}
use Rattle.lay_floats.specs.declared.requests.FloatReq.{FloatReq}
use Rattle.lay_floats.specs.declared.requests.NodePlace.{NodePlace}
use Rattle.lay_floats.specs.Fits.{BoxFits, RequestFits}
use Rattle.lay_floats.specs.FloatPlace.{IsFloatPlace, placed_at}
use Rattle.lay_floats.specs.Room.{IsRoom}
use Rattle.lay_lines.specs.declared.content.content.LineFloat.{LineFloat}
use Rattle.lay_lines.specs.declared.content.content.Stretch.{Stretch}
use Rattle.lay_lines.specs.declared.content.frame.Frame.{Frame}
use Rattle.lay_lines.specs.Content.Pens.{strut_height, pen_to, seen_to, ContentFits}
use Rattle.lay_lines.specs.declared.met.Met.{Met}

-- the floats that stand, those of these lines with their places, and those that wait
pub record State : Type 0 where
  pub floats : List Placed
  pub places : List NodePlace
  pub put_off : List LineFloat

abbrev pub state_of : List Placed → Met → State
state_of floats met = record { floats = floats; places = met.places.items; put_off = met.put_off.items }

-- before the first line
abbrev pub none_met : List Placed → State
none_met floats = record { floats = floats; places = []; put_off = [] }

-- n steps, each from one state to another
abbrev pub Chain : {S : Type 0} → (ℕ → S → S → Type 0) → ℕ → S → S → Type 0
Chain Step zero a b = b ≡ a
Chain {S} Step (suc n) a b = (mid : S) × Chain Step n a mid × Step n mid b

-- the float with the line's top as its ceiling
abbrev pub below : ℤ → FloatReq → FloatReq
below y r = record {
  side = r.side;
  width = r.width;
  height = r.height;
  left = r.left;
  right = r.right;
  ceiling = record { 0 = y };
  clear = r.clear;
}

-- the room that floats leave to a line with its top at y
abbrev pub IsLineRoom : Frame → ℤ → List Placed → ℤ → ℤ → Type 0
IsLineRoom fr y floats a e = IsRoom floats y (strut_height fr) fr.left.0 fr.right.0 a e

-- there is room for a float of this width beside the first k stretches, a trailing collapsible space not counted
abbrev pub HasRoom : Frame → ℤ → List Stretch → ℕ → List Placed → ℤ → Type 0
HasRoom fr y ss k floats width =
    (a : ℤ) × (e : ℤ) × IsLineRoom fr y floats a e × (((pen_to fr a ss k).solid.0 +ℤ width) ≤ℤ (e -ℤ fr.left.0))

-- none waits, and there is room for it at the line's top
pub record IsBeside (fr : Frame) (y : ℤ) (ss : List Stretch) (k : ℕ) (st : State) (r : FloatReq) (z : ℤ) : Type 0 where
  pub first : st.put_off ≡ []
  pub room : HasRoom fr y ss k st.floats r.width.0
  pub at_top : z ≡ y

-- The float may stand at (x, z) when a line with its top at y meets it after its first k stretches: before all
-- that is seen anywhere, and later at the line's top alone.
pub record MayFloatStand (fr : Frame) (y : ℤ) (ss : List Stretch) (k : ℕ) (st : State) (r : FloatReq) (x z : ℤ) : Type 0 where
  pub place : IsFloatPlace st.floats (below y r) x z
  pub beside : IsTrue (seen_to fr ss k) → IsBeside fr y ss k st r z

abbrev pub stood : State → LineFloat → ℤ → ℤ → State
stood st f x z = record {
  floats = st.floats ++ placed_at f.req x z ∷ [];
  places = st.places ++ record { node = f.node; place = record { x = record { 0 = x }; y = record { 0 = z } } } ∷ [];
  put_off = st.put_off;
}

abbrev pub waited : State → LineFloat → State
waited st f = record { floats = st.floats; places = st.places; put_off = st.put_off ++ f ∷ [] }

pub data MeetsFloat (fr : Frame) (y : ℤ) (ss : List Stretch) (k : ℕ) (st : State) (f : LineFloat) (after : State) : Type 0 where
  stands : (x z : ℤ) → MayFloatStand fr y ss k st f.req x z → after ≡ stood st f x z
      → MeetsFloat fr y ss k st f after
  waits : IsTrue (seen_to fr ss k) → ((x z : ℤ) → MayFloatStand fr y ss k st f.req x z → ⊥) → after ≡ waited st f
      → MeetsFloat fr y ss k st f after

abbrev pub MeetsAt : Frame → ℤ → List Stretch → ℕ → List LineFloat → ℕ → State → State → Type 0
MeetsAt fr y ss k fs j st after = (f : LineFloat) × (slice_get fs j ≡ Some f) × MeetsFloat fr y ss k st f after

-- the first n of these floats are met, one after the other
abbrev pub MeetsTo : Frame → ℤ → List Stretch → ℕ → List LineFloat → ℕ → State → State → Type 0
MeetsTo fr y ss k fs n st after = Chain (MeetsAt fr y ss k fs) n st after

abbrev pub Meets : Frame → ℤ → List Stretch → ℕ → List LineFloat → State → State → Type 0
Meets fr y ss k fs st after = MeetsTo fr y ss k fs (length fs) st after

-- where the float may come to stand is within bounds
pub record CanMeet (y : ℤ) (floats : List Placed) (r : FloatReq) : Type 0 where
  pub request : RequestFits (below y r)
  pub place : (x z : ℤ) → IsFloatPlace floats (below y r) x z → BoxFits (placed_at r x z)

-- content in each room that these floats leave is within bounds
abbrev pub RoomsFit : Frame → List Placed → List Stretch → Type 0
RoomsFit fr floats ss = (y a e : ℤ) → IsLineRoom fr y floats a e → ContentFits fr a ss

pub record CanMeetAll (fr : Frame) (y : ℤ) (ss : List Stretch) (k : ℕ) (fs : List LineFloat) (st : State) : Type 0 where
  pub meets : (j : ℕ) (mid : State) (f : LineFloat) → MeetsTo fr y ss k fs j st mid → slice_get fs j ≡ Some f
      → CanMeet y mid.floats f.req
  pub rooms : (j : ℕ) (mid : State) → MeetsTo fr y ss k fs j st mid → RoomsFit fr mid.floats ss

pub record FrameFits (fr : Frame) : Type 0 where
  pub left : IsPosition fr.left.0
  pub right : IsPosition fr.right.0
  pub above : IsPosition fr.strut.above.0
  pub below : IsPosition fr.strut.below.0
  pub height : IsPosition (strut_height fr)
  pub indent : IsPosition fr.indent.0

-- the first floats of these
abbrev pub IsFront : List Placed → List Placed → Type 0
IsFront a b = (rest : List Placed) × (b ≡ a ++ rest)
