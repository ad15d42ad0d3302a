-- The content of the lines of a block container, and its bounds.
use Rattle.std.specs.Prelude.{ℕ, ⊤, ◌≡◌, ◌+◌, ◌-◌, ◌*◌, ◌/◌, ◌<◌, ◌≤◌, ◌^◌, ℤ, pos}
use Rattle.std.specs.Prelude.{negsuc, ◌≤ℤ◌, List, [], ◌∷◌, length, slice_get, Some, All}
use Rattle.lay_units.specs.Units.{IsUsed}
use Rattle.lay_units.specs.declared.length.Unit.{Unit}
use Rattle.lay_floats.specs.Within.{IsWithin}
use Rattle.lay_valign.specs.declared.parts.Shift.{Shift}
use Rattle.lay_valign.specs.Near.{distance}
use Rattle.lay_valign.specs.PartsFit.{length_of}
use Rattle.lay_lines.specs.declared.content.content.AtomicBox.{AtomicBox}
use Rattle.lay_lines.specs.declared.content.content.InlineStart.{InlineStart}
use Rattle.lay_lines.specs.declared.content.content.Part.{Part}
use Rattle.lay_lines.specs.declared.content.content.Part.TheVariants.{Space, PreservedSpace, Tab, Linefeed, Text, Start, End, Atomic}
use Rattle.lay_lines.specs.declared.content.content.LineFloat.{LineFloat}
use Rattle.lay_lines.specs.declared.content.content.Stretch.{Stretch}
use Rattle.lay_lines.specs.declared.content.frame.Extent.{Extent}
use Rattle.lay_lines.specs.Content.Extents.{height_of}

-- the container's strut (10.8.1), its `text-indent` (16.1), the distance between its tab stops, where 0 says that there
-- are none (16.6.1), and its content, measured
pub record LineContentValue : Type 0 where
  pub strut : Extent
  pub indent : Unit
  pub tab : Unit
  pub stretches : List Stretch

abbrev pub content_of : Extent → Unit → Unit → List Stretch → LineContentValue
content_of strut indent tab stretches = record { strut = strut; indent = indent; tab = tab; stretches = stretches }

-- how far a part takes the end of content at most, where stops are this far apart
abbrev pub spread_of_part : ℤ → Part → ℕ
spread_of_part tab (Space w) = distance w.width.0
spread_of_part tab (PreservedSpace w) = distance w.width.0
spread_of_part tab (Tab t) = distance tab
spread_of_part tab Linefeed = 0
spread_of_part tab (Text w) = distance w.width.0
spread_of_part tab (Start b) = distance b.width.0
spread_of_part tab (End b) = distance b.width.0
spread_of_part tab (Atomic a) = distance a.width.0

abbrev pub total : {X : Type 0} → (X → ℕ) → List X → ℕ
total of [] = 0
total of (x ∷ xs) = of x + total of xs

abbrev pub spread_of_parts : ℤ → List Part → ℕ
spread_of_parts tab xs = total (spread_of_part tab) xs

abbrev pub spread_of : ℤ → List Stretch → ℕ
spread_of tab ss = total (λ (s : Stretch). spread_of_parts tab s.parts) ss

-- a stretch and its floats
abbrev pub weight_of_stretch : Stretch → ℕ
weight_of_stretch s = length s.heads + length s.floats + 1

abbrev pub weight_of : List Stretch → ℕ
weight_of ss = total weight_of_stretch ss

-- a length above 0, and otherwise none
abbrev pub positive : ℤ → ℕ
positive (pos n) = n
positive (negsuc n) = 0

-- how high a box is together with its baseline: from its top, or the baseline where that is higher, to its bottom, or the
-- baseline where that is lower
abbrev pub hull : Extent → ℕ
hull e = positive e.above.0 + positive e.below.0

-- of atomic boxes
abbrev pub hull_of_part : Part → ℕ
hull_of_part (Space w) = 0
hull_of_part (PreservedSpace w) = 0
hull_of_part (Tab t) = 0
hull_of_part Linefeed = 0
hull_of_part (Text w) = 0
hull_of_part (Start b) = 0
hull_of_part (End b) = 0
hull_of_part (Atomic a) = hull a.extent

abbrev pub hulls_of : List Stretch → ℕ
hulls_of ss = total (λ (s : Stretch). total hull_of_part s.parts) ss

-- whether a part is one of those that a line's shape is made of: an inline box or an atomic box
abbrev pub boxes_of_part : Part → ℕ
boxes_of_part (Space w) = 0
boxes_of_part (PreservedSpace w) = 0
boxes_of_part (Tab t) = 0
boxes_of_part Linefeed = 0
boxes_of_part (Text w) = 0
boxes_of_part (Start b) = 1
boxes_of_part (End b) = 0
boxes_of_part (Atomic a) = 1

abbrev pub boxes_of : List Stretch → ℕ
boxes_of ss = total (λ (s : Stretch). total boxes_of_part s.parts) ss

-- in the first n stretches no inline box starts and no atomic box stands
abbrev pub HasNoBoxes : List Stretch → ℕ → Type 0
HasNoBoxes ss n = (k : ℕ) (s : Stretch) → k < n → slice_get ss k ≡ Some s → total boxes_of_part s.parts ≡ 0

-- how many inline boxes are open after a part, where so many are before it
abbrev pub open_count_after : ℕ → Part → ℕ
open_count_after n (Space w) = n
open_count_after n (PreservedSpace w) = n
open_count_after n (Tab t) = n
open_count_after n Linefeed = n
open_count_after n (Text w) = n
open_count_after n (Start b) = n + 1
open_count_after n (End b) = n - 1
open_count_after n (Atomic a) = n

abbrev pub open_after_parts : ℕ → List Part → ℕ
open_after_parts n [] = n
open_after_parts n (x ∷ xs) = open_after_parts (open_count_after n x) xs

-- where so many inline boxes are open, at most 128 boxes of these stand in each other
abbrev pub AreNestedParts : ℕ → List Part → Type 0
AreNestedParts n [] = n ≤ 128
AreNestedParts n (x ∷ xs) = (n + boxes_of_part x ≤ 128) × AreNestedParts (open_count_after n x) xs

abbrev pub AreNested : ℕ → List Stretch → Type 0
AreNested n [] = n ≤ 128
AreNested n (s ∷ ss) = AreNestedParts n s.parts × AreNested (open_after_parts n s.parts) ss

-- nine for each stretch and each of its floats, and one for each 2^36 units of its hulls, and one more
abbrev pub lines_weight : LineContentValue → ℕ
lines_weight c = 9 * weight_of c.stretches + hulls_of c.stretches / 68719476736 + 1

-- at most 2^34 units
pub record ExtentWithin (e : Extent) : Type 0 where
  pub above : IsWithin (pos (2 ^ 34)) e.above.0
  pub below : IsWithin (pos (2 ^ 34)) e.below.0

-- at most 2^35 units
abbrev pub ShiftWithin : Shift → Type 0
ShiftWithin shift = IsWithin (pos (2 ^ 35)) (length_of shift)

pub record InlineStartWithin (b : InlineStart) : Type 0 where
  pub extent : ExtentWithin b.extent
  pub shift : ShiftWithin b.shift

-- the height of its margin box is at most 2^34 units
pub record AtomicBoxWithin (a : AtomicBox) : Type 0 where
  pub height : IsWithin (pos (2 ^ 34)) (height_of a.extent)
  pub shift : ShiftWithin a.shift

abbrev pub PartWithin : Part → Type 0
PartWithin (Space w) = ⊤
PartWithin (PreservedSpace w) = ⊤
PartWithin (Tab t) = ⊤
PartWithin Linefeed = ⊤
PartWithin (Text w) = ⊤
PartWithin (Start b) = InlineStartWithin b
PartWithin (End b) = ⊤
PartWithin (Atomic a) = AtomicBoxWithin a

-- 0 to 2^45 units
abbrev pub IsTabDistance : ℤ → Type 0
IsTabDistance v = (pos 0 ≤ℤ v) × (v ≤ℤ pos (2 ^ 45))

-- its size is at most 2^34 units, and the edges of its containing block are at most 2^50 away
pub record LineFloatWithin (f : LineFloat) : Type 0 where
  pub width : IsWithin (pos (2 ^ 34)) f.req.width.0
  pub height : IsWithin (pos (2 ^ 34)) f.req.height.0
  pub left : IsWithin (pos (2 ^ 50)) f.req.left.0
  pub right : IsWithin (pos (2 ^ 50)) f.req.right.0

pub record StretchWithin (s : Stretch) : Type 0 where
  pub heads : All LineFloatWithin s.heads
  pub parts : All PartWithin s.parts
  pub floats : All LineFloatWithin s.floats

pub record IsLineContent (c : LineContentValue) : Type 0 where
  pub strut : ExtentWithin c.strut
  pub indent : IsUsed c.indent.0
  pub tab : IsTabDistance c.tab.0
  pub stretches : All StretchWithin c.stretches
  pub nested : AreNested 0 c.stretches
  pub spread : spread_of c.tab.0 c.stretches ≤ 2 ^ 58
  pub hulls : hulls_of c.stretches ≤ 558446353793941504
  pub boxes : boxes_of c.stretches ≤ 2 ^ 31
  pub weight : lines_weight c ≤ 16711680
