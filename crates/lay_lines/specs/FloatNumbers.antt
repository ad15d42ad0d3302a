-- The floats of content and those that stand, by the numbers of their boxes (CSS 2.2, 9.5).
use Rattle.std.specs.Prelude.{ℕ, suc, ◌≡◌, List, [], ◌++◌, map, slice_get, Some, IsFalse}
use Rattle.std.specs.List.{flat_map}
use Rattle.lay_floats.specs.declared.requests.NodePlace.{NodePlace}
use Rattle.lay_lines.specs.declared.content.content.LineFloat.{LineFloat}
use Rattle.lay_lines.specs.declared.content.content.Stretch.{Stretch}

abbrev pub float_numbers_of : List LineFloat → List ℕ
float_numbers_of fs = map (λ (f : LineFloat). f.node) fs

abbrev pub numbers_placed : List NodePlace → List ℕ
numbers_placed ps = map (λ (p : NodePlace). p.node) ps

-- those before its content and those in it
abbrev pub floats_of_stretch : Stretch → List ℕ
floats_of_stretch s = float_numbers_of s.heads ++ float_numbers_of s.floats

abbrev pub floats_in : List Stretch → List ℕ
floats_in ss = flat_map floats_of_stretch ss

-- Only a stretch that surely begins a line has floats before its content: the first one, and one behind a linefeed.
abbrev pub HeadsBeginLines : List Stretch → Type 0
HeadsBeginLines ss = (k : ℕ) (s t : Stretch) → slice_get ss k ≡ Some s → slice_get ss (suc k) ≡ Some t → IsFalse s.forced → t.heads ≡ []
