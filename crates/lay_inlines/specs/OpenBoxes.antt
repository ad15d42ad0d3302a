-- The inline boxes that are open after some content, by number, outermost first: on a line that begins there they have a
-- part too (CSS 2.2, 9.4.2).
use Rattle.std.specs.Prelude.{ℕ, ◌-◌, List, [], ◌∷◌, ◌++◌, length, take}
use Rattle.lay_lines.specs.declared.content.content.Part.{Part}
use Rattle.lay_lines.specs.declared.content.content.Part.TheVariants.{Space, PreservedSpace, Tab, Linefeed, Text, Start, End, Atomic}

abbrev pub open_after_part : List ℕ → Part → List ℕ
open_after_part ns (Space w) = ns
open_after_part ns (PreservedSpace w) = ns
open_after_part ns (Tab t) = ns
open_after_part ns Linefeed = ns
open_after_part ns (Text w) = ns
open_after_part ns (Start b) = ns ++ b.node ∷ []
open_after_part ns (End b) = take (length ns - 1) ns
open_after_part ns (Atomic b) = ns

abbrev pub open_after : List ℕ → List Part → List ℕ
open_after ns [] = ns
open_after ns (x ∷ xs) = open_after (open_after_part ns x) xs
