-- White space (CSS 2.2, 16.6.1): what its four steps leave of the inline content of a block container. The
-- steps work inside each text, but that a space after a collapsible space is removed also across texts.
-- A space at the start or the end of a line is removed where lines are made (lay_lines, lay_inlines).
--
-- The texts "a \t\n b" and " c" of an inline box leave "a b" and " c" under `normal`, and "a\nb" and " c"
-- under `pre-line`.
use Rattle.std.specs.Prelude.{ℕ, ◌==◌, List, [], ◌∷◌, map, length, Bool, false, if◌then◌else◌, ◌&&◌, ◌||◌, chars, encode_utf8_all}
use Rattle.lay_space.specs.declared.item.Mode.{Mode}
use Rattle.lay_space.specs.declared.item.Item.{Item}
use Rattle.lay_space.specs.declared.item.Item.TheVariants.{Text, Atomic, Start, End, Float, Anchor}
use Rattle.lay_space.specs.Modes.{collapses, joins_lines}

-- a tab, a carriage return or a space
abbrev pub is_blank : ℕ → Bool
is_blank c = c == 9 || c == 13 || c == 32

-- whether the row of blanks at the head is followed by a linefeed
abbrev pub runs_to_linefeed : List ℕ → Bool
runs_to_linefeed [] = false
runs_to_linefeed (c ∷ cs) = if is_blank c then runs_to_linefeed cs else c == 10

-- Step 1: each row of blanks after a linefeed (`after_linefeed` says so of the row at the head) or before
-- one is removed.
abbrev pub strip : Bool → List ℕ → List ℕ
strip after_linefeed [] = []
strip after_linefeed (c ∷ cs) =
    if is_blank c then (if after_linefeed || runs_to_linefeed cs then strip after_linefeed cs else c ∷ strip after_linefeed cs)
    else (c ∷ strip (c == 10) cs)

-- Step 2 keeps the spaces of `pre` and `pre-wrap`: see `text_left`.

-- Step 3: a linefeed becomes a space where lines are joined. Step 4 begins: a tab becomes a space.
abbrev pub as_space : Mode → ℕ → ℕ
as_space m c = if c == 9 then 32 else (if joins_lines m && c == 10 then 32 else c)

-- Step 4: a space after a space is removed. `after_space` says whether these characters stand after one.
abbrev pub squeeze : Bool → List ℕ → List ℕ
squeeze after_space [] = []
squeeze after_space (c ∷ cs) = if after_space && c == 32 then squeeze after_space cs else (c ∷ squeeze (c == 32) cs)

-- what the steps leave of the characters of a text that collapses
abbrev pub left_over : Mode → Bool → Bool → List ℕ → List ℕ
left_over m after_linefeed after_space cs = squeeze after_space (map (as_space m) (strip after_linefeed cs))

-- whether what follows these characters stands after a space
abbrev pub ends_in_space : Bool → List ℕ → Bool
ends_in_space after_space [] = after_space
ends_in_space after_space (c ∷ cs) = ends_in_space (c == 32) cs

-- what is left of a text
abbrev pub text_left : Bool → Mode → List ℕ → List ℕ
text_left after_space m text = if collapses m then encode_utf8_all (left_over m false after_space (chars text)) else text

-- whether what follows the text stands after a collapsible space
abbrev pub space_after : Bool → Mode → List ℕ → Bool
space_after after_space m text =
    if collapses m then ends_in_space after_space (left_over m false after_space (chars text)) else after_space && length text == 0

-- the content that is left. Inline boxes, floats and anchors stand between spaces without parting them.
abbrev pub processed : Bool → List Item → List Item
processed after_space [] = []
processed after_space (Text node text mode widths ∷ xs) =
    Text node (text_left after_space mode text) mode [] ∷ processed (space_after after_space mode text) xs
processed after_space (Atomic node mode ∷ xs) = Atomic node mode ∷ processed false xs
processed after_space (Start node takes ∷ xs) = Start node takes ∷ processed after_space xs
processed after_space (End node ∷ xs) = End node ∷ processed after_space xs
processed after_space (Float node ∷ xs) = Float node ∷ processed after_space xs
processed after_space (Anchor node ∷ xs) = Anchor node ∷ processed after_space xs
