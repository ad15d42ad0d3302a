-- What the steps of 16.6.1 (CSS 2.2) leave of inline content whose texts are UTF-8: the same words, with white
-- space between them where there was some; and where white space collapses no tab, no space after a
-- collapsible one, also not one of the text before, and no linefeed where lines are joined.
use Rattle.std.specs.Prelude.{ℕ, ◌≡◌, ◌≢◌, ◌==◌, List, [], ◌∷◌, Bool, true, false, if◌then◌else◌, ◌&&◌, ◌||◌, chars, length}
use Rattle.std.specs.Str.{IsUtf8}
use Rattle.lay_space.specs.declared.item.Mode.{Mode}
use Rattle.lay_space.specs.declared.item.Item.{Item}
use Rattle.lay_space.specs.declared.item.Item.TheVariants.{Text, Atomic, Start, End, Float, Anchor}
use Rattle.lay_space.specs.Modes.{collapses, joins_lines}
use Rattle.lay_space.specs.WhiteSpace.{is_blank, ends_in_space, processed}
use Rattle.lay_space.specs.Laws.{IsSpaceCollapsed}

abbrev pub AreUtf8 : List Item → Type 0
AreUtf8 [] = Unit {0}
AreUtf8 (Text node text m widths ∷ xs) = IsUtf8 text × AreUtf8 xs
AreUtf8 (Atomic n m ∷ xs) = AreUtf8 xs
AreUtf8 (Start n takes ∷ xs) = AreUtf8 xs
AreUtf8 (End n ∷ xs) = AreUtf8 xs
AreUtf8 (Float n ∷ xs) = AreUtf8 xs
AreUtf8 (Anchor n ∷ xs) = AreUtf8 xs

-- a space, a tab, a carriage return or a linefeed
abbrev pub is_white_code : ℕ → Bool
is_white_code c = is_blank c || c == 10

-- Characters with each row of white space as one space, of which `goes_on` says whether one stands before them.
abbrev pub words : Bool → List ℕ → List ℕ
words goes_on [] = []
words goes_on (c ∷ cs) = if is_white_code c then (if goes_on then words true cs else 32 ∷ words true cs) else (c ∷ words false cs)

-- whether what follows these characters stands behind white space
abbrev pub ends_in_white : Bool → List ℕ → Bool
ends_in_white goes_on [] = goes_on
ends_in_white goes_on (c ∷ cs) = ends_in_white (is_white_code c) cs

-- Content with the words of its texts. Rows of white space go on from text to text, which an atomic box parts.
abbrev pub with_words : Bool → List Item → List Item
with_words goes_on [] = []
with_words goes_on (Text node text m widths ∷ xs) =
    Text node (words goes_on (chars text)) m [] ∷ with_words (ends_in_white goes_on (chars text)) xs
with_words goes_on (Atomic n m ∷ xs) = Atomic n m ∷ with_words false xs
with_words goes_on (Start n takes ∷ xs) = Start n takes ∷ with_words goes_on xs
with_words goes_on (End n ∷ xs) = End n ∷ with_words goes_on xs
with_words goes_on (Float n ∷ xs) = Float n ∷ with_words goes_on xs
with_words goes_on (Anchor n ∷ xs) = Anchor n ∷ with_words goes_on xs

abbrev pub OnlyWhiteSpaceGoes : Type 0
OnlyWhiteSpaceGoes = (items : List Item) → AreUtf8 items → with_words false (processed false items) ≡ with_words false items

abbrev pub HasNoLinefeed : List ℕ → Type 0
HasNoLinefeed [] = Unit {0}
HasNoLinefeed (c ∷ cs) = (c ≢ 10) × HasNoLinefeed cs

-- whether what follows a text stands behind a collapsible space, which `after_space` says of the text
abbrev pub ends_in_collapsible : Bool → Mode → List ℕ → Bool
ends_in_collapsible after_space m text = if collapses m then ends_in_space after_space (chars text) else after_space && length text == 0

abbrev pub IsCollapsedText : Bool → Mode → List ℕ → Type 0
IsCollapsedText after_space m cs = (collapses m ≡ true → IsSpaceCollapsed after_space cs) × (joins_lines m ≡ true → HasNoLinefeed cs)

abbrev pub IsCollapsedContent : Bool → List Item → Type 0
IsCollapsedContent after_space [] = Unit {0}
IsCollapsedContent after_space (Text node text m widths ∷ xs) =
    IsCollapsedText after_space m (chars text) × IsCollapsedContent (ends_in_collapsible after_space m text) xs
IsCollapsedContent after_space (Atomic n m ∷ xs) = IsCollapsedContent false xs
IsCollapsedContent after_space (Start n takes ∷ xs) = IsCollapsedContent after_space xs
IsCollapsedContent after_space (End n ∷ xs) = IsCollapsedContent after_space xs
IsCollapsedContent after_space (Float n ∷ xs) = IsCollapsedContent after_space xs
IsCollapsedContent after_space (Anchor n ∷ xs) = IsCollapsedContent after_space xs

abbrev pub ContentCollapses : Type 0
ContentCollapses = (items : List Item) → AreUtf8 items → IsCollapsedContent false (processed false items)
