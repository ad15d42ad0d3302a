-- Collapsed text has no tab, and no space after a space (CSS 2.2, 16.6.1). Breaks are put into content without
-- another change to it than that floats and anchors may stand earlier, and they are where 16.6 lets them be.
use Rattle.std.specs.Prelude.{ℕ, ◌≡◌, ◌≢◌, ◌==◌, List, [], ◌∷◌, Bool, true, false, not}
use Rattle.std.specs.List.{filter}
use Rattle.lay_space.specs.declared.item.Mode.{Mode}
use Rattle.lay_space.specs.declared.tokens.Token.{Token}
use Rattle.lay_space.specs.declared.tokens.Token.TheVariants.{Cluster, TextEnd, Atomic, Start, End, Float, Anchor}
use Rattle.lay_space.specs.declared.breaks.Entry.{Entry}
use Rattle.lay_space.specs.declared.breaks.Entry.TheVariants.{Content, Break}
use Rattle.lay_space.specs.WhiteSpace.{left_over}
use Rattle.lay_space.specs.Breaks.{entries_of}
use Rattle.lay_space.specs.BreakPlaces.{is_break_or_solid, with_breaks}

-- none of these is a tab, and none a space that stands after a space (`after_space` says so of the first)
abbrev pub IsSpaceCollapsed : Bool → List ℕ → Type 0
IsSpaceCollapsed after_space [] = Unit {0}
IsSpaceCollapsed after_space (c ∷ cs) = (c ≢ 9) × (after_space ≡ true → c ≢ 32) × IsSpaceCollapsed (c == 32) cs

abbrev pub NoSpaceAfterSpace : Type 0
NoSpaceAfterSpace =
    (m : Mode) (after_linefeed after_space : Bool) (cs : List ℕ) → IsSpaceCollapsed after_space (left_over m after_linefeed after_space cs)

-- the content of entries, without the breaks
abbrev pub content_of : List Entry → List Token
content_of [] = []
content_of (Content x ∷ xs) = x ∷ content_of xs
content_of (Break forced ∷ xs) = content_of xs

abbrev pub is_token_out_of_flow : Token → Bool
is_token_out_of_flow (Cluster c) = false
is_token_out_of_flow TextEnd = false
is_token_out_of_flow (Atomic n m) = false
is_token_out_of_flow (Start n takes) = false
is_token_out_of_flow (End n) = false
is_token_out_of_flow (Float n) = true
is_token_out_of_flow (Anchor n) = true

-- what a float or an anchor may stand before though it comes behind it
abbrev pub floats_pass : Token → Bool
floats_pass (Cluster c) = false
floats_pass TextEnd = true
floats_pass (Atomic n m) = false
floats_pass (Start n takes) = not takes
floats_pass (End n) = true
floats_pass (Float n) = false
floats_pass (Anchor n) = false

-- what is in flow keeps its order, and so do floats and anchors, and these with what they don't pass
pub record KeepsContent (xs ys : List Token) : Type 0 where
  pub flow : filter (λ x. not (is_token_out_of_flow x)) ys ≡ filter (λ x. not (is_token_out_of_flow x)) xs
  pub out_of_flow : filter is_token_out_of_flow ys ≡ filter is_token_out_of_flow xs
  pub met : filter (λ x. not (floats_pass x)) ys ≡ filter (λ x. not (floats_pass x)) xs

abbrev pub BreaksKeepContent : Type 0
BreaksKeepContent = (xs : List Token) → KeepsContent xs (content_of (entries_of xs))

-- between clusters and atomics, whatever else stands there
abbrev pub LinesBreakWhereTheyMay : Type 0
LinesBreakWhereTheyMay = (xs : List Token) → filter is_break_or_solid (entries_of xs) ≡ with_breaks xs
