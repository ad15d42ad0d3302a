-- What stands beside a break, of what has no extent (CSS 2.2, 9.5, 9.6 and 16.6). The end of an inline box or
-- of a text never stands right behind one, whatever floats and anchors stand between: it ends on the line
-- before. And a float or an anchor stands behind a break that isn't forced only where content stands between:
-- a cluster, an atomic box, or the start of an inline box that takes room.
use Rattle.std.specs.Prelude.{◌≡◌, List, [], ◌∷◌, Bool, true, false, ◌&&◌, not}
use Rattle.lay_space.specs.declared.tokens.Token.{Token}
use Rattle.lay_space.specs.declared.tokens.Token.TheVariants.{Cluster, TextEnd, Atomic, Start, End, Float, Anchor}
use Rattle.lay_space.specs.declared.breaks.Entry.{Entry}
use Rattle.lay_space.specs.declared.breaks.Entry.TheVariants.{Content, Break}
use Rattle.lay_space.specs.Breaks.{entries_of}

-- `behind` says whether these entries stand behind a break with nothing in flow between
abbrev pub EndsStandBefore : Bool → List Entry → Type 0
EndsStandBefore behind [] = Unit {0}
EndsStandBefore behind (Break forced ∷ es) = EndsStandBefore true es
EndsStandBefore behind (Content (Cluster c) ∷ es) = EndsStandBefore false es
EndsStandBefore behind (Content TextEnd ∷ es) = (behind ≡ false) × EndsStandBefore false es
EndsStandBefore behind (Content (Atomic n m) ∷ es) = EndsStandBefore false es
EndsStandBefore behind (Content (Start n takes) ∷ es) = EndsStandBefore false es
EndsStandBefore behind (Content (End n) ∷ es) = (behind ≡ false) × EndsStandBefore false es
EndsStandBefore behind (Content (Float n) ∷ es) = EndsStandBefore behind es
EndsStandBefore behind (Content (Anchor n) ∷ es) = EndsStandBefore behind es

-- `behind` says whether these entries stand behind a break that isn't forced with no content between
abbrev pub FloatsStandBefore : Bool → List Entry → Type 0
FloatsStandBefore behind [] = Unit {0}
FloatsStandBefore behind (Break forced ∷ es) = FloatsStandBefore (not forced) es
FloatsStandBefore behind (Content (Cluster c) ∷ es) = FloatsStandBefore false es
FloatsStandBefore behind (Content TextEnd ∷ es) = FloatsStandBefore behind es
FloatsStandBefore behind (Content (Atomic n m) ∷ es) = FloatsStandBefore false es
FloatsStandBefore behind (Content (Start n takes) ∷ es) = FloatsStandBefore (behind && not takes) es
FloatsStandBefore behind (Content (End n) ∷ es) = FloatsStandBefore behind es
FloatsStandBefore behind (Content (Float n) ∷ es) = (behind ≡ false) × FloatsStandBefore behind es
FloatsStandBefore behind (Content (Anchor n) ∷ es) = (behind ≡ false) × FloatsStandBefore behind es

abbrev pub BreaksStandBetween : Type 0
BreaksStandBetween = (xs : List Token) → EndsStandBefore false (entries_of xs) × FloatsStandBefore false (entries_of xs)
