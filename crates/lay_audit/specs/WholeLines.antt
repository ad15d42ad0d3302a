-- Texts of whole lines: each is ended by a linefeed, and has no other one.
use Rattle.std.specs.Prelude.{ℕ, ⊤, ◌≡◌, ◌==◌, List, [], ◌∷◌, ◌++◌, length, false}
use Rattle.std.specs.List.{flat_map, list_any}

-- no linefeed is in it
abbrev pub LacksEnd : List ℕ → Type 0
LacksEnd text = list_any (λ b. b == 10) text ≡ false

abbrev pub AllLackEnds : List (List ℕ) → Type 0
AllLackEnds [] = ⊤
AllLackEnds (x ∷ xs) = LacksEnd x × AllLackEnds xs

-- a line with its linefeed
abbrev pub ended : List ℕ → List ℕ
ended line = line ++ 10 ∷ []

abbrev pub joined : List (List ℕ) → List ℕ
joined lines = flat_map ended lines

-- the text is that of so many lines
pub record AreLines (count : ℕ) (text : List ℕ) : Type 0 where
  pub bodies : List (List ℕ)
  pub text_is : text ≡ joined bodies
  pub lack : AllLackEnds bodies
  pub count_is : count ≡ length bodies

-- the text is of whole lines
abbrev pub IsOfLines : List ℕ → Type 0
IsOfLines text = (count : ℕ) × AreLines count text
