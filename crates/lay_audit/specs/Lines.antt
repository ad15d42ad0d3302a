-- The lines of a text, one after the other. A line goes up to and with its linefeed. What stands behind the last linefeed
-- is a line too, where there is something, and behind it stands the end, which is a line without bytes.
use Rattle.std.specs.Prelude.{ℕ, zero, suc, ⊤, ◌≡◌, ◌+◌, ◌==◌, Bool, true, List, [], ◌∷◌, count_by, if◌then◌else◌}

-- the first line
abbrev pub first_line : List ℕ → List ℕ
first_line [] = []
first_line (b ∷ bs) = if b == 10 then b ∷ [] else b ∷ first_line bs

-- what stands behind the first line
abbrev pub behind_line : List ℕ → List ℕ
behind_line [] = []
behind_line (b ∷ bs) = if b == 10 then bs else behind_line bs

-- two texts have the first n lines in common
abbrev pub StartAlike : ℕ → List ℕ → List ℕ → Type 0
StartAlike zero s t = ⊤
StartAlike (suc n) s t = (first_line s ≡ first_line t) × StartAlike n (behind_line s) (behind_line t)

-- a text that ends with a linefeed, or has nothing in it
abbrev pub ends_whole : List ℕ → Bool
ends_whole [] = true
ends_whole (b ∷ []) = b == 10
ends_whole (b ∷ c ∷ cs) = ends_whole (c ∷ cs)

-- how many lines a text has before its end: one for each linefeed, and one for what stands behind the last
abbrev pub line_count : List ℕ → ℕ
line_count text = count_by (λ b. b == 10) text + (if ends_whole text then 0 else 1)
