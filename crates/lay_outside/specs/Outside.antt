-- What a read gives and a write takes, where the bytes are told, and counts of faults.
use Rattle.std.specs.Prelude.{ℕ, ◌-◌, ◌^◌, ◌<◌, ◌≤◌, ◌≡◌, List, [], ◌++◌, length, take, drop, Option, Some, IfSome}

-- a count of faults rose, or stands at its greatest value
abbrev pub Rose : ℕ → ℕ → Type 0
Rose old new = old < 2 ^ 64 - 1 → old < new

-- a count of faults stands where it stood, and not at its greatest value
abbrev pub IsFaultless : ℕ → ℕ → Type 0
IsFaultless old new = Rose old new → ⊥

-- the first n of what was given are the next n bytes, and the rest is left
pub record GivesNext (old new : Option (List ℕ)) (given : List ℕ) (n : ℕ) : Type 0 where
  pub there : IfSome old (λ bytes. n ≤ length bytes)
  pub front : IfSome old (λ bytes. take n given ≡ take n bytes)
  pub rest : IfSome old (λ bytes. new ≡ Some (drop n bytes))

-- the piece was added to what was taken
abbrev pub Took : Option (List ℕ) → Option (List ℕ) → List ℕ → Type 0
Took old new piece = IfSome old (λ bytes. new ≡ Some (bytes ++ piece))

-- a front of the text was added to what was taken
abbrev pub TookFront : Option (List ℕ) → Option (List ℕ) → List ℕ → Type 0
TookFront old new text = (n : ℕ) × (n ≤ length text) × Took old new (take n text)

-- where bytes were told, none is left
abbrev pub IsDrained : Option (List ℕ) → Option (List ℕ) → Type 0
IsDrained left now = IfSome left (λ all. now ≡ Some [])
