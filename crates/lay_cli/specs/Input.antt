-- What was read of a source.
use Rattle.std.specs.Prelude.{ℕ, ◌≡◌, ◌<◌, ◌⊎◌, List, [], ◌++◌, length, Option, Some, IfSome}
use Rattle.lay_outside.specs.Outside.{Rose}
use Rattle.lay_cli.specs.declared.input.SourceFault.{SourceFault}
use Rattle.lay_cli.specs.declared.input.SourceFault.TheVariants.{TooLong, Failed, NoMemory}

-- these were all the bytes that were left, where they are told
abbrev pub WasAll : Option (List ℕ) → List ℕ → Type 0
WasAll left bytes = IfSome left (λ all. all ≡ bytes)

-- where bytes were told, none is left, or there were more than 16,777,216
abbrev pub IsReadOut : Option (List ℕ) → Option (List ℕ) → Type 0
IsReadOut left now = IfSome left (λ bytes. (now ≡ Some []) ⊎ (16777216 < length bytes))

-- these were the first bytes, and those of `now` are left
abbrev pub WasFirst : Option (List ℕ) → Option (List ℕ) → List ℕ → Type 0
WasFirst left now bytes = IfSome left (λ all. (rest : List ℕ) × (now ≡ Some rest) × (all ≡ bytes ++ rest))

-- when each fault comes
abbrev pub CausesSourceFault : ℕ → ℕ → Option (List ℕ) → SourceFault → Type 0
CausesSourceFault old new left TooLong = IfSome left (λ all. 16777216 < length all)
CausesSourceFault old new left Failed = Rose old new
CausesSourceFault old new left NoMemory = Unit {0}
