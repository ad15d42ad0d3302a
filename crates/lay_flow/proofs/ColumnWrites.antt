-- A column of lengths, read after a write.
use Rattle.std.proofs.Common.{◌≡◌, ℕ, ◌<◌, List, length, get_or, set, arith, ap}
use Rattle.std.proofs.lemmas.Grind.{elements}
use Rattle.lay_units.specs.declared.length.Unit.{Unit as Length}
use Rattle.lay_units.specs.Lengths.{no_length}
use Rattle.lay_flow.specs.Blocks.Lengths.{length_at}

entry_same : (hs : List Length) (k : ℕ) (h : Length) → k < length hs → get_or (set hs k h) k no_length ≡ h
entry_same hs k h within = grind (arith, elements)

entry_other : (hs : List Length) (k j : ℕ) (h : Length) → (j ≡ k → ⊥) → get_or (set hs k h) j no_length ≡ get_or hs j no_length
entry_other hs k j h apart = grind (arith, elements)

pub set_same : (hs : List Length) (k : ℕ) (h : Length) → k < length hs → length_at (set hs k h) k ≡ h.0
set_same hs k h within = ap (λ (u : Length). u.0) (entry_same hs k h within)

pub set_other : (hs : List Length) (k j : ℕ) (h : Length) → (j ≡ k → ⊥) → length_at (set hs k h) j ≡ length_at hs j
set_other hs k j h apart = ap (λ (u : Length). u.0) (entry_other hs k j h apart)

pub length-set' : (hs : List Length) (k : ℕ) (h : Length) → length (set hs k h) ≡ length hs
length-set' hs k h = grind (arith, elements)
