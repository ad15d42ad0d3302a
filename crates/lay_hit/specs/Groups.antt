-- Groups and owners. Where a node is painted as a whole, Appendix E lists what is in it: its blocks, floats and inline
-- content are those that have no other such node between, and its positioned descendants are those of its stacking context.
-- So the group of a node is its nearest proper ancestor that is painted as a whole, and its owner the nearest that makes a
-- stacking context. The root makes one, so that each other node has both.
use Rattle.std.specs.Prelude.{ℕ, zero, suc, Bool, if◌then◌else◌}

-- the nearest node at or around k that counts, looked for in so many turns: there are no more nodes around one than stand
-- before it
abbrev pub nearest : (ℕ → Bool) → (ℕ → ℕ) → (turns : ℕ) → ℕ → ℕ
nearest counts parent zero k = k
nearest counts parent (suc turns) k = if counts k then k else nearest counts parent turns (parent k)

abbrev pub nearest_at : (ℕ → Bool) → (ℕ → ℕ) → ℕ → ℕ
nearest_at counts parent k = nearest counts parent k k

-- the nearest proper ancestor that counts
abbrev pub nearest_around : (ℕ → Bool) → (ℕ → ℕ) → ℕ → ℕ
nearest_around counts parent k = nearest_at counts parent (parent k)
