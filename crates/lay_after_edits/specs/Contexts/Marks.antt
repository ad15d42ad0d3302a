-- Flags of places, one of which is set if it is there.
use Rattle.std.specs.Prelude.{ℕ, ◌≡◌, ◌≢◌, ◌<◌, Bool, true, List, length}
use Rattle.lay_after_edits.specs.Contexts.Links.{is_made}

pub record Marks (at : ℕ) (before after : List Bool) : Type 0 where
  pub here : at < length before → is_made after at ≡ true
  pub others : (k : ℕ) → k ≢ at → is_made after k ≡ is_made before k
  pub as_many : length after ≡ length before
