-- Styles that are written over: those of nodes outside a part are what they were.
use Rattle.std.specs.Prelude.{ℕ, ◌≡◌, ◌<◌, ◌≤◌, ◌⊎◌, List, length}
use Rattle.lay_style.specs.declared.style.Style.{Style}
use Rattle.lay_style.specs.ComputedStyle.{style_at}
use Rattle.lay_after_edits.specs.declared.styles.written_over.Part.{Part}

pub record AreSameOutside (styles later : List Style) (p : Part) : Type 0 where
  pub count : length later ≡ length styles
  pub within : p.until ≤ length styles
  pub same : (k : ℕ) → (k < p.from) ⊎ (p.until ≤ k) → style_at later k ≡ style_at styles k
