-- What a root of a context is asked besides what its task is given: which of its boxes are those of other roots, for preferred widths and
-- places, and where its own box stands, for sizes.
use Rattle.std.specs.Prelude.{Bool, true, false}
use Rattle.lay_context.specs.declared.input.Input.{Input}
use Rattle.lay_context.specs.declared.input.Input.TheVariants as input

abbrev pub asks_links : Input → Bool
asks_links (input.Measure i) = true
asks_links input.Unmeasured = false
asks_links (input.Size i) = false
asks_links (input.Place i at) = true
asks_links (input.PlaceTable i at) = true

abbrev pub asks_spot : Input → Bool
asks_spot (input.Size i) = true
asks_spot _ = false
