-- Where the parts of a stretch lie.
use Rattle.std.specs.Prelude.{List}
use Rattle.lay_lines.specs.declared.content.content.Part.{Part}
use Rattle.lay_lines.specs.declared.content.lists.Parts.{Parts}
use Rattle.lay_lines.specs.declared.content.lists.Parts.TheVariants.{One, Two, Many}

abbrev pub parts_in : Parts → List Part
parts_in (One parts) = parts
parts_in (Two parts) = parts
parts_in (Many parts) = parts.items
