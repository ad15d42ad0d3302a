-- What a node is called: its tag, its label and its classes (CSS 2.2, 5.4, 5.8.3 and 5.9). Names are compared exactly.
use Rattle.std.specs.Prelude.{ℕ, zero, suc, List, [], ◌∷◌, Bool, true, false}
use Rattle.std.specs.List.{list_any}
use Rattle.std.specs.Str.{bytes_eq}
use Rattle.lay_sheet.specs.declared.selector.Simple.{Simple}
use Rattle.lay_sheet.specs.declared.selector.Simple.TheVariants.{Universal, Tag, Class, Label}
use Rattle.lay_cascade.specs.declared.node_names.names.Names.{Names}

-- whether a node with these names is what a simple selector asks for
abbrev pub fits : Names → Simple → Bool
fits names Universal = true
fits names (Tag name) = bytes_eq names.tag name
fits names (Label name) = bytes_eq names.label name
fits names (Class name) = list_any (λ class. bytes_eq class name) names.classes

-- the same of the names at a place
abbrev pub fits_at : List Names → ℕ → Simple → Bool
fits_at [] k simple = false
fits_at (n ∷ ns) zero simple = fits n simple
fits_at (n ∷ ns) (suc k) simple = fits_at ns k simple
