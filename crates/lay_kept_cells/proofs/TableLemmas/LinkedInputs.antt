-- What a root is given from outside its cell, by what its task is given.
use Rattle.std.proofs.Common.{◌≡◌, ℕ, true, false, List, [], Option, None, refl}
use Rattle.lay_contexts.specs.FormattingContexts.{FormattingContext, formatting_context_at}
use Rattle.lay_context.specs.declared.input.Input.{Input}
use Rattle.lay_context.specs.declared.input.Input.TheVariants as input
use Rattle.lay_cell_work.specs.declared.root_spot.RootSpot.{RootSpot}
use Rattle.lay_cell_work.specs.CellInputs.{RootInput}
use Rattle.lay_cell_work.specs.CellLocal.{masked_input}
use Rattle.lay_cell_work.specs.PresentInputs.{root_input_as, spot_in}
use Rattle.lay_kept_cells.specs.Table.LinkedRoots.{asks_links, asks_spot}

abbrev pub parts : Input → List (Option ℕ) → Option RootSpot → RootInput
parts given links around = record { given = given; links = links; around = around }

pub only_input : (given : Input) → parts given [] None ≡ root_input_as [] None given
only_input (input.Measure i) = refl
only_input input.Unmeasured = refl
only_input (input.Size i) = refl
only_input (input.Place i at) = refl
only_input (input.PlaceTable i at) = refl

pub unlinked_input : (links : List (Option ℕ)) (around : Option RootSpot) (given : Input) → asks_links given ≡ false → (asks_spot given ≡ true → around ≡ None) → parts given [] None ≡ root_input_as links around given
unlinked_input links around (input.Measure i) e own = absurd cc
unlinked_input links around input.Unmeasured e own = refl
unlinked_input links around (input.Size i) e own = (let none : around ≡ None = own refl in rw none refl)
unlinked_input links around (input.Place i at) e own = absurd cc
unlinked_input links around (input.PlaceTable i at) e own = absurd cc

pub linked_input : (links : List (Option ℕ)) (around : Option RootSpot) (given : Input) → asks_links given ≡ true → parts (masked_input links None given) links None ≡ root_input_as links around given
linked_input links around (input.Measure i) e = refl
linked_input links around input.Unmeasured e = absurd cc
linked_input links around (input.Size i) e = absurd cc
linked_input links around (input.Place i at) e = refl
linked_input links around (input.PlaceTable i at) e = refl

pub no_spot : (all : List FormattingContext) (first i : ℕ) → (formatting_context_at all i).anonymous ≡ false → spot_in all first i ≡ None
no_spot all first i e = rw e refl
