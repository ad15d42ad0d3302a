-- What the cell of a context is given now, among the contexts of a document and the values that are known of them. It is what the tasks
-- of its roots are given by `input_of`, without what these give each other. An input holds what is used and not whole values: the own
-- boxes of inner contexts and not their placements.
use Rattle.std.specs.Prelude.{ℕ, ◌+◌, ◌-◌, List, [], length, map, Option, None, Some, if◌then◌else◌}
use Rattle.std.specs.List.{range_with_len}
use Rattle.lay_contexts.specs.Contexts.{Context, boxes_in}
use Rattle.lay_contexts.specs.FormattingContexts.{FormattingContext, formatting_context_at}
use Rattle.lay_contexts.specs.FormattingContextList.{first_number, roots_before}
use Rattle.lay_context.specs.declared.input.Input.{Input}
use Rattle.lay_context.specs.declared.input.Input.TheVariants as input
use Rattle.lay_context.specs.declared.task.Phase.{Phase}
use Rattle.lay_context.specs.Local.{input_of}
use Rattle.lay_context.specs.Medium.{Medium}
use Rattle.lay_context.specs.Workings.{Workings}
use Rattle.lay_shape.specs.declared.cell_key.CellKey.{CellKey}
use Rattle.lay_shape.specs.Keys.{key_of as key_of_cell}
use Rattle.lay_cell_work.specs.declared.root_spot.RootSpot.{RootSpot}
use Rattle.lay_cell_work.specs.CellColumns.{links_of}
use Rattle.lay_cell_work.specs.CellInputs.{CellInput, RootInput}
use Rattle.lay_cell_work.specs.CellLocal.{masked_input}

-- how many roots the context c has: its formatting contexts have the numbers from `first_number contexts c` on
abbrev pub root_count : List Context → ℕ → ℕ
root_count contexts c = roots_before (boxes_in contexts c) (length (boxes_in contexts c))

abbrev pub key_of : List Context → ℕ → Phase → CellKey
key_of contexts c phase = key_of_cell contexts (record { context = c; phase = phase })

-- where the box of the formatting context with the number i stands, if it is an anonymous one
abbrev pub spot_in : List FormattingContext → (first i : ℕ) → Option RootSpot
spot_in all first i =
    let c : FormattingContext = formatting_context_at all i in
    if c.anonymous then Some (record { root = c.outer - first; place = c.outer_box }) else None

-- links are asked for where widths or places are, and the spot where sizes are
abbrev pub asked_links : Input → List (Option ℕ) → List (Option ℕ)
asked_links (input.Size i) links = []
asked_links input.Unmeasured links = []
asked_links _ links = links

abbrev pub asked_spot : Input → Option RootSpot → Option RootSpot
asked_spot (input.Size i) around = around
asked_spot _ around = None

abbrev pub root_input_as : List (Option ℕ) → Option RootSpot → Input → RootInput
root_input_as links around given = record {
  given = masked_input links around given;
  links = asked_links given links;
  around = asked_spot given around;
}

-- what the root with the number i is given
abbrev pub root_input : Medium → List FormattingContext → Workings → (first i : ℕ) → Phase → RootInput
root_input medium all w first i phase =
    root_input_as (links_of all first i) (spot_in all first i) (input_of medium all w (record { context = i; phase = phase }))

-- what the cell of the context c is given for this phase
abbrev pub present_input : Medium → List Context → List FormattingContext → Workings → (c : ℕ) → Phase → CellInput
present_input medium contexts all w c phase = record {
  key = key_of contexts c phase;
  roots =
      map (λ r. root_input medium all w (first_number contexts c) (first_number contexts c + r) phase)
      (range_with_len 0 (root_count contexts c));
}
