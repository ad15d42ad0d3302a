-- The scripts of the generator's four editors. Editor e changes the block of each fourth section, in batches of so many edits, the last
-- one with what is left, and then asks for the last version.
use Rattle.std.specs.Prelude.{ℕ, zero, suc, ◌+◌, ◌-◌, ◌*◌, ◌/◌, ◌%◌, ◌==◌, Bool, List, [], ◌∷◌, ◌++◌, drop, length, map, take}
use Rattle.std.specs.List.{filter, range_with_len}
use Rattle.lay_style.specs.declared.property.Property.TheVariants.{PaddingLeft}
use Rattle.lay_doc.specs.declared.edit.Edit.{Edit}
use Rattle.lay_doc.specs.declared.edit.Edit.TheVariants.{SetStyle}
use Rattle.lay_history.specs.declared.edits.command.Cmd.{Cmd}
use Rattle.lay_history.specs.declared.edits.command.Cmd.TheVariants.{Edits, Sync}
use Rattle.lay_generator.specs.Draws.{draw, next, state_after}
use Rattle.lay_generator.specs.Nodes.{id, px_value}

-- the left padding of a section's block is the next draw
abbrev pub set_padding : ℕ → ℕ → Edit
set_padding section state = SetStyle (id (4 + 4 * section)) (record { property = PaddingLeft; value = px_value (draw 1 state % 30) })

-- an edit for each of these sections, with a draw each
abbrev pub set_paddings : List ℕ → ℕ → List Edit
set_paddings [] state = []
set_paddings (section ∷ sections) state = set_padding section state ∷ set_paddings sections (next state)

-- whether an editor changes a section
abbrev pub is_section_of : ℕ → ℕ → Bool
is_section_of editor section = section % 4 == editor - 1

-- the sections that an editor changes, among so many
abbrev pub sections_of : ℕ → ℕ → List ℕ
sections_of size editor = filter (is_section_of editor) (range_with_len 0 size)

-- how many edits a full batch has
abbrev pub batch_size : ℕ
batch_size = 64

-- the list of edits that a batch has
abbrev pub batch_at : List Edit → ℕ → List Edit
batch_at edits k = take batch_size (drop (batch_size * k) edits)

-- all edits in batches, in order
abbrev pub batches : List Edit → List Cmd
batches edits = map (λ k. Edits (batch_at edits k)) (range_with_len 0 ((length edits + (batch_size - 1)) / batch_size))

abbrev pub script : ℕ → ℕ → ℕ → List Cmd
script size editor state = batches (set_paddings (sections_of size editor) state) ++ Sync ∷ []

abbrev pub script_end : ℕ → ℕ → ℕ → ℕ
script_end size editor state = state_after (length (sections_of size editor)) state

-- the scripts of so many editors, from one on
abbrev pub scripts : ℕ → ℕ → ℕ → ℕ → List (List Cmd)
scripts size zero editor state = []
scripts size (suc n) editor state = script size editor state ∷ scripts size n (editor + 1) (script_end size editor state)
