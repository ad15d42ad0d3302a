-- The entries of one editor in a history, and beginnings of histories.
use Rattle.std.specs.Prelude.{◌≡◌, ℕ, ◌==◌, if◌then◌else◌, List, [], ◌∷◌, ◌++◌, flat_map}
use Rattle.lay_history.specs.declared.edits.history.Entry.{Entry}
use Rattle.lay_history.specs.declared.edits.history.Entry.TheVariants.{Edit, Publish, Latest, Sync}

-- the entry, where it answers this editor
abbrev pub own_if : ℕ → Entry → List Entry
own_if n (Edit editor index edits reply) = if editor == n then Edit editor index edits reply ∷ [] else []
own_if n (Publish version) = []
own_if n (Latest editor index reply) = if editor == n then Latest editor index reply ∷ [] else []
own_if n (Sync editor index reply) = if editor == n then Sync editor index reply ∷ [] else []

-- the entries of an editor, in order
abbrev pub by_editor : ℕ → List Entry → List Entry
by_editor n history = flat_map (own_if n) history

-- one history goes on from another
abbrev pub Begins : List Entry → List Entry → Type 0
Begins xs ys = (rest : List Entry) × (ys ≡ xs ++ rest)
