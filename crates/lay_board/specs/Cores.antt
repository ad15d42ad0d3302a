-- What steps of a core are to those who know of it its origin, its history and how many calls are left.
use Rattle.std.specs.Prelude.{◌≡◌, ◌≢◌, ◌⊎◌, ℕ, ◌+◌, ◌-◌, ◌*◌, ◌^◌, ◌≤◌, List, [], ◌∷◌, ◌++◌}
use Rattle.lay_doc.specs.Document.{Document}
use Rattle.lay_face.specs.FaceValue.{FaceValue}
use Rattle.lay_history.specs.declared.edits.history.Entry.{Entry}
use Rattle.lay_core.specs.State.{State}
use Rattle.lay_board.specs.Entries.{by_editor}
use Rattle.lay_board.specs.declared.table.Terms.{Terms}
use Rattle.lay_board.specs.declared.views.Origin.{Origin}

abbrev pub origin_with : Document → FaceValue → Origin
origin_with document face = record { document = document; face = face }

-- that of a table that was told these terms
abbrev pub origin_told : Terms → Origin
origin_told k = origin_with k.document.value k.face.value

abbrev pub origin_of : State → Origin
origin_of s = record { document = s.init; face = s.face }

-- the most numbers that are drawn while so many calls are left
abbrev pub most_draws : ℕ → ℕ
most_draws room = 2 ^ 63 + 2 ^ 20 * (8193 - room)

-- neither the history nor what comes with it is changed
pub record IsQuiet (s t : State) : Type 0 where
  pub origin : origin_of t ≡ origin_of s
  pub history : t.history ≡ s.history
  pub calls_left : t.calls_left ≡ s.calls_left
  pub draws : (t.cells.draws ≤ s.cells.draws) ⊎ (t.cells.draws ≤ 2 ^ 63 + 2 ^ 20)

-- The history is longer by some entries, of which the last is this one, of this editor, and the others are nobody's. A call is used up.
pub record Adds (number : ℕ) (s : State) (entry : Entry) (t : State) : Type 0 where
  pub origin : origin_of t ≡ origin_of s
  pub more : List Entry
  pub history : t.history ≡ s.history ++ more
  pub left : t.calls_left + 1 ≡ s.calls_left
  pub draws : t.cells.draws ≤ s.cells.draws + 2 ^ 20
  pub before : List Entry
  pub last : more ≡ before ++ entry ∷ []
  pub own : by_editor number more ≡ entry ∷ []
  pub others : (n : ℕ) → n ≢ number → by_editor n more ≡ []
