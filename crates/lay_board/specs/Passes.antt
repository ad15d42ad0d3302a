-- What passes know, and what a call adds to it.
use Rattle.std.specs.Prelude.{◌≡◌, ℕ, ◌+◌, ◌<◌, ◌≤◌, List, [], ◌∷◌, ◌++◌, length, slice_get, Option, Some, None}
use Rattle.atomic_table.specs.Seated.{TableId}
use Rattle.lay_history.specs.declared.edits.history.Entry.{Entry}
use Rattle.lay_history.specs.Legal.{IsLegal}
use Rattle.lay_core.specs.State.{State}
use Rattle.lay_board.specs.Cores.{origin_with}
use Rattle.lay_board.specs.Entries.{Begins, by_editor}
use Rattle.lay_board.specs.Rules.{MeetsPass, SeatView, held_by, maker_view, pass_view}
use Rattle.lay_board.specs.declared.views.MakerView.{MakerView}
use Rattle.lay_board.specs.declared.views.Origin.{Origin}
use Rattle.lay_board.specs.declared.views.PassView.{PassView}

-- which table a pass is of, and what it knows
pub record PassOf : Type 0 where
  pub table : TableId
  pub knows : PassView

abbrev pub nowhere : Origin
nowhere = origin_with
    record { width = 0; height = 0; nodes = [] }
    record { table = []; default_advance = 0; ascent = 0; descent = 0; x_height = 0; normal_line_height = 0 }

-- the pass with this number, which knows nothing yet and may make so many calls
abbrev pub new_pass : Origin → ℕ → ℕ → PassView
new_pass origin number left = record { origin = origin; number = number; left = left; known = []; own = []; seen = 0; looks = 0 }

abbrev pub of_option : Option PassView → PassView
of_option None = new_pass nowhere 0 0
of_option (Some p) = p

abbrev pub known_of : SeatView → PassView
known_of me = of_option me.0.pass

-- what a pass keeps beside its seat
pub record IsPass (me : SeatView) (editor index left seen : ℕ) : Type 0 where
  pub me_is : me ≡ (pass_view (known_of me), [])
  pub editor_is : editor ≡ (known_of me).number
  pub index_is : index ≡ length (known_of me).own
  pub left_is : left ≡ (known_of me).left
  pub seen_is : seen ≡ (known_of me).seen
  pub legal : IsLegal (known_of me).origin.document (known_of me).known
  pub own : (known_of me).own ≡ by_editor (known_of me).number (known_of me).known
  pub few : index + left ≤ 8192

-- What a call is to a pass that it had this entry in: the pass knows a legal history now, which goes on from the one that it knew and is
-- longer than it ever saw it. The entry is the last of it, and its editor's are just those that the pass knew of, and then this one.
pub record Calls (old new : PassView) (entry : Entry) : Type 0 where
  pub number : new.number ≡ old.number
  pub origin : new.origin ≡ old.origin
  pub left : new.left + 1 ≡ old.left
  pub prefix : Begins old.known new.known
  pub own : new.own ≡ old.own ++ entry ∷ []
  pub last : (before : List Entry) × (new.known ≡ before ++ entry ∷ [])
  pub further : old.seen < length new.known
  pub seen : new.seen ≡ length new.known
  pub looks : new.looks ≡ old.looks
  pub own_is : new.own ≡ by_editor new.number new.known
  pub legal : IsLegal new.origin.document new.known

-- the turn of a pass that has taken the core: what its seat knows, the numbers of its call, and the length of the history before
pub record IsTurn (p : PassView) (core : State) (me : SeatView) (editor index left before : ℕ) : Type 0 where
  pub me_is : me ≡ (held_by (pass_view p) core, (0, None) ∷ [])
  pub meets : MeetsPass core p
  pub editor_is : editor ≡ p.number
  pub index_is : index ≡ length p.own
  pub left_is : left ≡ p.left
  pub some : 0 < left
  pub few : index + left ≤ 8192
  pub before_is : before ≡ length core.history

-- what contracts see of an engine: its table, and what it was started with
pub record EngineOf : Type 0 where
  pub table : TableId
  pub origin : Origin

-- and of who closes it: what it was started with, and how many passes were made
pub record CloserOf : Type 0 where
  pub table : TableId
  pub origin : Origin
  pub made : ℕ

abbrev pub maker_or : Option MakerView → MakerView
maker_or None = record { origin = nowhere; made = 0; calls = [] }
maker_or (Some m) = m

abbrev pub maker_in : SeatView → MakerView
maker_in me = maker_or me.0.maker

pub record IsCloser (me : SeatView) (made : ℕ) : Type 0 where
  pub me_is : me ≡ (maker_view (maker_in me).origin (maker_in me).made (maker_in me).calls, [])
  pub made_is : made ≡ (maker_in me).made

-- one pass for each of these numbers of calls, numbered from 1
pub record AreNew (table : TableId) (origin : Origin) (calls : List ℕ) (passes : List PassOf) : Type 0 where
  pub count : length passes ≡ length calls
  pub each : (i : ℕ) (p : PassOf) → slice_get passes i ≡ Some p
      → (left : ℕ) × (slice_get calls i ≡ Some left) × (p ≡ record { table = table; knows = new_pass origin (i + 1) left })

-- the history goes on from what the pass knows, and has its own entries and no others of it
pub record IsKnownIn (history : List Entry) (p : PassOf) : Type 0 where
  pub known : Begins p.knows.known history
  pub own : p.knows.own ≡ by_editor p.knows.number history
