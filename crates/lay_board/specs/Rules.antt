-- The rule of the table that the core lies in, and what its steps tell those who make them.
use Rattle.std.specs.Prelude.{◌≡◌, ◌⊎◌, ℕ, ◌<◌, ◌≤◌, ◌+◌, ◌-◌, ◌^◌, List, [], ◌∷◌, length, sum, Option, Some, None, IfSome, MatchBool, ◌==◌}
use mathlib.Core.Option as opt
use lib.ListN.{get_elem?}
use Rattle.atomic_table.specs.Table.{State as Table, Me, Step}
use Rattle.lay_history.specs.declared.edits.history.Entry.{Entry}
use Rattle.lay_board.specs.declared.views.PassView.{PassView}
use Rattle.lay_board.specs.declared.views.MakerView.{MakerView}
use Rattle.lay_board.specs.declared.views.View.{View}
use Rattle.lay_core.specs.State.{State}
use Rattle.lay_board.specs.Cores.{most_draws, origin_of}
use Rattle.lay_board.specs.declared.views.Origin.{Origin}
use Rattle.lay_board.specs.Entries.{by_editor, Begins}

-- what a place of the views is, by a reading of them
abbrev pub At : {A : Type 0} → (View → Option A) → List View → ℕ → A → Type 0
At read views j a = (v : View) × (get_elem? views j ≡ opt.some v) × (read v ≡ Some a)

abbrev pub pass_of : View → Option PassView
pass_of v = v.pass

abbrev pub guest_of : View → Option Origin
guest_of v = v.guest

abbrev pub hold_of : View → Option State
hold_of v = v.hold

abbrev pub maker_of : View → Option MakerView
maker_of v = v.maker

abbrev pub met_of : View → Option PassView
met_of v = v.met

abbrev pub left_of_pass : Option PassView → ℕ
left_of_pass None = 0
left_of_pass (Some p) = p.left

abbrev pub left_of_maker : Option MakerView → ℕ
left_of_maker None = 0
left_of_maker (Some m) = sum m.calls

-- the calls that a seat may make or give
abbrev pub view_calls : View → ℕ
view_calls v = left_of_maker v.maker + left_of_pass v.pass

abbrev pub all_calls : List View → ℕ
all_calls [] = 0
all_calls (v ∷ vs) = view_calls v + all_calls vs

-- the history begins with what a pass knows, and has its own entries and no others of it
pub record Fits (origin : Origin) (made : ℕ) (log : List Entry) (p : PassView) : Type 0 where
  pub origin_is : p.origin ≡ origin
  pub known : Begins p.known log
  pub own : p.own ≡ by_editor p.number log
  pub seen : p.seen ≤ length log
  pub far : length p.known ≤ p.seen
  pub number : p.number ≤ made
  pub from : 0 < p.number

-- no pass that was made has this number
abbrev pub IsNoEditor : ℕ → ℕ → Type 0
IsNoEditor made n = (n ≡ 0) ⊎ (made < n)

-- a core with this history, which has so many calls left
pub record IsCoreOf (origin : Origin) (log : List Entry) (room : ℕ) (core : State) : Type 0 where
  pub origin_is : origin_of core ≡ origin
  pub history : core.history ≡ log
  pub calls : core.calls_left ≡ room
  pub draws : core.cells.draws ≤ most_draws room

pub record IsKept (origin : Origin) (s : Table (Option State) View) : Type 0 where
  pub log : List Entry
  pub lock : ℕ
  pub made : ℕ
  pub room : ℕ
  pub words : s.words ≡ length log ∷ lock ∷ []
  pub home : lock ≡ 0 → (core : State) × (get_elem? s.homes 0 ≡ opt.some (opt.some (Some core))) × IsCoreOf origin log room core
  pub free : lock ≡ 0 → (j : ℕ) (h : State) → At hold_of s.views j h → ⊥
  pub holds : (j : ℕ) (h : State) → At hold_of s.views j h → IsCoreOf origin log room h
  pub one : (j k : ℕ) (h g : State) → At hold_of s.views j h → At hold_of s.views k g → j ≡ k
  pub passes : (j : ℕ) (p : PassView) → At pass_of s.views j p → Fits origin made log p
  pub apart : (j k : ℕ) (p q : PassView) → At pass_of s.views j p → At pass_of s.views k q → p.number ≡ q.number → j ≡ k
  pub maker : (j : ℕ) (m : MakerView) → At maker_of s.views j m → (m.made ≡ made) × (m.origin ≡ origin)
  pub lone : (j k : ℕ) (m n : MakerView) → At maker_of s.views j m → At maker_of s.views k n → j ≡ k
  pub guests : (j : ℕ) (o : Origin) → At guest_of s.views j o → o ≡ origin
  pub met : (j : ℕ) (p : PassView) → At met_of s.views j p → Fits origin made log p × ((h : State) × At hold_of s.views j h)
  pub unmade : (n : ℕ) → IsNoEditor made n → by_editor n log ≡ []
  pub few : all_calls s.views ≤ room
  pub some : room ≤ 8192

abbrev pub SeatView : Type 0
SeatView = Me (Option State) View

-- that of a seat that knows nothing
abbrev pub blank_view : View
blank_view = record { maker = None; pass = None; guest = None; hold = None; met = None }

abbrev pub guest_view : Origin → View
guest_view origin = record { maker = None; pass = None; guest = Some origin; hold = None; met = None }

abbrev pub maker_view : Origin → ℕ → List ℕ → View
maker_view origin made calls = record {
  maker = Some record { origin = origin; made = made; calls = calls };
  pass = None;
  guest = None;
  hold = None;
  met = None;
}

abbrev pub pass_view : PassView → View
pass_view p = record { maker = None; pass = Some p; guest = None; hold = None; met = None }

abbrev pub held_by : View → State → View
held_by v core = record v { hold = Some core }

-- what the core says of a pass
pub record MeetsPass (core : State) (p : PassView) : Type 0 where
  pub origin : origin_of core ≡ p.origin
  pub known : Begins p.known core.history
  pub own : p.own ≡ by_editor p.number core.history
  pub seen : p.seen ≤ length core.history
  pub left : p.left ≤ core.calls_left

-- what it says of who makes passes
pub record MeetsMaker (core : State) (m : MakerView) : Type 0 where
  pub origin : origin_of core ≡ m.origin
  pub draws : core.cells.draws ≤ 2 ^ 63 + 2 ^ 50
  pub unmade : (n : ℕ) → IsNoEditor m.made n → by_editor n core.history ≡ []

-- what it says of a guest
abbrev pub MeetsGuest : State → Origin → Type 0
MeetsGuest core origin = origin_of core ≡ origin

-- what it says of who takes it
pub record MeetsSeat (core : State) (v : View) : Type 0 where
  pub pass : IfSome v.pass (MeetsPass core)
  pub maker : IfSome v.maker (MeetsMaker core)
  pub guest : IfSome v.guest (MeetsGuest core)

-- a seat that has no core takes it, or the core is out
abbrev pub TakesIt : Step (Option State) → SeatView → ℕ → SeatView → Type 0
TakesIt s me found new =
    MatchBool (found == 0)
    ((core : State) × (new ≡ (record (me.0) { hold = Some core }, (0, Some core) ∷ [])) × MeetsSeat core me.0)
    (new ≡ me)

-- the core that is out with the seat, or else what it knew of it
abbrev pub carried : List (ℕ × Option State) → Option State → Option State
carried [] h = h
carried (x ∷ xs) h = of_slot x.1
  where
    of_slot : Option State → Option State
    of_slot None = h
    of_slot (Some core) = Some core

-- the pass after a call
abbrev pub grown : State → PassView → PassView
grown core p = record p { left = p.left - 1; known = core.history; own = by_editor p.number core.history; seen = length core.history }

abbrev pub grown_by : Option State → Option PassView → Option PassView
grown_by (Some core) (Some p) = Some (grown core p)
grown_by None p = p
grown_by (Some core) None = None

-- all are told of the history of the core that is out, in which the pass has made a call
abbrev pub TellsIt : Step (Option State) → SeatView → ℕ → SeatView → Type 0
TellsIt s me found new = new ≡ (record (me.0) { hold = carried me.1 me.0.hold; pass = grown_by (carried me.1 me.0.hold) me.0.pass }, me.1)

-- the core goes home
abbrev pub GivesIt : Step (Option State) → SeatView → ℕ → SeatView → Type 0
GivesIt s me found new = new ≡ (record (me.0) { hold = None }, [])

abbrev pub looked : ℕ → Option PassView → Option PassView
looked found None = None
looked found (Some p) = Some (record p { seen = found; looks = p.looks + 1 })

abbrev pub LooksIt : Step (Option State) → SeatView → ℕ → SeatView → Type 0
LooksIt s me found new = IfSome me.0.pass (λ p. p.seen ≤ found) × (new ≡ (record (me.0) { pass = looked found me.0.pass }, me.1))

-- A guest comes. It is told what the maker of passes was told at first.
abbrev pub ComesIt : Step (Option State) → SeatView → ℕ → SeatView → Type 0
ComesIt s me found new = IfSome me.0.maker (λ m. new ≡ (guest_view m.origin, []))

abbrev pub after_make : Option MakerView → Option MakerView
after_make None = None
after_make (Some m) = of_calls m.calls
  where
    of_calls : List ℕ → Option MakerView
    of_calls [] = Some m
    of_calls (n ∷ ns) = Some (record m { made = m.made + 1; calls = ns })

abbrev pub made_pass : Option MakerView → Option PassView
made_pass None = None
made_pass (Some m) = of_calls m.calls
  where
    of_calls : List ℕ → Option PassView
    of_calls [] = None
    of_calls (n ∷ ns) = Some record { origin = m.origin; number = m.made + 1; left = n; known = []; own = []; seen = 0; looks = 0 }

abbrev pub maker_after : View → View
maker_after v = record v { maker = after_make v.maker }

abbrev pub next_pass : View → View
next_pass v = record { maker = None; pass = made_pass v.maker; guest = None; hold = None; met = None }

-- who has the core meets a pass
abbrev pub meeting : View → View → View
meeting v w = record v { met = w.pass }

abbrev pub LearnsIt : Step (Option State) → SeatView → ℕ → SeatView → Type 0
LearnsIt s me found new =
    (new ≡ (record (me.0) { met = None }, me.1))
    × IfSome me.0.hold (λ h. IfSome me.0.met (λ p. Begins p.known h.history × (p.own ≡ by_editor p.number h.history)))
