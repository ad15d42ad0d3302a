-- A list of edits, which a document takes whole or not at all. Its edits are read in order: each meets the document as those before it
-- leave it. The first fault of a list is that at the least place, counted from 0, whose edit has one there.
use Rattle.std.specs.Prelude.{ℕ, suc, ◌≡◌, ◌+◌, ◌<◌, ◌≤◌, List, [], ◌∷◌, length, take, fold}
use Rattle.std.specs.Prelude.{slice_get, Option, Some, None, option_map, option_and_then}
use Rattle.lay_doc.specs.declared.edit.Edit.{Edit}
use Rattle.lay_doc.specs.declared.edit.EditFault.{EditFault}
use Rattle.lay_doc.specs.Document.{Document}
use Rattle.lay_doc.specs.Edits.{fault, after}

-- a list has 1 to 1,024 edits
pub record IsEditList (edits : List Edit) : Type 0 where
  pub some : 1 ≤ length edits
  pub few : length edits ≤ 1024

-- the document after all edits, in order
abbrev pub after_all : Document → List Edit → Document
after_all d edits = fold after d edits

-- the fault of the edit at a place, in the document after the edits before it
abbrev pub fault_at : Document → List Edit → ℕ → Option EditFault
fault_at d edits place = option_and_then (λ e. fault (after_all d (take place edits)) e) (slice_get edits place)

-- the least place at which there is a fault, with that fault; or that no place has one
abbrev pub IsFirst : Document → List Edit → Option (ℕ × EditFault) → Type 0
IsFirst d edits None = (place : ℕ) → fault_at d edits place ≡ None
IsFirst d edits (Some (place, f)) = (fault_at d edits place ≡ Some f) × ((before : ℕ) → before < place → fault_at d edits before ≡ None)

-- the first fault of one more edit before others: its own at place 0, or else that of the others, one place further behind
abbrev pub first_or : Option EditFault → Option (ℕ × EditFault) → Option (ℕ × EditFault)
first_or None others = option_map (λ p. (suc p.0, p.1)) others
first_or (Some f) others = Some (0, f)

-- the first fault of a list, with its place
abbrev pub first : Document → List Edit → Option (ℕ × EditFault)
first d [] = None
first d (e ∷ es) = first_or (fault d e) (first (after d e) es)

-- that of a list whose places begin behind so many others
abbrev pub behind : ℕ → Option (ℕ × EditFault) → Option (ℕ × EditFault)
behind count o = option_map (λ p. (count + p.0, p.1)) o
