-- What editors see of a core after a call is decided by what they saw before, but for want of memory; and which trees a core has.
-- Beside what they see there are the cells, whose numbers tell how the work on them went.
use Rattle.std.specs.Prelude.{ℕ, ◌≡◌, List, [], slice_get, Some}
use Rattle.lay_doc.specs.declared.edit.Edit.{Edit as Change}
use Rattle.lay_doc.specs.Document.{IsDocument}
use Rattle.lay_history.specs.declared.edits.command.Reply.{Reply}
use Rattle.lay_history.specs.declared.edits.command.Reply.TheVariants.{NoMemory}
use Rattle.lay_history.specs.declared.edits.history.Entry.{Entry}
use Rattle.lay_frag.specs.Pieces.{Context}
use Rattle.lay_history.specs.Histories.{accepted, doc_at, shown_version}
use Rattle.lay_history.specs.Legal.{IsWhole}
use Rattle.lay_history.specs.Trees.{tree_at}
use Rattle.lay_context.specs.Solves.{Solves}
use Rattle.lay_core.specs.Publishing.{PublishesTo, RefreshesTo}
use Rattle.lay_core.specs.State.{IsCore, IsCounted, State, is_clean}
use Rattle.lay_core.specs.Steps.{EditsTo, LatestTo, SyncTo}
use Rattle.lay_core.specs.Work.{SettlesTo}
use Rattle.lay_core.specs.declared.answers.Publish.{Publish}
use Rattle.lay_core.specs.declared.answers.Publish.TheVariants.{NoMemory as no_publishing}

-- without the cells and the number of grants
abbrev pub without_cells : State → State
without_cells s = record s { cells = record { rows = []; draws = 0 }; laid = 0 }

-- document, history and trees are the same, and what else editors see
abbrev pub AreSeenAlike : State → State → Type 0
AreSeenAlike s z = without_cells s ≡ without_cells z

-- where cells are settled, nothing is seen of it
abbrev pub OneSettling : Type 0
OneSettling = (s z t u : State) → AreSeenAlike s z → SettlesTo s t → SettlesTo z u → AreSeenAlike t u

-- the present version is published in one way
abbrev pub OneRefreshing : Type 0
OneRefreshing = (s z t u : State) → IsDocument s.document → AreSeenAlike s z → RefreshesTo s t → RefreshesTo z u → AreSeenAlike t u

abbrev pub OnePublishing : Type 0
OnePublishing = (s t u : State) (p q : Publish) → IsDocument s.document → (p ≡ no_publishing → ⊥) → (q ≡ no_publishing → ⊥)
    → PublishesTo s p t → PublishesTo s q u → (p ≡ q) × (t ≡ u)

-- an edit has one reply and leaves one state, also of cells
abbrev pub OneReplyToEdit : Type 0
OneReplyToEdit = (s t u : State) (editor index : ℕ) (edits : List Change) (q r : Reply) → IsCore s → IsCore t
    → (q ≡ NoMemory → ⊥) → (r ≡ NoMemory → ⊥)
    → EditsTo s editor index edits q t → EditsTo s editor index edits r u → (q ≡ r) × (t ≡ u)

-- and what is seen of it comes of what was seen, whatever the cells were
abbrev pub OneSeenEdit : Type 0
OneSeenEdit = (s z t u : State) (editor index : ℕ) (edits : List Change) (q r : Reply) → AreSeenAlike s z
    → (q ≡ NoMemory → ⊥) → (r ≡ NoMemory → ⊥)
    → EditsTo s editor index edits q t → EditsTo z editor index edits r u → (q ≡ r) × AreSeenAlike t u

-- so it is with `Latest`, where some cell was dirty in both or in neither, and with `Sync`
abbrev pub OneLatest : Type 0
OneLatest = (s z t u : State) (editor index : ℕ) (q r : Reply) → IsDocument s.document → AreSeenAlike s z → is_clean s ≡ is_clean z
    → (q ≡ NoMemory → ⊥) → (r ≡ NoMemory → ⊥)
    → LatestTo s editor index q t → LatestTo z editor index r u → (q ≡ r) × AreSeenAlike t u

abbrev pub OneSync : Type 0
OneSync = (s z t u : State) (editor index : ℕ) (q r : Reply) → IsDocument s.document → AreSeenAlike s z
    → (q ≡ NoMemory → ⊥) → (r ≡ NoMemory → ⊥)
    → SyncTo s editor index q t → SyncTo z editor index r u → (q ≡ r) × AreSeenAlike t u

-- the last version has a tree, which is the layout of the document, and each of whose contexts was counted
pub record HasLastTree (s : State) : Type 0 where
  pub tree : List Context
  pub at : tree_at (accepted s.history) s.trees ≡ Some tree
  pub solves : Solves s.document s.face tree
  pub counted : IsCounted s.laid tree

abbrev pub LastTree : Type 0
LastTree = (s : State) → IsCore s → IsWhole s.history → HasLastTree s

-- a version has a tree, which is the layout of its document
pub record HasTreeOf (s : State) (version : ℕ) : Type 0 where
  pub tree : List Context
  pub at : tree_at version s.trees ≡ Some tree
  pub solves : Solves (doc_at s.init s.history version) s.face tree

-- each version that an entry shows has its tree
abbrev pub ShownTrees : Type 0
ShownTrees = (s : State) (k version : ℕ) (e : Entry) → IsCore s → slice_get s.history k ≡ Some e → shown_version e ≡ Some version
    → HasTreeOf s version
