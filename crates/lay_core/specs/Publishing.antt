-- How a version is published: it is the present one, each cell is clean, and its tree is the layout of the document.
use Rattle.std.specs.Prelude.{ℕ, ◌≡◌, ◌≢◌, ◌==◌, ◌⊎◌, List, [], ◌∷◌, ◌++◌, Bool, true, false, Option, Some, None}
use Rattle.lay_history.specs.declared.edits.history.Entry.TheVariants.{Publish as publication}
use Rattle.lay_frag.specs.Pieces.{Context}
use Rattle.lay_cells.specs.Reads.{AllClean, IsFirstDirtyKey}
use Rattle.lay_history.specs.Histories.{accepted, last_published}
use Rattle.lay_context.specs.Solves.{Solves}
use Rattle.lay_core.specs.State.{IsCounted, State, is_clean}
use Rattle.lay_core.specs.Work.{SettlesTo}
use Rattle.lay_core.specs.declared.answers.Publish.{Publish}
use Rattle.lay_core.specs.declared.answers.Publish.TheVariants.{Published, Unsettled, NoMemory}

abbrev pub is_version : Option ℕ → ℕ → Bool
is_version None count = false
is_version (Some version) count = version == count

-- whether the present version was published last
abbrev pub is_last : State → Bool
is_last s = is_version (last_published s.history) (accepted s.history)

-- with this tree published as that of the present version
abbrev pub with_tree : State → List Context → State
with_tree s tree = record s {
  history = s.history ++ publication (accepted s.history) ∷ [];
  trees = s.trees ++ record { version = accepted s.history; tree = tree } ∷ [];
}

-- the layout of the document is published
pub record PublishesTree (s t : State) : Type 0 where
  pub tree : List Context
  pub solves : Solves s.document s.face tree
  pub counted : IsCounted s.laid tree
  pub state : t ≡ with_tree s tree

abbrev pub PublishesUnless : (is_published : Bool) → State → State → Type 0
PublishesUnless true s t = t ≡ s
PublishesUnless false s t = PublishesTree s t

-- so it is, unless the present version was published last
abbrev pub Publishes : State → State → Type 0
Publishes s t = PublishesUnless (is_last s) s t

-- a version is to be published, with this answer
abbrev pub PublishesTo : State → Publish → State → Type 0
PublishesTo s (Published version) t = AllClean s.cells.rows × (version ≡ accepted s.history) × Publishes s t
PublishesTo s (Unsettled key) t = IsFirstDirtyKey s.cells.rows key × (t ≡ s)
PublishesTo s NoMemory t = AllClean s.cells.rows × (is_last s ≡ false) × (t ≡ s)

-- the cells are settled, and the present version is published, unless it is
pub record RefreshesTo (s t : State) : Type 0 where
  pub settled : State
  pub settles : SettlesTo s settled
  pub publishes : Publishes settled t

-- why the present version may have to be made, for which memory may be wanting: some cell is dirty, or that version isn't the one that was
-- published last
abbrev pub IsBehind : State → Type 0
IsBehind s = (is_clean s ≡ false) ⊎ (last_published s.history ≢ Some (accepted s.history))
