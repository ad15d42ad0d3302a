-- A task has one value beside what it is given, and no values give it anything but those of the tasks that it needs, of which each has
-- its turn before it. So a document has one layout, and in that an absolutely positioned box stands in its containing block.
use Rattle.std.specs.Prelude.{ℕ, ◌≡◌, ◌<◌, ◌≤◌, ◌↔◌, true, List, length}
use Rattle.lay_doc.specs.Document.{Document, IsDocument}
use Rattle.lay_frag.specs.Pieces.{Context as PageContext}
use Rattle.lay_face.specs.FaceValue.{FaceValue}
use Rattle.lay_contexts.specs.FormattingContexts.{FormattingContext, AreFormattingContexts, IsInside}
use Rattle.lay_placements.specs.declared.corner.Corner.{Corner}
use Rattle.lay_positioned.specs.Absolute.{is_absolute}
use Rattle.lay_positioned.specs.Levels.{HasLevels}
use Rattle.lay_context.specs.AbsoluteOnPage.{IsSolved, PageLayout, StandsInContainingBlock}
use Rattle.lay_context.specs.Alike.{AreAlikeFor}
use Rattle.lay_context.specs.AllMeasured.{SolvesMeasured}
use Rattle.lay_context.specs.declared.input.Input.{Input}
use Rattle.lay_context.specs.declared.task.Task.{Task}
use Rattle.lay_context.specs.declared.value.Value.{Value}
use Rattle.lay_context.specs.Local.{IsLocal, input_of, value_of_task}
use Rattle.lay_context.specs.Workings.{Workings}
use Rattle.lay_context.specs.Measured.{ShrinksOutward, is_measured}
use Rattle.lay_context.specs.Medium.{Medium}
use Rattle.lay_context.specs.Needs.{Needs, turn_of}
use Rattle.lay_context.specs.PageCorners.{HasPageCorners}
use Rattle.lay_context.specs.PlacedContexts.{PlacedContext}
use Rattle.lay_context.specs.Solves.{Solves, medium_of}

-- beside what it is given a task has one value
abbrev pub OneLocal : Type 0
OneLocal = (i : Input) (v w : Value) → IsLocal i v → IsLocal i w → v ≡ w

-- Among formatting contexts that are alike for a task it is given the same where the values that it needs are equal.
abbrev pub InputsComeOfNeeds : Type 0
InputsComeOfNeeds = (medium : Medium) (a b : List FormattingContext) (v w : Workings) (task : Task)
    → AreFormattingContexts a → AreFormattingContexts b → task.context < length a → task.context < length b → AreAlikeFor a b task
    → ((needed : Task) → Needs a task needed → value_of_task v needed ≡ value_of_task w needed)
    → input_of medium a v task ≡ input_of medium b w task

-- one is measured just where its own box or one around it may shrink to fit
abbrev pub MeasuredWhereShrunk : Type 0
MeasuredWhereShrunk = (contexts : List FormattingContext) (i : ℕ) → AreFormattingContexts contexts → i < length contexts
    → (is_measured contexts i ≡ true) ↔ ShrinksOutward contexts i

-- what is inside one that is measured is measured, as its widths count for those around it
abbrev pub MeasuredGoesInward : Type 0
MeasuredGoesInward = (contexts : List FormattingContext) (i j : ℕ) → AreFormattingContexts contexts → i < length contexts
    → IsInside contexts i j → is_measured contexts i ≡ true → is_measured contexts j ≡ true

-- to work out the preferred widths of each formatting context changes no tree
abbrev pub MeasuringAllChangesNoTree : Type 0
MeasuringAllChangesNoTree = (d : Document) (face : FaceValue) (s t : List PageContext) → IsDocument d → (solves : Solves d face s)
    → SolvesMeasured (medium_of d face) solves.formatting_contexts t → s ≡ t

-- what a task needs has its turn before
pub record HasEarlierTurn (contexts : List FormattingContext) (levels : List ℕ) (task needed : Task) : Type 0 where
  pub within : needed.context < length contexts
  pub earlier : turn_of levels needed < turn_of levels task

abbrev pub NeedsComeFirst : Type 0
NeedsComeFirst = (contexts : List FormattingContext) (levels : List ℕ) (task needed : Task) → AreFormattingContexts contexts
    → HasLevels contexts levels → task.context < length contexts → Needs contexts task needed
    → HasEarlierTurn contexts levels task needed

-- formatting contexts that are placed so stand on the page in one way
abbrev pub OnePageCorners : Type 0
OnePageCorners = (contexts : List FormattingContext) (places : List PlacedContext) (x y : List Corner) → AreFormattingContexts contexts
    → HasPageCorners contexts places x → HasPageCorners contexts places y → x ≡ y

-- where the values of formatting contexts meet their equations, each absolutely positioned one stands in its containing block on the
-- page
abbrev pub AbsoluteBoxesStandInContainingBlocks : Type 0
AbsoluteBoxesStandInContainingBlocks = (medium : Medium) (p : PageLayout) (i : ℕ) → AreFormattingContexts p.contexts → IsSolved medium p
    → i < length p.contexts → is_absolute p.contexts i ≡ true → StandsInContainingBlock medium.viewport p i

-- two trees that solve one document in one face are equal
abbrev pub OneSolution : Type 0
OneSolution = (d : Document) (face : FaceValue) (s t : List PageContext) → IsDocument d → Solves d face s → Solves d face t → s ≡ t

-- and a tree that solves it has no more contexts than it has nodes
abbrev pub LayoutsAreShort : Type 0
LayoutsAreShort = (d : Document) (face : FaceValue) (tree : List PageContext) → Solves d face tree → length tree ≤ length d.nodes
