-- What holds of the formatting contexts of a document.
use Rattle.std.specs.Prelude.{ℕ, ◌≡◌, ◌↔◌, ◌<◌, true, not, List, length, map, slice_index}
use Rattle.std.specs.List.{filter}
use Rattle.lay_style.specs.declared.style.Style.{Style}
use Rattle.lay_doc.specs.Document.{Document, IsDocument}
use Rattle.lay_box_tree.specs.Roles.{role_at}
use Rattle.lay_box_tree.specs.declared.box_role.Role.TheVariants.{Anchor}
use Rattle.lay_box_tree.specs.declared.box_tree.Flow.TheVariants.{Absolute}
use Rattle.lay_contexts.specs.Contexts.{Context, AreContexts, boxes_in}
use Rattle.lay_contexts.specs.ContextList.{AreContextsOf}
use Rattle.lay_contexts.specs.FormattingBoxes.{as_member, as_own, rank}
use Rattle.lay_box_tree.specs.BoxColumns.{box_at}
use Rattle.lay_contexts.specs.FormattingContexts.{FormattingContext, AreFormattingContexts, boxes_in as boxes_of, formatting_context_at}
use Rattle.lay_contexts.specs.FormattingContextList.{AreFormattingContextsOf, homes_in, number_of}
use Rattle.lay_contexts.specs.Homes.{is_root}

-- Contexts have one list of formatting contexts.
abbrev pub OneFormattingContextList : Type 0
OneFormattingContextList = (contexts : List Context) (x y : List FormattingContext) → AreContexts contexts
    → AreFormattingContextsOf contexts x → AreFormattingContextsOf contexts y → x ≡ y

-- They stand in order, each behind the one around it.
abbrev pub FormattingContextsStandInOrder : Type 0
FormattingContextsStandInOrder = (contexts : List Context) (all : List FormattingContext)
    → AreContexts contexts → AreFormattingContextsOf contexts all
    → AreFormattingContexts all

-- Out of one to its box in the one around it, and inside again there, leads back to it.
abbrev pub InnerNumbersLeadBack : Type 0
InnerNumbersLeadBack = (d : Document) (styles : List Style) (contexts : List Context) (all : List FormattingContext) (j : ℕ)
    → IsDocument d → length styles ≡ length d.nodes
    → AreContextsOf d.nodes styles contexts → AreFormattingContextsOf contexts all → 0 < j → j < length all
    → slice_index (formatting_context_at all (formatting_context_at all j).outer).inner (formatting_context_at all j).outer_box ≡ j

-- Its box there is an anchor just where its own box is absolutely positioned (9.6).
abbrev pub AnchorsStandForAbsoluteBoxes : Type 0
AnchorsStandForAbsoluteBoxes = (d : Document) (styles : List Style) (contexts : List Context) (all : List FormattingContext) (j : ℕ)
    → IsDocument d → length styles ≡ length d.nodes
    → AreContextsOf d.nodes styles contexts → AreFormattingContextsOf contexts all → 0 < j → j < length all
    → ((box_at (boxes_of all j) 0).flow ≡ Absolute)
    ↔ (role_at (boxes_of all (formatting_context_at all j).outer) (formatting_context_at all j).outer_box ≡ Anchor)

-- the box stands at this place in the formatting context with this number
pub record StandsAt (all : List FormattingContext) (number place : ℕ) (contexts : List Context) (homes : List (List ℕ)) (i k : ℕ)
    : Type 0 where
  pub within : number < length all
  pub inside : place < length (boxes_of all number)
  pub box : box_at (boxes_of all number) place ≡ as_member (boxes_in contexts i) (homes_in homes i) k

-- Each box of a context but its own stands in the list of its home.
abbrev pub BoxesStandAtHome : Type 0
BoxesStandAtHome = (contexts : List Context) (all : List FormattingContext) (of : AreFormattingContextsOf contexts all) (i k : ℕ)
    → AreContexts contexts
    → i < length contexts → 0 < k → k < length (boxes_in contexts i)
    → (let homes : List ℕ =
    homes_in of.homes i in StandsAt all (number_of contexts i (slice_index homes k)) (rank homes k) contexts of.homes i k)

-- And each root stands first in its own.
abbrev pub RootsStandFirst : Type 0
RootsStandFirst = (contexts : List Context) (all : List FormattingContext) (i r : ℕ) → AreFormattingContextsOf contexts all
    → i < length contexts → r < length (boxes_in contexts i) → is_root (boxes_in contexts i) r ≡ true
    → box_at (boxes_of all (number_of contexts i r)) 0 ≡ as_own (box_at (boxes_in contexts i) r)

-- those that aren't of anonymous tables and cells
abbrev pub of_elements : List FormattingContext → List FormattingContext
of_elements all = filter (λ f. not f.anonymous) all

-- The formatting contexts of elements are the contexts in their order, known by their own boxes.
abbrev pub ElementsAreContexts : Type 0
ElementsAreContexts = (contexts : List Context) (all : List FormattingContext) → AreContexts contexts → AreFormattingContextsOf contexts all
    → map (λ f. box_at f.boxes 0) (of_elements all) ≡ map (λ c. box_at c.boxes 0) contexts

-- no anonymous table or cell is in the context i
abbrev pub HasNoInnerRoots : List Context → ℕ → Type 0
HasNoInnerRoots contexts i = (k : ℕ) → 0 < k → k < length (boxes_in contexts i) → is_root (boxes_in contexts i) k ≡ true → ⊥

-- In a context without anonymous tables and cells the formatting context has the same boxes.
abbrev pub WholeContextsKeepBoxes : Type 0
WholeContextsKeepBoxes = (contexts : List Context) (all : List FormattingContext) (i : ℕ)
    → AreContexts contexts → AreFormattingContextsOf contexts all
    → i < length contexts → HasNoInnerRoots contexts i
    → boxes_of all (number_of contexts i 0) ≡ boxes_in contexts i
