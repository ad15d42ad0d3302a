-- What an edit of the declarations or the text of one node reaches: this node and those below it, whose styles come of its (CSS 2.2, 6.2),
-- and so the boxes of the contexts that have one of these nodes among their own (9.4.1): theirs, and the nearest one around the first.
use Rattle.std.specs.Prelude.{ℕ, ⊤, ◌≡◌, ◌<◌, ◌≤◌, ◌⊎◌, Bool, false, List, length, slice_get, slice_index, Some}
use Rattle.std.specs.List.{list_all}
use Rattle.lay_style.specs.declared.style.Style.{Style}
use Rattle.lay_style.specs.ComputedStyle.{style_at}
use Rattle.lay_style.specs.Places.{place_of}
use Rattle.lay_doc.specs.declared.node.Node.{Node}
use Rattle.lay_doc.specs.declared.edit.Edit.{Edit}
use Rattle.lay_doc.specs.declared.edit.Edit.TheVariants.{SetStyle, ClearStyle, SetText}
use Rattle.lay_doc.specs.Document.{Document, ids_of, parents_of}
use Rattle.lay_doc.specs.Tree.{end_of}
use Rattle.lay_boxgen.specs.WhiteSpace.{is_white_byte}
use Rattle.lay_contexts.specs.ContextTree.{IsAround}
use Rattle.lay_contexts.specs.Contexts.{Context, context_at}
use Rattle.lay_after_edits.specs.declared.contexts.reach.Reach.{Reach}
use Rattle.lay_after_edits.specs.Contexts.Links.{is_made}

-- the edit changes declarations or the text of the node with this id, and no other node
abbrev pub IsChange : Edit → ℕ → Type 0
IsChange (SetStyle node decl) id = node.0 ≡ id
IsChange (ClearStyle node property) id = node.0 ≡ id
IsChange (SetText node text) id = node.0 ≡ id
IsChange _ id = ⊥

-- these are the places of the elements of contexts
pub record ArePlacesOf (contexts : List Context) (places : List ℕ) : Type 0 where
  pub count : length places ≡ length contexts
  pub each : (i : ℕ) → i < length contexts → slice_index places i ≡ (context_at contexts i).place

-- the nodes from the one with this id on, and behind the last one below it; and the number of the context around it, if it has one
pub record IsEditReach (nodes : List Node) (styles : List Style) (places : List ℕ) (id : ℕ) (r : Reach) : Type 0 where
  pub subject : place_of id (ids_of nodes) ≡ Some r.from
  pub until_is : r.until ≡ end_of (parents_of nodes) r.from
  pub around_is : (i : ℕ) → i < length places → IsAround nodes styles r.from (slice_index places i) → r.around ≡ Some i

-- the context with the number i and its element at this place is reached
abbrev pub IsReachedContext : Reach → (i place : ℕ) → Type 0
IsReachedContext r i place = (r.around ≡ Some i) ⊎ ((r.from ≤ place) × (place < r.until))

-- of the first n contexts, those without a flag aren't reached
pub record AreReachFlags (r : Reach) (places : List ℕ) (flags : List Bool) (n : ℕ) : Type 0 where
  pub count : length flags ≡ n
  pub each : (i : ℕ) → i < n → is_made flags i ≡ false → IsReachedContext r i (slice_index places i) → ⊥

-- The parts of a style by which box generation goes: the used `display` (9.7), the flow, what establishes a context (9.4.1), and whether
-- white space collapses (16.6.1). Of `position` the boxes that hold absolutely positioned ones (10.1) come too.
pub record IsAlike (s t : Style) : Type 0 where
  pub display : s.display ≡ t.display
  pub position : s.position ≡ t.position
  pub float : s.float ≡ t.float
  pub overflow : s.overflow ≡ t.overflow
  pub white_space : s.text.white_space ≡ t.text.white_space

-- these styles are alike from a place up to another one
abbrev pub AreAlike : (styles others : List Style) (from until : ℕ) → Type 0
AreAlike styles others from until = (k : ℕ) → from ≤ k → k < until → IsAlike (style_at styles k) (style_at others k)

-- A text has more than white space, so that a box is generated of it whatever its style is (9.2.2.1 and 16.6.1).
abbrev pub IsTextSeen : List ℕ → Type 0
IsTextSeen text = list_all is_white_byte text ≡ false

-- so has the text of the node at a place
abbrev pub IsSeenAt : List Node → ℕ → Type 0
IsSeenAt nodes place = (n : Node) → slice_get nodes place ≡ Some n → IsTextSeen n.text

-- texts that are one, or of which a box is generated whatever the style is
abbrev pub AreTextsAlike : List ℕ → List ℕ → Type 0
AreTextsAlike xs ys = (xs ≡ ys) ⊎ (IsTextSeen xs × IsTextSeen ys)

-- if the edit changes the text of the node at a place, it has such a text before it and after it
abbrev pub StaysSeen : Edit → List Node → ℕ → Type 0
StaysSeen (SetText node text) nodes place = IsSeenAt nodes place × IsTextSeen text
StaysSeen _ nodes place = ⊤

-- the edit changes a node which reaches so far, the styles there are alike, and its text stays one of which a box is generated
pub record IsRestyled (d : Document) (styles : List Style) (edit : Edit) (others : List Style) (places : List ℕ) (r : Reach) : Type 0 where
  pub id : ℕ
  pub change : IsChange edit id
  pub reach : IsEditReach d.nodes styles places id r
  pub alike : AreAlike styles others r.from r.until
  pub text : StaysSeen edit d.nodes r.from
