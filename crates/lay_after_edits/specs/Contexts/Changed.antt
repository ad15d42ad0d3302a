-- What edits of declarations and texts leave of the nodes of a document and of their styles (CSS 2.2, 6.2): each node keeps its id, its
-- parent and what it is, and those without a flag keep all that they have.
use Rattle.std.specs.Prelude.{ℕ, ◌≡◌, ◌<◌, Bool, true, false, List, length, slice_get, Some}
use Rattle.lay_style.specs.declared.style.Style.{Style}
use Rattle.lay_style.specs.Values.{Declaration}
use Rattle.lay_style.specs.ComputedStyle.{computed_style, declarations_at, parent_style, style_at}
use Rattle.lay_style.specs.Places.{place_of}
use Rattle.lay_doc.specs.declared.edit.Edit.{Edit}
use Rattle.lay_doc.specs.declared.node.Node.{Node}
use Rattle.lay_doc.specs.Document.{ids_of, parents_of}
use Rattle.lay_after_edits.specs.Contexts.Links.{is_made}
use Rattle.lay_after_edits.specs.Contexts.Reach.{AreTextsAlike, IsAlike, IsChange}

-- of nodes with these ids, the edit changes the one at a place
pub record ChangesAt (ids : List ℕ) (edit : Edit) (place : ℕ) : Type 0 where
  pub id : ℕ
  pub change : IsChange edit id
  pub named : place_of id ids ≡ Some place

-- the node at k keeps its id and what it is
pub record HasForm (ns ms : List Node) (k : ℕ) : Type 0 where
  pub one : Node
  pub other : Node
  pub here : slice_get ns k ≡ Some one
  pub there : slice_get ms k ≡ Some other
  pub id : one.id ≡ other.id
  pub kind : one.kind ≡ other.kind

-- the nodes of a document stay where they stand, and all but those with a flag are as they were
pub record AreStaying (ns ms : List Node) (flags : List Bool) : Type 0 where
  pub count : length flags ≡ length ns
  pub parents : parents_of ms ≡ parents_of ns
  pub ids : ids_of ms ≡ ids_of ns
  pub form : (k : ℕ) → k < length ns → HasForm ns ms k
  pub same : (k : ℕ) → k < length ns → is_made flags k ≡ false → slice_get ms k ≡ slice_get ns k

-- so do their styles
pub record AreMadeAnew (ns ms : List Node) (ss ts : List Style) (made : List Bool) : Type 0 where
  pub nodes : AreStaying ns ms made
  pub styles : (k : ℕ) → k < length ns → is_made made k ≡ false → style_at ts k ≡ style_at ss k

-- this is the style of the node at k, where these are those of the nodes before it
abbrev pub IsStyleOf : (parents : List ℕ) (decls : List (List Declaration)) (styles : List Style) (s : Style) (k : ℕ) → Type 0
IsStyleOf parents decls styles s k = s ≡ computed_style (parent_style parents styles k) (declarations_at decls k)

-- nodes without a flag would have the styles that they had if their parents had them
pub record StylesStay (parents : List ℕ) (decls : List (List Declaration)) (styles : List Style) (changed : List Bool) : Type 0 where
  pub count : length styles ≡ length parents
  pub flags : length changed ≡ length parents
  pub each : (k : ℕ) → k < length parents → is_made changed k ≡ false → IsStyleOf parents decls styles (style_at styles k) k

-- of the first n nodes, those whose styles weren't made anew aren't among the changed ones, and have the styles that they had
pub record KeepsUnmade (ss ts : List Style) (changed made : List Bool) (n : ℕ) : Type 0 where
  pub count : length made ≡ n
  pub unchanged : (k : ℕ) → k < n → is_made made k ≡ false → is_made changed k ≡ false
  pub style : (k : ℕ) → k < n → is_made made k ≡ false → style_at ts k ≡ style_at ss k

-- the nodes at k have alike styles and texts
pub record IsAlikeNode (ns ms : List Node) (ss ts : List Style) (k : ℕ) : Type 0 where
  pub style : IsAlike (style_at ss k) (style_at ts k)
  pub text : (n o : Node) → slice_get ns k ≡ Some n → slice_get ms k ≡ Some o → AreTextsAlike n.text o.text

-- so have the first n of those that have a flag
abbrev pub AreAlikeTo : (ns ms : List Node) (ss ts : List Style) (made : List Bool) (n : ℕ) → Type 0
AreAlikeTo ns ms ss ts made n = (k : ℕ) → k < n → is_made made k ≡ true → IsAlikeNode ns ms ss ts k
