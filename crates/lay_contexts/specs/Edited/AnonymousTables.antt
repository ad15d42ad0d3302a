-- Anonymous tables (CSS 2.2, 17.2.1), which are generated round parts of tables that stand where no table is. Whether the box of an inner
-- context stands in one, within the context around, is said by its element and the nodes between: one of them generates a part of a
-- table in flow that can't be below the box of its parent with no table generated between. No sibling makes a difference.
use Rattle.std.specs.Prelude.{ℕ, ◌≡◌, ◌<◌, ◌↔◌, Bool, true, false, not, ◌&&◌, ◌||◌, List, [], ◌∷◌, length, slice_index, Option, Some}
use Rattle.lay_style.specs.declared.style.Style.{Style}
use Rattle.lay_doc.specs.declared.node.Node.{Node}
use Rattle.lay_doc.specs.Document.{Document, IsDocument, ids_of}
use Rattle.lay_boxgen.specs.Boxes.{Tree, Trees, tree, no_trees, also}
use Rattle.lay_boxgen.specs.Forms.{is_column, is_column_group, is_in_flow, is_proper_table_descendant, is_table, is_table_part}
use Rattle.lay_boxgen.specs.declared.facts.Facts.{Facts}
use Rattle.lay_boxgen.specs.declared.facts.Form.{Form}
use Rattle.lay_boxgen.specs.Contexts.{IsContextAt, box_at, is_marked}
use Rattle.lay_boxgen.specs.Parts.{part}
use Rattle.lay_contexts.specs.ContextTree.{parent_of}

-- the wrapper of an anonymous table or inline-table
abbrev pub is_anonymous_table : Facts → Bool
is_anonymous_table f = f.anonymous && is_table f.form

-- what holds of each box of a tree, beside whether it stands in an anonymous table
abbrev mutual
  pub EachInside : (Bool → Facts → Type 0) → Bool → Tree → Type 0
  EachInside P inside (tree f children) = P inside f × AllInside P (inside || is_anonymous_table f) children

  pub AllInside : (Bool → Facts → Type 0) → Bool → Trees → Type 0
  AllInside P inside no_trees = Unit {0}
  AllInside P inside (also t ts) = EachInside P inside t × AllInside P inside ts

abbrev pub ListInside : (Bool → Facts → Type 0) → Bool → List Tree → Type 0
ListInside P inside [] = Unit {0}
ListInside P inside (t ∷ ts) = EachInside P inside t × ListInside P inside ts

-- a part of a table that can't be in such a box with no table generated between: it is no proper descendant of a table there, and no
-- column in a column group
abbrev pub strays_in : Form → Form → Bool
strays_in parent x = is_table_part x && not (is_proper_table_descendant parent x || (is_column_group parent && is_column x))

abbrev pub is_stray : Facts → Facts → Bool
is_stray parent f = is_in_flow f.flow && strays_in parent.form f.form

abbrev pub is_stray_part : Option Facts → Option Facts → Bool
is_stray_part (Some parent) (Some f) = is_stray parent f
is_stray_part _ _ = false

-- the node at k, or one between it and the context around, generates a stray part of a table
pub data IsInStrayPart (nodes : List Node) (styles : List Style) : ℕ → Type 0 where
  here : (k : ℕ) → 0 < k → is_stray_part (box_at nodes styles (parent_of nodes k)) (box_at nodes styles k) ≡ true
      → IsInStrayPart nodes styles k
  between : (k : ℕ) → 0 < k → is_marked (box_at nodes styles (parent_of nodes k)) ≡ false → IsInStrayPart nodes styles (parent_of nodes k)
      → IsInStrayPart nodes styles k

-- a box with these facts is of an element, of which it is known whether its box stands in an anonymous table
pub record NamesInside (nodes : List Node) (styles : List Style) (inside : Bool) (f : Facts) : Type 0 where
  pub element : f.anonymous ≡ false
  pub place : ℕ
  pub within : place < length nodes
  pub node : slice_index (ids_of nodes) place ≡ f.node.0
  pub inside_is : (inside ≡ true) ↔ IsInStrayPart nodes styles place

-- the box of an inner context is
abbrev pub IsKnownInside : List Node → List Style → Bool → Facts → Type 0
IsKnownInside nodes styles inside f = f.inner ≡ true → NamesInside nodes styles inside f

abbrev pub AnonymousTablesStandByNodes : Type 0
AnonymousTablesStandByNodes = (d : Document) (styles : List Style) (a : ℕ) → IsDocument d → length styles ≡ length d.nodes
    → IsContextAt d.nodes styles a
    → ListInside (IsKnownInside d.nodes styles) false (part d.nodes styles a)
