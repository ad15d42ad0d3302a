-- What is kept while the nodes of a document take the declarations of a sheet.
use Rattle.std.specs.Prelude.{ℕ, zero, suc, ◌≡◌, List, [], ◌∷◌, Bool, false, is_some, Option}
use Rattle.lay_style.specs.declared.property.Property.{Property}
use Rattle.lay_style.specs.Declarations.{declared_value}
use Rattle.lay_doc.specs.declared.node.Node.{Node}
use Rattle.lay_cascade.specs.declared.node_names.names.Names.{Names}
use Rattle.lay_sheet.specs.Sheets.{RuleValue}
use Rattle.lay_cascade.specs.declared.styled.candidates.Candidate.{Candidate}
use Rattle.lay_cascade.specs.Styled.Winners.{settled_one, with_winners, restyled}
use Rattle.lay_cascade.specs.Styled.Cascade.{AreAllWinners}

-- whether the node at a place declares a property
abbrev pub declares_at : List Node → ℕ → Property → Bool
declares_at [] k p = false
declares_at (n ∷ ns) zero p = is_some (declared_value p n.decls)
declares_at (n ∷ ns) (suc k) p = declares_at ns k p

-- a node that has taken one declaration, or all
abbrev pub takes_one : Candidate → Node → Node
takes_one c n = record n { decls = settled_one c n.decls }

abbrev pub takes : List (Option Candidate) → Node → Node
takes winners n = record n { decls = with_winners winners n.decls }

-- of nodes the first n have taken what is greatest for them, and the others are as before
pub record IsCascadedTo (rules : List RuleValue) (nodes : List Node) (names : List Names) (n : ℕ) (new : List Node) : Type 0 where
  pub winners : List (List (Option Candidate))
  pub are : AreAllWinners rules nodes names n winners
  pub is : new ≡ restyled winners nodes
