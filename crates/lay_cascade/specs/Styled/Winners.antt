-- The greatest declarations of a sheet for a node, by the numbers of their properties, and how a node takes them.
use Rattle.std.specs.Prelude.{ℕ, ◌+◌, ◌||◌, List, [], ◌∷◌, Option, Some, None, is_none, set, slice_index_or, if◌then◌else◌}
use Rattle.lay_style.specs.Values.{Declaration}
use Rattle.lay_style.specs.Declarations.{declared_value, with_declaration}
use Rattle.lay_style.specs.PropertyNumbers.{number_of}
use Rattle.lay_doc.specs.declared.node.Node.{Node}
use Rattle.lay_sheet.specs.declared.declaration.SheetDecl.{SheetDecl}
use Rattle.lay_cascade.specs.declared.counts.Specificity.{Specificity}
use Rattle.lay_cascade.specs.declared.styled.candidates.Candidate.{Candidate}
use Rattle.lay_cascade.specs.Styled.Weights.{is_lighter}

-- a declaration of a rule set, with what decides
abbrev pub sheet_candidate : Specificity → ℕ → ℕ → SheetDecl → Candidate
sheet_candidate specificity rule place decl = record {
  weight = record { important = decl.important; specificity = specificity; rule = rule; place = place };
  decl = decl.decl;
}

-- the greater one
abbrev pub better : Option Candidate → Candidate → Option Candidate
better None next = Some next
better (Some best) next = if is_lighter best.weight next.weight then Some next else Some best

-- the greatest ones with one more
abbrev pub with_candidate : List (Option Candidate) → Candidate → List (Option Candidate)
with_candidate winners next =
    set winners (number_of next.decl.property) (better (slice_index_or winners (number_of next.decl.property) None) next)

-- the same with the declarations of a rule set from a place on
abbrev pub with_decls : Specificity → ℕ → ℕ → List SheetDecl → List (Option Candidate) → List (Option Candidate)
with_decls specificity rule place [] winners = winners
with_decls specificity rule place (decl ∷ decls) winners =
    with_decls specificity rule (place + 1) decls (with_candidate winners (sheet_candidate specificity rule place decl))

-- A node's own declaration yields to an important one alone.
abbrev pub settled_one : Candidate → List Declaration → List Declaration
settled_one c decls =
    if c.weight.important || is_none (declared_value c.decl.property decls) then with_declaration c.decl decls else decls

-- the declarations of a node with those that it takes, in the order of their numbers
abbrev pub with_winners : List (Option Candidate) → List Declaration → List Declaration
with_winners [] decls = decls
with_winners (None ∷ winners) decls = with_winners winners decls
with_winners (Some c ∷ winners) decls = with_winners winners (settled_one c decls)

-- the nodes, of which the first ones take these
abbrev pub restyled : List (List (Option Candidate)) → List Node → List Node
restyled [] nodes = nodes
restyled (w ∷ ws) [] = []
restyled (w ∷ ws) (n ∷ ns) = record n { decls = with_winners w n.decls } ∷ restyled ws ns
