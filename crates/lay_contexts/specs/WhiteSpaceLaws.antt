-- Irrelevant white space (17.2.1, the first stage), said of each child of a box by itself. A child stays but for a text of
-- white space alone between two siblings that make it irrelevant: the nearest ones that are no such texts, since those
-- that stand together are one anonymous inline box.
use Rattle.std.specs.Prelude.{◌≡◌, ◌&&◌, List, [], ◌∷◌, ◌++◌, if◌then◌else◌, Option, None, Some}
use Rattle.lay_boxgen.specs.Boxes.{Tree, facts_of}
use Rattle.lay_boxgen.specs.Irrelevant.{is_irrelevant, without_white_space}
use Rattle.lay_boxgen.specs.Runs.{is_white_box}
use Rattle.lay_boxgen.specs.declared.facts.Facts.{Facts}
use Rattle.lay_boxgen.specs.declared.facts.Form.{Form}

-- the first of these siblings that is no white space, and the last one
abbrev pub first_seen : List Tree → Option Facts
first_seen [] = None
first_seen (t ∷ ts) = if is_white_box t then first_seen ts else Some (facts_of t)

abbrev pub or_else_facts : Option Facts → Option Facts → Option Facts
or_else_facts None o = o
or_else_facts (Some f) o = Some f

abbrev pub last_seen : List Tree → Option Facts
last_seen [] = None
last_seen (t ∷ ts) = or_else_facts (last_seen ts) (if is_white_box t then None else Some (facts_of t))

-- a child between these siblings before it and those behind it, if it stays
abbrev pub child_kept : Form → List Tree → Tree → List Tree → List Tree
child_kept parent before t after = if is_white_box t && is_irrelevant parent (last_seen before) (first_seen after) then [] else (t ∷ [])

-- those of the children behind `before` that stay
abbrev pub children_kept : Form → (before : List Tree) → List Tree → List Tree
children_kept parent before [] = []
children_kept parent before (t ∷ ts) = child_kept parent before t ts ++ children_kept parent (before ++ t ∷ []) ts

abbrev pub WhiteSpaceGoesByItself : Type 0
WhiteSpaceGoesByItself = (parent : Form) (children : List Tree) → without_white_space parent children ≡ children_kept parent [] children
