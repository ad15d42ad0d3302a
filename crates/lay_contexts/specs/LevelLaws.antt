-- 9.2.1: "A block container box either contains only block-level boxes or establishes an inline formatting context and thus
-- contains only inline-level boxes." So it is of the boxes in flow that generation makes, since runs of inline-level boxes
-- beside block-level ones are wrapped; and inline boxes hold no block-level box, since they are broken round it (9.2.1.1).
use Rattle.std.specs.Prelude.{◌≡◌, ℕ, Bool, true, false, ◌&&◌, ◌||◌, List, [], ◌∷◌}
use Rattle.lay_style.specs.declared.style.Style.{Style}
use Rattle.lay_doc.specs.declared.node.Node.{Node}
use Rattle.lay_boxgen.specs.Boxes.{Tree, Trees, tree, no_trees, also, facts_of}
use Rattle.lay_boxgen.specs.Forms.{is_block, is_block_container, is_in_flow, is_inline, is_inline_level}
use Rattle.lay_boxgen.specs.declared.facts.Facts.{Facts}
use Rattle.lay_boxgen.specs.Parts.{part}

-- an inline-level box in flow
abbrev pub is_in_line : Facts → Bool
is_in_line f = is_in_flow f.flow && is_inline_level f.form

-- one of these boxes is of this kind
abbrev pub any_in : (Facts → Bool) → Trees → Bool
any_in p no_trees = false
any_in p (also t ts) = p (facts_of t) || any_in p ts

-- what holds of each box and what is in it
abbrev mutual
  pub EachBox : (Facts → Trees → Type 0) → Tree → Type 0
  EachBox P (tree f children) = P f children × EachIn P children

  pub EachIn : (Facts → Trees → Type 0) → Trees → Type 0
  EachIn P no_trees = Unit {0}
  EachIn P (also t ts) = EachBox P t × EachIn P ts

abbrev pub EachOf : (Facts → Trees → Type 0) → List Tree → Type 0
EachOf P [] = Unit {0}
EachOf P (t ∷ ts) = EachBox P t × EachOf P ts

-- a box holds boxes of one level
pub record HoldsOneLevel (f : Facts) (children : Trees) : Type 0 where
  pub container : is_block_container f.form ≡ true → any_in is_block children ≡ true → any_in is_in_line children ≡ false
  pub inline : is_inline f.form ≡ true → any_in is_block children ≡ false

abbrev pub BoxesHoldOneLevel : Type 0
BoxesHoldOneLevel = (nodes : List Node) (styles : List Style) (k : ℕ) → EachOf HoldsOneLevel (part nodes styles k)
