-- What it means that an inline box is broken round in-flow blocks (9.2.1.1), said without going from child to
-- child. `broken` does that, and nothing else does.
use Rattle.std.specs.Prelude.{◌≡◌, true, false, List, [], ◌∷◌, ◌++◌, filter, ◌↔◌}
use Rattle.lay_boxgen.specs.Boxes.{Tree, tree, trees_of, facts_of}
use Rattle.lay_boxgen.specs.BrokenInlines.{is_block_box, is_unseen, is_no_text_box, parts_from}
use Rattle.lay_boxgen.specs.declared.facts.Facts.{Facts}

-- siblings without a block
abbrev pub HasNoBlock : List Tree → Type 0
HasNoBlock [] = Unit {0}
HasNoBlock (t ∷ ts) = (is_block_box t ≡ false) × HasNoBlock ts

-- boxes out of flow, and white space that would be collapsed away
abbrev pub IsUnseen : List Tree → Type 0
IsUnseen [] = Unit {0}
IsUnseen (t ∷ ts) = (is_block_box t ≡ false) × (is_unseen (facts_of t) ≡ true) × IsUnseen ts

-- "the block-level box (and any block-level siblings that are consecutive or separated only by collapsible
-- whitespace and/or out-of-flow elements)"
pub data IsBreak : List Tree → Type 0 where
  one : (t : Tree) → is_block_box t ≡ true → IsBreak (t ∷ [])
  further : (blocks gap : List Tree) (t : Tree) → IsBreak blocks → IsUnseen gap → is_block_box t ≡ true → IsBreak (blocks ++ gap ++ t ∷ [])

-- siblings that end a break before them: no block follows at once or behind what is unseen
pub data EndsBreak : List Tree → Type 0 where
  nothing_follows : EndsBreak []
  other : (t : Tree) (ts : List Tree) → is_block_box t ≡ false → is_unseen (facts_of t) ≡ false → EndsBreak (t ∷ ts)
  behind_unseen : (t : Tree) (ts : List Tree) → is_block_box t ≡ false → is_unseen (facts_of t) ≡ true → EndsBreak ts → EndsBreak (t ∷ ts)

-- The children of an inline box, and what stands for it: its parts, each with the children without a block
-- that stand there, and between two parts the boxes of a break, without its texts, which are white space.
pub data IsBroken (f : Facts) : List Tree → List Tree → Type 0 where
  last : (held : List Tree) → HasNoBlock held → IsBroken f held (tree f (trees_of held) ∷ [])
  break : (held blocks ts us : List Tree) → HasNoBlock held → IsBreak blocks → EndsBreak ts → IsBroken f ts us
      → IsBroken f (held ++ (blocks ++ ts)) (tree f (trees_of held) ∷ filter is_no_text_box blocks ++ us)

abbrev pub InlinesAreBroken : Type 0
InlinesAreBroken = (f : Facts) (children result : List Tree) → IsBroken f children result ↔ (result ≡ parts_from f false [] children)
