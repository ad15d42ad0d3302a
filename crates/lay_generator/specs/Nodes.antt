-- The nodes of the generator's document, in its own order, each with the id of its parent. Node 1 is the root. Behind it
-- come sections of four nodes each: a block formatting context with a float and a block that holds a text.
use Rattle.std.specs.Prelude.{ℕ, zero, suc, ◌+◌, ◌*◌, ◌%◌, ◌==◌, pos, List, [], ◌∷◌, ◌++◌, codes, if◌then◌else◌}
use Rattle.std.specs.List.{repeat}
use Rattle.lay_style.specs.declared.property.Property.TheVariants.{Display, Float, Height, MarginTop, Overflow, Width}
use Rattle.lay_style.specs.declared.property.Word.TheVariants.{Block, Hidden, Left, Right}
use Rattle.lay_style.specs.declared.property.Given.{Given}
use Rattle.lay_style.specs.declared.property.Given.TheVariants.{Keyword, Length}
use Rattle.lay_style.specs.Values.{Declaration}
use Rattle.lay_doc.specs.declared.node.NodeId.{NodeId}
use Rattle.lay_doc.specs.declared.node.Kind.TheVariants.{Element, Text}
use Rattle.lay_doc.specs.NewNodes.{NewNodeValue}
use Rattle.lay_generator.specs.Draws.{draw, next, state_after}

abbrev pub id : ℕ → NodeId
id n = record { 0 = n }

-- so many px
abbrev pub px_value : ℕ → Given
px_value n = Length (record { 0 = pos (64 * n) })

abbrev pub element : ℕ → List Declaration → NewNodeValue
element n decls = record { id = id n; kind = Element 1 1; decls = decls; text = [] }

abbrev pub root : NewNodeValue
root = element 1 (record { property = Display; value = Keyword Block } ∷ [])

-- the block formatting context of a section: its top margin is the first draw
abbrev pub container : ℕ → ℕ → NewNodeValue
container section state = element (2 + 4 * section) (
    record { property = Display; value = Keyword Block }
    ∷ record { property = MarginTop; value = px_value (draw 1 state % 21) }
    ∷ record { property = Overflow; value = Keyword Hidden } ∷ [])

-- the float of a section: its side, its width and its height are the next three draws
abbrev pub float_node : ℕ → ℕ → NewNodeValue
float_node section state = element (3 + 4 * section) (
    record { property = Display; value = Keyword Block }
    ∷ record { property = Float; value = Keyword (if draw 1 state % 2 == 1 then Left else Right) }
    ∷ record { property = Height; value = px_value (10 + draw 3 state % 40) }
    ∷ record { property = Width; value = px_value (20 + draw 2 state % 100) } ∷ [])

abbrev pub block : ℕ → NewNodeValue
block section = element (4 + 4 * section) (record { property = Display; value = Keyword Block } ∷ [])

-- a word for the next draw
abbrev pub word : ℕ → List ℕ
word state = repeat (1 + draw 1 state % 8) (codes "w")

-- so many words more, each behind a space
abbrev pub more_words : ℕ → ℕ → List ℕ
more_words zero state = []
more_words (suc n) state = (codes " " ++ word state) ++ more_words n (next state)

-- a text of a word and so many more, parted by one space each
abbrev pub text_of_words : ℕ → ℕ → List ℕ
text_of_words more state = word state ++ more_words more (next state)

-- how many words more than one a text has, by the next draw
abbrev pub more_count : ℕ → ℕ
more_count state = draw 1 state % 30

-- the text of a section: the number of its words is the next draw, and each word's length a further one
abbrev pub text : ℕ → ℕ → NewNodeValue
text section state = record { id = id (5 + 4 * section); kind = Text; decls = []; text = text_of_words (more_count state) (next state) }

-- the nodes of a section
abbrev pub section_nodes : ℕ → ℕ → List (NodeId × NewNodeValue)
section_nodes section state =
    (id 1, container section state)
    ∷ (id (2 + 4 * section), float_node section (state_after 1 state))
    ∷ (id (2 + 4 * section), block section)
    ∷ (id (4 + 4 * section), text section (state_after 4 state)) ∷ []

-- the state behind a section: one draw for each word comes after the first five
abbrev pub section_end : ℕ → ℕ
section_end state = state_after (1 + more_count (state_after 4 state)) (state_after 5 state)

-- the nodes of so many sections, from one on
abbrev pub sections : ℕ → ℕ → ℕ → List (NodeId × NewNodeValue)
sections zero section state = []
sections (suc n) section state = section_nodes section state ++ sections n (section + 1) (section_end state)

-- the state behind so many sections
abbrev pub sections_end : ℕ → ℕ → ℕ
sections_end zero state = state
sections_end (suc n) state = sections_end n (section_end state)
