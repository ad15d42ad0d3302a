-- Where the pieces of a sheet end (CSS 2.2, 4.1.5 to 4.1.8). All texts here are what is seen of a sheet.
-- Braces nest; parentheses and square brackets don't group.
use Rattle.std.specs.Prelude.{ℕ, ◌+◌, ◌-◌, ◌==◌, ◌&&◌, List, [], ◌∷◌, Bool, not, if◌then◌else◌}

-- any byte but this one
abbrev pub is_other : ℕ → ℕ → Bool
is_other c b = not (b == c)

-- the block that a text begins in, up to the `}` that matches, where so many braces are open inside; and what stands behind that
abbrev pub block_to : ℕ → List ℕ → List ℕ
block_to depth [] = []
block_to depth (b ∷ bs) =
    if b == 123 then b ∷ block_to (depth + 1) bs
    else (if b == 125 then (if depth == 0 then [] else b ∷ block_to (depth - 1) bs)
    else b ∷ block_to depth bs)

abbrev pub behind_block : ℕ → List ℕ → List ℕ
behind_block depth [] = []
behind_block depth (b ∷ bs) =
    if b == 123 then behind_block (depth + 1) bs
    else (if b == 125 then (if depth == 0 then bs else behind_block (depth - 1) bs)
    else behind_block depth bs)

-- what stands behind a statement that begins with `@`: it ends with its first `;` or, where a block comes first, with that
abbrev pub behind_at_rule : List ℕ → List ℕ
behind_at_rule [] = []
behind_at_rule (b ∷ bs) = if b == 59 then bs else (if b == 123 then behind_block 0 bs else behind_at_rule bs)

-- the part of a block up to its first `;` outside braces, where so many braces are open, and what stands behind that
abbrev pub part_to : ℕ → List ℕ → List ℕ
part_to depth [] = []
part_to depth (b ∷ bs) =
    if b == 123 then b ∷ part_to (depth + 1) bs
    else (if b == 125 then b ∷ part_to (depth - 1) bs
    else (if (b == 59) && (depth == 0) then [] else b ∷ part_to depth bs))

abbrev pub behind_part : ℕ → List ℕ → List ℕ
behind_part depth [] = []
behind_part depth (b ∷ bs) =
    if b == 123 then behind_part (depth + 1) bs
    else (if b == 125 then behind_part (depth - 1) bs
    else (if (b == 59) && (depth == 0) then bs else behind_part depth bs))
