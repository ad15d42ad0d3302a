-- The first part of a block where no brace is opened before it ends.
use Rattle.std.proofs.Common.{◌≡◌, ◌<◌, ◌+◌, ◌==◌, ℕ, zero, suc, sym, rules, Bool, true, false, List, [], ◌∷◌, Some, ◌-◌, ◌∙◌, ap, length, take, drop, slice_index, add-one, arith}
use Rattle.std.proofs.lemmas.Grind.{common_steps}
use Rattle.std.proofs.lemmas.Bool.{false_from_ne_true}
use Rattle.memchr.specs.Find.{IsFirstByte, is_byte3}
use Rattle.lay_sheet.specs.Pieces.{block_to, behind_block, part_to, behind_part}

-- a brace or a semicolon
abbrev is_sign : ℕ → Bool
is_sign = is_byte3 123 125 59

abbrev NoneBefore : List ℕ → ℕ → Type 0
NoneBefore text end = (k : ℕ) → k < end → is_sign (slice_index text k) ≡ false

none-later : (b : ℕ) (bs : List ℕ) (end : ℕ) → NoneBefore (b ∷ bs) (suc end) → NoneBefore bs end
none-later b bs end none k below = none (suc k) (omega (arith, below))

part-before : (text : List ℕ) (end : ℕ) → end < length text → NoneBefore text end → is_sign (slice_index text end) ≡ true → (slice_index text end == 123) ≡ false →
    part_to 0 (block_to 0 text) ≡ take end text
part-before [] end within none stops unopened = absurd (omega (arith, within))
part-before (b ∷ bs) zero within none stops unopened = grind (arith, common_steps, stops, unopened)
part-before (b ∷ bs) (suc end) within none stops unopened =
    let first : is_sign b ≡ false = none zero (omega arith) in
    grind (arith, common_steps, first, part-before bs end (omega (arith, within)) (none-later b bs end none) stops unopened)

left-behind : (text : List ℕ) (end : ℕ) → end < length text → NoneBefore text end → (slice_index text end == 125) ≡ true → behind_part 0 (block_to 0 text) ≡ []
left-behind [] end within none stops = absurd (omega (arith, within))
left-behind (b ∷ bs) zero within none stops = grind (arith, common_steps, stops)
left-behind (b ∷ bs) (suc end) within none stops =
    let first : is_sign b ≡ false = none zero (omega arith) in
    grind (arith, common_steps, first, left-behind bs end (omega (arith, within)) (none-later b bs end none) stops)

block-behind : (text : List ℕ) (end : ℕ) → end < length text → NoneBefore text end → (slice_index text end == 125) ≡ true → behind_block 0 text ≡ drop (suc end) text
block-behind [] end within none stops = absurd (omega (arith, within))
block-behind (b ∷ bs) zero within none stops = grind (arith, common_steps, stops)
block-behind (b ∷ bs) (suc end) within none stops =
    let first : is_sign b ≡ false = none zero (omega arith) in
    grind (arith, common_steps, first, block-behind bs end (omega (arith, within)) (none-later b bs end none) stops)

left-more : (text : List ℕ) (end : ℕ) → end < length text → NoneBefore text end → (slice_index text end == 59) ≡ true → behind_part 0 (block_to 0 text) ≡ block_to 0 (drop (suc end) text)
left-more [] end within none stops = absurd (omega (arith, within))
left-more (b ∷ bs) zero within none stops = grind (arith, common_steps, stops)
left-more (b ∷ bs) (suc end) within none stops =
    let first : is_sign b ≡ false = none zero (omega arith) in
    grind (arith, common_steps, first, left-more bs end (omega (arith, within)) (none-later b bs end none) stops)

block-more : (text : List ℕ) (end : ℕ) → end < length text → NoneBefore text end → (slice_index text end == 59) ≡ true → behind_block 0 text ≡ behind_block 0 (drop (suc end) text)
block-more [] end within none stops = absurd (omega (arith, within))
block-more (b ∷ bs) zero within none stops = grind (arith, common_steps, stops)
block-more (b ∷ bs) (suc end) within none stops =
    let first : is_sign b ≡ false = none zero (omega arith) in
    grind (arith, common_steps, first, block-more bs end (omega (arith, within)) (none-later b bs end none) stops)

block-some : (text : List ℕ) (end : ℕ) → end < length text → NoneBefore text end → (slice_index text end == 59) ≡ true → 0 < length (block_to 0 text)
block-some [] end within none stops = absurd (omega (arith, within))
block-some (b ∷ bs) zero within none stops = grind (arith, common_steps, stops)
block-some (b ∷ bs) (suc end) within none stops =
    let first : is_sign b ≡ false = none zero (omega arith) in
    grind (arith, common_steps, first)

-- where the first brace or semicolon of a text opens nothing
module _ (text : List ℕ) (end : ℕ) (found : IsFirstByte (is_byte3 123 125 59) text (Some end)) (unopened : (slice_index text end == 123) ≡ false) where
  none : NoneBefore text end
  none k below = false_from_ne_true (is_sign (slice_index text k)) (found.0.before k (omega arith) below)

  within : end < length text
  within = found.0.high

  is_semicolon : (slice_index text end == 125) ≡ false → (slice_index text end == 59) ≡ true
  is_semicolon goes_on = grind (arith, common_steps, found.1, unopened)

  pub part_is : part_to 0 (block_to 0 text) ≡ take end text
  part_is = part-before text end within none found.1 unopened

  -- what stands behind that byte, as the code cuts it out
  abbrev pub rest : List ℕ
  rest = take (length text - (end + 1)) (drop (end + 1) text)

  rest_is : drop (suc end) text ≡ rest
  rest_is = first_of (search rules, grind (arith, common_steps, add-one end))

  pub last_is : (slice_index text end == 125) ≡ true → (behind_part 0 (block_to 0 text) ≡ []) × (rest ≡ behind_block 0 text)
  last_is closes = (left-behind text end within none closes, sym (block-behind text end within none closes ∙ rest_is))

  pub more_is : (slice_index text end == 125) ≡ false →
      (behind_part 0 (block_to 0 text) ≡ block_to 0 rest) × (behind_block 0 text ≡ behind_block 0 rest) × (0 < length (block_to 0 text))
  more_is goes_on =
      let stops = is_semicolon goes_on in
      (left-more text end within none stops ∙ ap (block_to 0) rest_is, block-more text end within none stops ∙ ap (behind_block 0) rest_is, block-some text end within none stops)
