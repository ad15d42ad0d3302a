-- Words of 64 truth values.
use Rattle.std.proofs.Common.{◌≡◌, ◌≢◌, ◌∙◌, ℕ, zero, suc, ◌+◌, ◌-◌, ◌*◌, ◌/◌, ◌%◌, ◌^◌, ◌<◌, Bool, true, false, refl, sym, ap, arith, w64}
use Rattle.std.specs.Prelude.{◌==◌, ◌&&◌, ◌||◌, min, max, bit_and, bit_or}
use Rattle.std.specs.Int.{bit_at}
use Rattle.std.proofs.lemmas.Nat.{div-add-mod'}
use Rattle.std.proofs.lemmas.Nat.Bits.{bit_at_and, bit_at_or, bit_at-lt, bit_at-zero, bit_at_set_same, bit_at_set_other, bit_at_cat_low, bit_at_cat_high, bit_at_above}
use Rattle.lay_cascade.specs.Words.{is_in, with_bit, shifted, spread, front_word}

least : (x y : ℕ) → x < 2 → y < 2 → (min x y == 1) ≡ ((x == 1) && (y == 1))
least zero zero h g = refl
least zero (suc zero) h g = refl
least (suc zero) zero h g = refl
least (suc zero) (suc zero) h g = refl
least (suc (suc x)) y h g = absurd (omega (arith, h))
least zero (suc (suc y)) h g = absurd (omega (arith, g))
least (suc zero) (suc (suc y)) h g = absurd (omega (arith, g))

greatest : (x y : ℕ) → x < 2 → y < 2 → (max x y == 1) ≡ ((x == 1) || (y == 1))
greatest zero zero h g = refl
greatest zero (suc zero) h g = refl
greatest (suc zero) zero h g = refl
greatest (suc zero) (suc zero) h g = refl
greatest (suc (suc x)) y h g = absurd (omega (arith, h))
greatest zero (suc (suc y)) h g = absurd (omega (arith, g))
greatest (suc zero) (suc (suc y)) h g = absurd (omega (arith, g))

pub is_in_and : (a b j : ℕ) → is_in (bit_and a b) j ≡ (is_in a j && is_in b j)
is_in_and a b j = ap (λ z. z == 1) (bit_at_and a b j) ∙ least (bit_at a j) (bit_at b j) (bit_at-lt a j) (bit_at-lt b j)

pub is_in_or : (a b j : ℕ) → is_in (bit_or a b) j ≡ (is_in a j || is_in b j)
is_in_or a b j = ap (λ z. z == 1) (bit_at_or a b j) ∙ greatest (bit_at a j) (bit_at b j) (bit_at-lt a j) (bit_at-lt b j)

pub is_in_none : (j : ℕ) → is_in 0 j ≡ false
is_in_none j = ap (λ z. z == 1) (bit_at-zero j)

pub with_bit_same : (word n : ℕ) → n < 64 → is_in (with_bit word n) n ≡ true
with_bit_same word n h = ap (λ z. z == 1) (bit_at_set_same w64 word n h)

pub with_bit_other : (word n j : ℕ) → n < 64 → j ≢ n → is_in (with_bit word n) j ≡ is_in word j
with_bit_other word n j h other = ap (λ z. z == 1) (bit_at_set_other w64 word n h j other)

-- what is above a width takes no part
below_width : (x k i : ℕ) → i < k → bit_at (x % 2 ^ k) i ≡ bit_at x i
below_width x k i h = sym (bit_at_cat_low (x / 2 ^ k) k (x % 2 ^ k) i h) ∙ ap (λ z. bit_at z i) (div-add-mod' x (2 ^ k))

pub shifted_first : (word : ℕ) → is_in (shifted word) 0 ≡ false
shifted_first word =
    let e : word * 2 ^ 1 ≡ word * 2 ^ 1 + 0 = omega arith in
    ap (λ z. z == 1) (below_width (word * 2 ^ 1) 64 0 (omega arith) ∙ ap (λ z. bit_at z 0) e ∙ bit_at_cat_low word 1 0 0 (omega arith) ∙ bit_at-zero 0)

pub shifted_next : (word j : ℕ) → suc j < 64 → is_in (shifted word) (suc j) ≡ is_in word j
shifted_next word j h =
    let e : word * 2 ^ 1 ≡ word * 2 ^ 1 + 0 = omega arith in
    let d : suc j - 1 ≡ j = omega arith in
    ap (λ z. z == 1) (below_width (word * 2 ^ 1) 64 (suc j) h ∙ ap (λ z. bit_at z (suc j)) e ∙ bit_at_cat_high word 1 0 (suc j) (omega arith) (omega arith) ∙ ap (bit_at word) d)

pub front_first : (told : Bool) → is_in (front_word told) 0 ≡ told
front_first true = refl
front_first false = is_in_none 0

pub front_next : (told : Bool) (j : ℕ) → is_in (front_word told) (suc j) ≡ false
front_next true j = ap (λ z. z == 1) (bit_at_above 1 1 (suc j) (omega arith) (omega arith))
front_next false j = is_in_none (suc j)

-- one turn of the spreading
module _ (start run word : ℕ) where
  abbrev turned : ℕ
  turned = bit_or start (bit_and run (shifted word))

  turned_first : is_in turned 0 ≡ is_in start 0
  turned_first = is_in_or start (bit_and run (shifted word)) 0 ∙ ap (λ z. is_in start 0 || z) (is_in_and run (shifted word) 0 ∙ ap (λ z. is_in run 0 && z) (shifted_first word)) ∙ none (is_in start 0) (is_in run 0)
    where
      none : (a b : Bool) → (a || (b && false)) ≡ a
      none true b = refl
      none false true = refl
      none false false = refl

  turned_next : (j : ℕ) → suc j < 64 → is_in turned (suc j) ≡ (is_in start (suc j) || (is_in run (suc j) && is_in word j))
  turned_next j h =
      is_in_or start (bit_and run (shifted word)) (suc j) ∙ ap (λ z. is_in start (suc j) || z) (is_in_and run (shifted word) (suc j) ∙ ap (λ z. is_in run (suc j) && z) (shifted_next word j h))

  -- a turn tells one place more
  pub spread_more : (n : ℕ) → ((j : ℕ) → j < n → j < 64 → is_in word j ≡ spread start run j) → (j : ℕ) → j < n + 1 → j < 64 → is_in (bit_or start (bit_and run (shifted word))) j ≡ spread start run j
  spread_more n was zero h g = turned_first
  spread_more n was (suc j) h g =
      let l : j < n = omega (arith, h) in
      let k : j < 64 = omega (arith, g) in
      turned_next j g ∙ ap (λ z. is_in start (suc j) || (is_in run (suc j) && z)) (was j l k)

  -- what a turn leaves is told everywhere
  pub spread_done : bit_or start (bit_and run (shifted word)) ≡ word → (j : ℕ) → j < 64 → is_in word j ≡ spread start run j
  spread_done same zero g = ap (λ z. is_in z 0) (sym same) ∙ turned_first
  spread_done same (suc j) g =
      let k : j < 64 = omega (arith, g) in
      ap (λ z. is_in z (suc j)) (sym same) ∙ turned_next j g ∙ ap (λ z. is_in start (suc j) || (is_in run (suc j) && z)) (spread_done same j k)
