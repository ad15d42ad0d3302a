-- How many lines a text has, and that texts with all lines and the end in common are equal.
use Rattle.std.proofs.Common.{◌≡◌, ◌∙◌, ℕ, zero, suc, ◌+◌, ◌<◌, ◌≤◌, ◌==◌, ◌⊎◌, inl, inr, Bool, true, false, cond, List, [], ◌∷◌, ◌++◌, count_by, refl, sym, ap, arith, if◌then◌else◌}
use Rattle.std.proofs.lemmas.Bool.{cases_Bool}
use Rattle.std.proofs.lemmas.List.Sums.{sum_by-cons}
use Rattle.lay_audit.specs.Lines.{StartAlike, behind_line, ends_whole, first_line, line_count}
use Rattle.lay_audit.proofs.LineFacts.{line_parts, no_first}

abbrev ends_of : List ℕ → ℕ
ends_of text = count_by (λ b. b == 10) text

-- what stands behind the last linefeed is a line, where there is something
abbrev last_of : Bool → ℕ
last_of whole = if whole then 0 else 1

-- a first byte that ends its line, and one that doesn't
count_end : (b : ℕ) (bs : List ℕ) → (b == 10) ≡ true → ends_of (b ∷ bs) ≡ 1 + ends_of bs
count_end b bs e = sum_by-cons (λ x. cond (x == 10) 1 0) b bs ∙ ap (λ c. cond c 1 0 + ends_of bs) e

count_other : (b : ℕ) (bs : List ℕ) → (b == 10) ≡ false → ends_of (b ∷ bs) ≡ 0 + ends_of bs
count_other b bs e = sum_by-cons (λ x. cond (x == 10) 1 0) b bs ∙ ap (λ c. cond c 1 0 + ends_of bs) e

whole_end : (b : ℕ) (bs : List ℕ) → (b == 10) ≡ true → ends_whole (b ∷ bs) ≡ ends_whole bs
whole_end b [] e = e
whole_end b (c ∷ cs) e = refl

behind_end : (b : ℕ) (bs : List ℕ) → (b == 10) ≡ true → behind_line (b ∷ bs) ≡ bs
behind_end b bs e = rw e refl

behind_other : (b : ℕ) (bs : List ℕ) → (b == 10) ≡ false → behind_line (b ∷ bs) ≡ behind_line bs
behind_other b bs e = rw e refl

at_end : (b : ℕ) (bs : List ℕ) → (b == 10) ≡ true → line_count (b ∷ bs) ≡ suc (line_count (behind_line (b ∷ bs)))
at_end b bs e =
    let n = count_end b bs e in
    let w : last_of (ends_whole (b ∷ bs)) ≡ last_of (ends_whole bs) = ap last_of (whole_end b bs e) in
    let r : line_count (behind_line (b ∷ bs)) ≡ line_count bs = ap line_count (behind_end b bs e) in
    omega (arith, n, w, r)

alone : (b : ℕ) → (b == 10) ≡ false → line_count (b ∷ []) ≡ suc (line_count (behind_line (b ∷ [])))
alone b e =
    let n : ◌≡◌ {A = ℕ} (ends_of (b ∷ [])) 0 = count_other b [] e in
    let w : ◌≡◌ {A = ℕ} (last_of (ends_whole (b ∷ []))) 1 = ap last_of e in
    let r : ◌≡◌ {A = ℕ} (line_count (behind_line (b ∷ []))) 0 = ap line_count (behind_other b [] e) in
    omega (arith, n, w, r)

further : (b c : ℕ) (cs : List ℕ) → (b == 10) ≡ false → line_count (c ∷ cs) ≡ suc (line_count (behind_line (c ∷ cs))) →
    line_count (b ∷ c ∷ cs) ≡ suc (line_count (behind_line (b ∷ c ∷ cs)))
further b c cs e on =
    let n = count_other b (c ∷ cs) e in
    let r : line_count (behind_line (b ∷ c ∷ cs)) ≡ line_count (behind_line (c ∷ cs)) = ap line_count (behind_other b (c ∷ cs) e) in
    omega (arith, n, r, on)

-- a text that isn't empty has a line more than what stands behind its first
counts_first : (b : ℕ) (bs : List ℕ) → line_count (b ∷ bs) ≡ suc (line_count (behind_line (b ∷ bs)))
counts_first b [] = elim (cases_Bool (b == 10)) [ inl e ↦ at_end b [] e | inr e ↦ alone b e ]
counts_first b (c ∷ cs) = of_byte (counts_first c cs) (cases_Bool (b == 10))
  where
    of_byte : line_count (c ∷ cs) ≡ suc (line_count (behind_line (c ∷ cs))) → ((b == 10) ≡ true) ⊎ ((b == 10) ≡ false) →
        line_count (b ∷ c ∷ cs) ≡ suc (line_count (behind_line (b ∷ c ∷ cs)))
    of_byte on (inl e) = at_end b (c ∷ cs) e
    of_byte on (inr e) = further b c cs e on

pub alike_lines : (n : ℕ) (s t : List ℕ) → line_count s < n → StartAlike n s t → s ≡ t
alike_lines zero s t less alike = absurd (omega (arith, less))
alike_lines (suc n) [] [] less alike = refl
alike_lines (suc n) [] (c ∷ cs) less alike = absurd (no_first c cs alike.0)
alike_lines (suc n) (b ∷ bs) t less alike =
    let k = counts_first b bs in
    let rest = alike_lines n (behind_line (b ∷ bs)) (behind_line t) (omega (arith, k, less)) alike.1 in
    sym (line_parts (b ∷ bs)) ∙ ap (λ z. z ++ behind_line (b ∷ bs)) alike.0 ∙ ap (λ z. first_line t ++ z) rest ∙ line_parts t
