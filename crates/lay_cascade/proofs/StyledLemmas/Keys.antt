-- Keys are in a strict order, and in just one.
use Rattle.std.proofs.Common.{◌≡◌, ◌∙◌, ℕ, ◌<◌, ◌≤◌, ◌⊎◌, inl, inr, List, [], ◌∷◌, true, false, length, refl, sym, arith}
use Rattle.std.specs.Prelude.{nat_lt}
use Rattle.std.proofs.lemmas.Bool.{false≢true, eq-eqb, ne_eqb, ltb-true, ltb-false, le-ltb, cases_eq}
use Rattle.lay_cascade.specs.Styled.Weights.{is_less_key}

pub same : (a b : ℕ) (xs ys : List ℕ) → a ≡ b → is_less_key (a ∷ xs) (b ∷ ys) ≡ is_less_key xs ys
same a b xs ys e = rw (eq-eqb a b e) refl

pub other : (a b : ℕ) (xs ys : List ℕ) → (a ≡ b → ⊥) → is_less_key (a ∷ xs) (b ∷ ys) ≡ nat_lt a b
other a b xs ys ne = rw (ne_eqb a b ne) refl

pub less_self : (xs : List ℕ) → is_less_key xs xs ≡ false
less_self [] = refl
less_self (a ∷ xs) = same a a xs xs refl ∙ less_self xs

-- what isn't greater than one isn't greater than a greater one
pub less_chain : (xs ys zs : List ℕ) → is_less_key xs zs ≡ false → is_less_key xs ys ≡ true → is_less_key ys zs ≡ false
less_chain [] ys zs lower higher = absurd (false≢true higher)
less_chain (a ∷ xs) [] zs lower higher = absurd (false≢true higher)
less_chain (a ∷ xs) (b ∷ ys) [] lower higher = refl
less_chain (a ∷ xs) (b ∷ ys) (c ∷ zs) lower higher = of_cases (λ n t. less_chain xs ys zs n t) (cases_eq a b) (cases_eq b c)
  where
    below : (a ≡ b → ⊥) → a < b
    below ne = ltb-true a b (sym (other a b xs ys ne) ∙ higher)

    not_below : (a ≡ c → ⊥) → c ≤ a
    not_below ne = ltb-false a c (sym (other a c xs zs ne) ∙ lower)

    apart : (b ≡ c → ⊥) → c ≤ b → is_less_key (b ∷ ys) (c ∷ zs) ≡ false
    apart ne le = other b c ys zs ne ∙ le-ltb b c le

    of_third : (a < b) → (b ≡ c → ⊥) → (a ≡ c) ⊎ (a ≡ c → ⊥) → is_less_key (b ∷ ys) (c ∷ zs) ≡ false
    of_third l ne (inl e) = apart ne (omega (arith, l, e))
    of_third l ne (inr d) = let h = not_below d in apart ne (omega (arith, l, h))

    of_cases : (is_less_key xs zs ≡ false → is_less_key xs ys ≡ true → is_less_key ys zs ≡ false) → (a ≡ b) ⊎ (a ≡ b → ⊥) → (b ≡ c) ⊎ (b ≡ c → ⊥) → is_less_key (b ∷ ys) (c ∷ zs) ≡ false
    of_cases on (inl e) (inl f) = same b c ys zs f ∙ on (sym (same a c xs zs (e ∙ f)) ∙ lower) (sym (same a b xs ys e) ∙ higher)
    of_cases on (inl e) (inr g) = let h = not_below (λ q. g (sym e ∙ q)) in apart g (omega (arith, h, e))
    of_cases on (inr d) (inl f) = let l = below d in let ne : a ≡ c → ⊥ = λ q. d (q ∙ sym f) in let h = not_below ne in absurd (omega (arith, l, f, h))
    of_cases on (inr d) (inr g) = of_third (below d) g (cases_eq a c)

-- where neither is greater they are the same
pub one_key : (xs ys : List ℕ) → length xs ≡ length ys → is_less_key xs ys ≡ false → is_less_key ys xs ≡ false → xs ≡ ys
one_key [] [] count l r = refl
one_key [] (b ∷ ys) count l r = absurd (omega (arith, count))
one_key (a ∷ xs) [] count l r = absurd (omega (arith, count))
one_key (a ∷ xs) (b ∷ ys) count l r = of_cases (λ n p q. one_key xs ys n p q) (cases_eq a b)
  where
    of_cases : (length xs ≡ length ys → is_less_key xs ys ≡ false → is_less_key ys xs ≡ false → xs ≡ ys) → (a ≡ b) ⊎ (a ≡ b → ⊥) → a ∷ xs ≡ b ∷ ys
    of_cases on (inl e) =
        let n : length xs ≡ length ys = omega (arith, count) in
        let rest = on n (sym (same a b xs ys e) ∙ l) (sym (same b a ys xs (sym e)) ∙ r) in
        rw (e, rest) refl
    of_cases on (inr ne) =
        let f = ltb-false a b (sym (other a b xs ys ne) ∙ l) in
        let g = ltb-false b a (sym (other b a ys xs (λ q. ne (sym q))) ∙ r) in
        absurd (ne (omega (arith, f, g)))
