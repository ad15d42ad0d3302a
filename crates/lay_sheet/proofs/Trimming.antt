-- White space at both ends of a text is dropped, and the text between stays.
use Rattle.std.proofs.Common.{◌≡◌, ◌∙◌, ℕ, zero, suc, ◌+◌, ◌-◌, ◌<◌, List, [], ◌∷◌, ◌++◌, Bool, true, false, cond, not, length, take, drop, reverse, refl, sym, ap, one-add, length-append, append-nil, arith}
use Rattle.std.specs.Char.{is_ascii_whitespace}
use Rattle.std.specs.List.{list_all, prefix_len, suffix_len}
use Rattle.std.proofs.lemmas.Bool.{and_parts, and_from, false≢true}
use Rattle.std.proofs.lemmas.List.{reverse-append, length-reverse}
use Rattle.std.proofs.lemmas.List.Folds.{list_all-append}
use Rattle.lay_values.specs.Reading.{without_front, without_end, trimmed}
use Rattle.lay_sheet.specs.Printing.{begins_solid}

-- what passes all of a text passes all of two texts, of a text turned round, of its front, and of what a weaker test asks
pub all_on : (p : ℕ → Bool) (xs ys : List ℕ) → list_all p xs ≡ true → list_all p ys ≡ true → list_all p (xs ++ ys) ≡ true
all_on p xs ys a b = list_all-append p xs ys ∙ and_from (list_all p xs) (list_all p ys) a b

pub all_reversed : (p : ℕ → Bool) (xs : List ℕ) → list_all p xs ≡ true → list_all p (reverse xs) ≡ true
all_reversed p [] h = refl
all_reversed p (x ∷ xs) h =
    let parts = and_parts (p x) (list_all p xs) h in
    let one : list_all p (x ∷ []) ≡ true = and_from (p x) true parts.0 refl in
    ap (list_all p) (reverse-append (x ∷ []) xs) ∙ all_on p (reverse xs) (x ∷ []) (all_reversed p xs parts.1) one

pub all_take : (p : ℕ → Bool) (n : ℕ) (xs : List ℕ) → list_all p xs ≡ true → list_all p (take n xs) ≡ true
all_take p zero xs h = refl
all_take p (suc n) [] h = refl
all_take p (suc n) (x ∷ xs) h = let parts = and_parts (p x) (list_all p xs) h in and_from (p x) (list_all p (take n xs)) parts.0 (all_take p n xs parts.1)

pub all_such : (p q : ℕ → Bool) → ((b : ℕ) → p b ≡ true → q b ≡ true) → (xs : List ℕ) → list_all p xs ≡ true → list_all q xs ≡ true
all_such p q each [] h = refl
all_such p q each (x ∷ xs) h =
    let parts = and_parts (p x) (list_all p xs) h in and_from (q x) (list_all q xs) (each x parts.0) (all_such p q each xs parts.1)

-- the parts of two texts
pub take_front : (xs ys : List ℕ) → take (length xs) (xs ++ ys) ≡ xs
take_front [] ys = refl
take_front (x ∷ xs) ys = ap (λ z. x ∷ z) (take_front xs ys)

pub drop_front_of : (xs ys : List ℕ) → drop (length xs) (xs ++ ys) ≡ ys
drop_front_of [] ys = refl
drop_front_of (x ∷ xs) ys = drop_front_of xs ys

-- a byte that isn't white space
solid_is : (b : ℕ) → not (is_ascii_whitespace b) ≡ true → is_ascii_whitespace b ≡ false
solid_is b h = by (is_ascii_whitespace b) h
  where
    by : (c : Bool) → not c ≡ true → c ≡ false
    by true e = absurd (false≢true e)
    by false e = refl

pub solid_from : (b : ℕ) → is_ascii_whitespace b ≡ false → not (is_ascii_whitespace b) ≡ true
solid_from b h = rw h refl

pub solid_on : (xs ys : List ℕ) → begins_solid xs ≡ true → begins_solid (xs ++ ys) ≡ true
solid_on [] ys h = absurd (false≢true h)
solid_on (x ∷ xs) ys h = h

pub solid_end : (xs ys : List ℕ) → begins_solid (reverse ys) ≡ true → begins_solid (reverse (xs ++ ys)) ≡ true
solid_end xs ys h = ap begins_solid (reverse-append xs ys) ∙ solid_on (reverse ys) (reverse xs) h

none_in_front : (xs : List ℕ) → begins_solid xs ≡ true → prefix_len is_ascii_whitespace xs ≡ 0
none_in_front [] h = refl
none_in_front (x ∷ xs) h = ap (λ c. cond c (1 + prefix_len is_ascii_whitespace xs) 0) (solid_is x h)

front_off : (gap xs : List ℕ) → list_all is_ascii_whitespace gap ≡ true → prefix_len is_ascii_whitespace xs ≡ 0 → without_front (gap ++ xs) ≡ xs
front_off [] xs h e = ap (λ n. drop n xs) e
front_off (b ∷ bs) xs h e =
    let parts = and_parts (is_ascii_whitespace b) (list_all is_ascii_whitespace bs) h in
    ap (λ c. drop (cond c (1 + prefix_len is_ascii_whitespace (bs ++ xs)) 0) (b ∷ bs ++ xs)) parts.0
    ∙ ap (λ n. drop n (b ∷ bs ++ xs)) (one-add (prefix_len is_ascii_whitespace (bs ++ xs)))
    ∙ front_off bs xs parts.1 e

pub front_dropped : (gap xs : List ℕ) → list_all is_ascii_whitespace gap ≡ true → begins_solid xs ≡ true → without_front (gap ++ xs) ≡ xs
front_dropped gap xs h s = front_off gap xs h (none_in_front xs s)

prefix_is : (gap xs : List ℕ) → list_all is_ascii_whitespace gap ≡ true → prefix_len is_ascii_whitespace xs ≡ 0 → prefix_len is_ascii_whitespace (gap ++ xs) ≡ length gap
prefix_is [] xs h e = e
prefix_is (b ∷ bs) xs h e =
    let parts = and_parts (is_ascii_whitespace b) (list_all is_ascii_whitespace bs) h in
    ap (λ c. cond c (1 + prefix_len is_ascii_whitespace (bs ++ xs)) 0) parts.0
    ∙ one-add (prefix_len is_ascii_whitespace (bs ++ xs))
    ∙ ap suc (prefix_is bs xs parts.1 e)

end_off : (xs gap : List ℕ) → list_all is_ascii_whitespace gap ≡ true → prefix_len is_ascii_whitespace (reverse xs) ≡ 0 → without_end (xs ++ gap) ≡ xs
end_off xs gap h e =
    let n : suffix_len is_ascii_whitespace (xs ++ gap) ≡ length gap =
    ap (prefix_len is_ascii_whitespace) (reverse-append xs gap) ∙ prefix_is (reverse gap) (reverse xs) (all_reversed is_ascii_whitespace gap h) e ∙ length-reverse gap in
    let l = length-append xs gap in
    let m : length (xs ++ gap) - suffix_len is_ascii_whitespace (xs ++ gap) ≡ length xs = omega (arith, n, l) in
    ap (λ k. take k (xs ++ gap)) m ∙ take_front xs gap

pub end_dropped : (xs gap : List ℕ) → list_all is_ascii_whitespace gap ≡ true → begins_solid (reverse xs) ≡ true → without_end (xs ++ gap) ≡ xs
end_dropped xs gap h s = end_off xs gap h (none_in_front (reverse xs) s)

pub trimmed_is : (gap xs more : List ℕ) → list_all is_ascii_whitespace gap ≡ true → list_all is_ascii_whitespace more ≡ true →
    begins_solid xs ≡ true → begins_solid (reverse xs) ≡ true → trimmed (gap ++ (xs ++ more)) ≡ xs
trimmed_is gap xs more g m s e = ap without_end (front_dropped gap (xs ++ more) g (solid_on xs more s)) ∙ end_dropped xs more m e

pub trimmed_same : (xs : List ℕ) → begins_solid xs ≡ true → begins_solid (reverse xs) ≡ true → trimmed xs ≡ xs
trimmed_same xs s e = ap trimmed (sym (append-nil xs)) ∙ trimmed_is [] xs [] refl refl s e

-- nothing is left of white space
pub trimmed_space : (gap : List ℕ) → list_all is_ascii_whitespace gap ≡ true → trimmed gap ≡ []
trimmed_space gap h = ap without_end (ap without_front (sym (append-nil gap)) ∙ front_off gap [] h refl)

-- a text without white space, between white space
abbrev pub is_solid : ℕ → Bool
is_solid b = not (is_ascii_whitespace b)

pub all_solid : (xs : List ℕ) → list_all is_solid xs ≡ true → 0 < length xs → begins_solid xs ≡ true
all_solid [] h some = absurd (omega (arith, some))
all_solid (x ∷ xs) h some = (and_parts (is_solid x) (list_all is_solid xs) h).0

pub all_solid_end : (xs : List ℕ) → list_all is_solid xs ≡ true → 0 < length xs → begins_solid (reverse xs) ≡ true
all_solid_end xs h some = let l = length-reverse xs in all_solid (reverse xs) (all_reversed is_solid xs h) (omega (arith, l, some))

pub trimmed_solid : (gap xs more : List ℕ) → list_all is_ascii_whitespace gap ≡ true → list_all is_ascii_whitespace more ≡ true →
    list_all is_solid xs ≡ true → trimmed (gap ++ (xs ++ more)) ≡ xs
trimmed_solid gap [] more g m h = trimmed_space (gap ++ more) (all_on is_ascii_whitespace gap more g m)
trimmed_solid gap (x ∷ xs) more g m h =
    trimmed_is gap (x ∷ xs) more g m (all_solid (x ∷ xs) h (omega arith)) (all_solid_end (x ∷ xs) h (omega arith))
