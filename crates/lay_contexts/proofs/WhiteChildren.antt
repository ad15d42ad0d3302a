-- White space goes by itself.
use Rattle.std.proofs.Common.{◌≡◌, Bool, true, false, List, [], ◌∷◌, ◌++◌, refl, ap, sym, ◌∙◌, if◌then◌else◌, Option, None, Some}
use Rattle.std.proofs.lemmas.List.{append-nil, append_assoc}
use Rattle.lay_boxgen.specs.Boxes.{Tree, facts_of}
use Rattle.lay_boxgen.specs.Irrelevant.{is_irrelevant, kept_from, kept_gap}
use Rattle.lay_boxgen.specs.Runs.{is_white_box}
use Rattle.lay_boxgen.specs.declared.facts.Facts.{Facts}
use Rattle.lay_boxgen.specs.declared.facts.Form.{Form}
use Rattle.lay_contexts.specs.WhiteSpaceLaws.{WhiteSpaceGoesByItself, child_kept, children_kept, first_seen, last_seen, or_else_facts}

abbrev AllWhite : List Tree → Type 0
AllWhite [] = Unit {0}
AllWhite (t ∷ ts) = (is_white_box t ≡ true) × AllWhite ts

else-none : (o : Option Facts) → or_else_facts o None ≡ o
else-none None = refl
else-none (Some f) = refl

white-last : (xs : List Tree) (t : Tree) → is_white_box t ≡ true → last_seen (xs ++ t ∷ []) ≡ last_seen xs
white-last [] t h = simp h refl
white-last (x ∷ xs) t h = ap (λ o. or_else_facts o (if is_white_box x then None else Some (facts_of x))) (white-last xs t h)

seen-last : (xs : List Tree) (t : Tree) → is_white_box t ≡ false → last_seen (xs ++ t ∷ []) ≡ Some (facts_of t)
seen-last [] t h = simp h refl
seen-last (x ∷ xs) t h = ap (λ o. or_else_facts o (if is_white_box x then None else Some (facts_of x))) (seen-last xs t h)

white-first : (gap rest : List Tree) → AllWhite gap → first_seen (gap ++ rest) ≡ first_seen rest
white-first [] rest h = refl
white-first (t ∷ gap) rest h = simp (h.0) (white-first gap rest h.1)

either : (c : Bool) (xs : List Tree) → (if c then xs else xs) ≡ xs
either true xs = refl
either false xs = refl

module _ (p : Form) where
  gap-cons : (b a : Option Facts) (t : Tree) (gap : List Tree) → kept_gap p b (t ∷ gap) a ≡ (if is_irrelevant p b a then [] else (t ∷ [])) ++ kept_gap p b gap a
  gap-cons b a t gap = by (is_irrelevant p b a)
    where
      by : (c : Bool) → (if c then [] else t ∷ gap) ≡ (if c then [] else (t ∷ [])) ++ (if c then [] else gap)
      by true = refl
      by false = refl

  gap-none : (b a : Option Facts) → kept_gap p b [] a ≡ []
  gap-none b a = either (is_irrelevant p b a) []

  -- white space between two siblings goes or stays together
  through-gap : (before gap rest : List Tree) → AllWhite gap
      → children_kept p before (gap ++ rest) ≡ kept_gap p (last_seen before) gap (first_seen rest) ++ children_kept p (before ++ gap) rest
  through-gap before [] rest h =
      ap (λ r. children_kept p r rest) (sym (append-nil before)) ∙ ap (λ r. r ++ children_kept p (before ++ []) rest) (sym (gap-none (last_seen before) (first_seen rest)))
  through-gap before (t ∷ gap) rest h =
      let first : child_kept p before t (gap ++ rest) ≡ (if is_irrelevant p (last_seen before) (first_seen rest) then [] else (t ∷ [])) =
      simp h.0 (ap (λ a. if is_irrelevant p (last_seen before) a then [] else (t ∷ [])) (white-first gap rest h.1)) in
      let later : children_kept p (before ++ t ∷ []) (gap ++ rest) ≡ kept_gap p (last_seen before) gap (first_seen rest) ++ children_kept p (before ++ t ∷ gap) rest =
      through-gap (before ++ t ∷ []) gap rest h.1
      ∙ (ap (λ o. kept_gap p o gap (first_seen rest) ++ children_kept p ((before ++ t ∷ []) ++ gap) rest) (white-last before t h.0)
      ∙ ap (λ r. kept_gap p (last_seen before) gap (first_seen rest) ++ children_kept p r rest) (append_assoc before (t ∷ []) gap)) in
      ap (λ r. r ++ children_kept p (before ++ t ∷ []) (gap ++ rest)) first
      ∙ (ap (λ r. (if is_irrelevant p (last_seen before) (first_seen rest) then [] else (t ∷ [])) ++ r) later
      ∙ (sym (append_assoc (if is_irrelevant p (last_seen before) (first_seen rest) then [] else (t ∷ [])) (kept_gap p (last_seen before) gap (first_seen rest)) (children_kept p (before ++ t ∷ gap) rest))
      ∙ ap (λ r. r ++ children_kept p (before ++ t ∷ gap) rest) (sym (gap-cons (last_seen before) (first_seen rest) t gap))))

  longer : (gap : List Tree) (t : Tree) → AllWhite gap → is_white_box t ≡ true → AllWhite (gap ++ t ∷ [])
  longer [] t h e = (e, tt)
  longer (x ∷ gap) t h e = (h.0, longer gap t h.1 e)

  kept : (ts before gap : List Tree) (b : Option Facts) → AllWhite gap → last_seen before ≡ b → kept_from p b gap ts ≡ children_kept p before (gap ++ ts)
  kept [] before gap b h e =
      ap (λ o. kept_gap p o gap None) (sym e) ∙ (sym (append-nil (kept_gap p (last_seen before) gap None)) ∙ sym (through-gap before gap [] h))
  kept (t ∷ ts) before gap b h e = by (kept ts) (is_white_box t) refl
    where
      by : ((bs gap : List Tree) (b : Option Facts) → AllWhite gap → last_seen bs ≡ b → kept_from p b gap ts ≡ children_kept p bs (gap ++ ts)) → (c : Bool) → is_white_box t ≡ c
          → (if c then kept_from p b (gap ++ t ∷ []) ts else kept_gap p b gap (Some (facts_of t)) ++ t ∷ [] ++ kept_from p (Some (facts_of t)) [] ts) ≡ children_kept p before (gap ++ t ∷ ts)
      by rest true w = rest before (gap ++ t ∷ []) b (longer gap t h w) e ∙ ap (children_kept p before) (append_assoc gap (t ∷ []) ts)
      by rest false w =
          let seen : first_seen (t ∷ ts) ≡ Some (facts_of t) = simp w refl in
          let stays : child_kept p (before ++ gap) t ts ≡ t ∷ [] = simp w refl in
          let r = rest ((before ++ gap) ++ t ∷ []) [] (Some (facts_of t)) tt (seen-last (before ++ gap) t w) in
          append_assoc (kept_gap p b gap (Some (facts_of t))) (t ∷ []) (kept_from p (Some (facts_of t)) [] ts)
          ∙ (ap (λ o. kept_gap p o gap (Some (facts_of t)) ++ (t ∷ kept_from p (Some (facts_of t)) [] ts)) (sym e)
          ∙ (ap (λ xs. kept_gap p (last_seen before) gap (Some (facts_of t)) ++ (t ∷ xs)) r
          ∙ (ap (λ xs. kept_gap p (last_seen before) gap (Some (facts_of t)) ++ (xs ++ children_kept p ((before ++ gap) ++ t ∷ []) ts)) (sym stays)
          ∙ (ap (λ o. kept_gap p (last_seen before) gap o ++ children_kept p (before ++ gap) (t ∷ ts)) (sym seen)
          ∙ sym (through-gap before gap (t ∷ ts) h)))))

pub white_space_goes_by_itself : WhiteSpaceGoesByItself
white_space_goes_by_itself p children = kept p children [] [] None tt refl
