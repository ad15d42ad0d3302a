-- Open boxes, content after content.
use Rattle.std.proofs.Common.{◌≡◌, ◌∙◌, ℕ, zero, suc, ◌<◌, Bool, IsTrue, IsFalse, List, [], ◌∷◌, ◌++◌, inl, inr, take, drop, refl, ap, arith}
use Rattle.std.proofs.lemmas.Bool.{cases_lt}
use Rattle.lay_lines.specs.declared.content.content.Part.{Part}
use Rattle.lay_lines.specs.declared.content.content.Part.TheVariants.{Space, PreservedSpace, Tab, Linefeed, Text, Start, End, Atomic}
use Rattle.lay_lines.specs.declared.content.content.Stretch.{Stretch}
use Rattle.lay_lines.specs.Content.LineContents.{boxes_of, boxes_of_part, total}
use Rattle.lay_lines.proofs.ContentLemmas.Outcomes.{not_both}
use Rattle.lay_inlines.specs.OpenBoxes.{open_after, open_after_part}
use Rattle.lay_inlines.specs.Strokes.{parts_of}

pub open_after-append : (ns : List ℕ) (xs ys : List Part) → open_after ns (xs ++ ys) ≡ open_after (open_after ns xs) ys
open_after-append ns [] ys = refl
open_after-append ns (x ∷ xs) ys = open_after-append (open_after_part ns x) xs ys

-- no inline box opens where none is
none_opens : (x : Part) → boxes_of_part x ≡ 0 → open_after_part [] x ≡ []
none_opens (Space w) none = refl
none_opens (PreservedSpace w) none = refl
none_opens (Tab t) none = refl
none_opens Linefeed none = refl
none_opens (Text w) none = refl
none_opens (Start b) none = absurd cc
none_opens (End b) none = refl
none_opens (Atomic b) none = refl

none_open : (xs : List Part) → total boxes_of_part xs ≡ 0 → open_after [] xs ≡ []
none_open [] none = refl
none_open (x ∷ xs) none = ap (λ (ns : List ℕ). open_after ns xs) (none_opens x (omega (arith, none))) ∙ none_open xs (omega (arith, none))

pub none_open_after : (ss : List Stretch) → boxes_of ss ≡ 0 → open_after [] (parts_of ss) ≡ []
none_open_after [] none = refl
none_open_after (s ∷ ss) none =
    open_after-append [] s.parts (parts_of ss) ∙ ap (λ (ns : List ℕ). open_after ns (parts_of ss)) (none_open s.parts (omega (arith, none))) ∙ none_open_after ss (omega (arith, none))

pub none_in_front : (n : ℕ) (ss : List Stretch) → boxes_of ss ≡ 0 → boxes_of (take n ss) ≡ 0
none_in_front zero ss none = refl
none_in_front (suc n) [] none = refl
none_in_front (suc n) (s ∷ ss) none = let e = none_in_front n ss (omega (arith, none)) in omega (arith, e, none)

pub none_behind : (n : ℕ) (ss : List Stretch) → boxes_of ss ≡ 0 → boxes_of (drop n ss) ≡ 0
none_behind zero ss none = none
none_behind (suc n) [] none = refl
none_behind (suc n) (s ∷ ss) none = none_behind n ss (omega (arith, none))

-- what the code is told of content
pub has_none : (b : Bool) (ss : List Stretch) → (0 < boxes_of ss → IsTrue b) → IsFalse b → boxes_of ss ≡ 0
has_none b ss some none = elim (cases_lt 0 (boxes_of ss)) [
  | inl less ↦ absurd (not_both b (some less) none)
  | inr least ↦ omega (arith, least)
]
