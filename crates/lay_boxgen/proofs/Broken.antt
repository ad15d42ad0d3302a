-- Inline boxes are broken round each longest break, and in no other way.
use Rattle.std.proofs.Common.{◌≡◌, Bool, true, false, ◌&&◌, not, List, [], ◌∷◌, ◌++◌, filter, refl, ap, sym, subst, ◌∙◌, if◌then◌else◌}
use Rattle.std.proofs.lemmas.List.{append_assoc, append-nil}
use Rattle.lay_boxgen.specs.Boxes.{Tree, tree, trees_of, facts_of}
use Rattle.lay_boxgen.specs.BreakLaws.{HasNoBlock, IsUnseen, IsBreak, one, further, EndsBreak, nothing_follows, other, behind_unseen, IsBroken, last, break, InlinesAreBroken}
use Rattle.lay_boxgen.specs.BrokenInlines.{is_block_box, is_unseen, is_no_text_box, parts_from}
use Rattle.lay_boxgen.specs.Forms.{is_in_flow, is_inline_level, is_text}
use Rattle.lay_boxgen.specs.declared.facts.Facts.{Facts}
use Rattle.lay_boxgen.specs.declared.facts.Form.{Form}
use Rattle.lay_boxgen.specs.declared.facts.Form.TheVariants.{Text}
use Rattle.lay_boxgen.proofs.Replaced.{seam}

text-level : (form : Form) → (b : Bool) → (b && not (is_inline_level form)) ≡ true → not (is_text form) ≡ true
text-level (Text t) true h = cc
text-level (Text t) false h = cc
text-level _ b h = refl

-- a block is no text
no_text : (t : Tree) → is_block_box t ≡ true → is_no_text_box t ≡ true
no_text (tree f us) h = text-level f.form (is_in_flow f.flow) h

one_left : (t : Tree) → is_block_box t ≡ true → filter is_no_text_box (t ∷ []) ≡ t ∷ []
one_left t h = simp (no_text t h) refl

filter_by : (t : Tree) (xs ys : List Tree) → filter is_no_text_box (xs ++ ys) ≡ filter is_no_text_box xs ++ filter is_no_text_box ys → (b : Bool)
    → (if b then t ∷ filter is_no_text_box (xs ++ ys) else filter is_no_text_box (xs ++ ys))
    ≡ (if b then t ∷ filter is_no_text_box xs else filter is_no_text_box xs) ++ filter is_no_text_box ys
filter_by t xs ys ih true = ap (λ r. t ∷ r) ih
filter_by t xs ys ih false = ih

filter-append : (xs ys : List Tree) → filter is_no_text_box (xs ++ ys) ≡ filter is_no_text_box xs ++ filter is_no_text_box ys
filter-append [] ys = refl
filter-append (x ∷ xs) ys = filter_by x xs ys (filter-append xs ys) (is_no_text_box x)

-- the boxes of a longer break
longer : (blocks gap : List Tree) (t : Tree) → is_block_box t ≡ true → (ts : List Tree)
    → filter is_no_text_box (blocks ++ gap ++ t ∷ []) ++ ts ≡ filter is_no_text_box blocks ++ (filter is_no_text_box gap ++ t ∷ ts)
longer blocks gap t h ts =
    ap (λ r. r ++ ts) (filter-append (blocks ++ gap) (t ∷ [])
    ∙ (ap (λ r. r ++ filter is_no_text_box (t ∷ [])) (filter-append blocks gap)
    ∙ ap (λ r. filter is_no_text_box blocks ++ filter is_no_text_box gap ++ r) (one_left t h)))
    ∙ seam (filter is_no_text_box blocks) (filter is_no_text_box gap) t ts

module _ (f : Facts) where
  abbrev part_of : List Tree → Tree
  part_of held = tree f (trees_of held)

  skip : (held : List Tree) (t : Tree) (ts : List Tree) → is_block_box t ≡ false → parts_from f false held (t ∷ ts) ≡ parts_from f false (held ++ t ∷ []) ts
  skip held t ts h = simp h refl

  skip_unseen : (held : List Tree) (t : Tree) (ts : List Tree) → is_block_box t ≡ false → is_unseen (facts_of t) ≡ true
      → parts_from f true held (t ∷ ts) ≡ parts_from f true (held ++ t ∷ []) ts
  skip_unseen held t ts h u = simp (h, u) refl

  skip_seen : (held : List Tree) (t : Tree) (ts : List Tree) → is_block_box t ≡ false → is_unseen (facts_of t) ≡ false
      → parts_from f true held (t ∷ ts) ≡ parts_from f false (held ++ t ∷ []) ts
  skip_seen held t ts h u = simp (h, u) refl

  first_block : (held : List Tree) (t : Tree) (ts : List Tree) → is_block_box t ≡ true → parts_from f false held (t ∷ ts) ≡ part_of held ∷ t ∷ parts_from f true [] ts
  first_block held t ts h = simp h refl

  next_block : (held : List Tree) (t : Tree) (ts : List Tree) → is_block_box t ≡ true
      → parts_from f true held (t ∷ ts) ≡ filter is_no_text_box held ++ t ∷ parts_from f true [] ts
  next_block held t ts h =
      let step : parts_from f true held (t ∷ ts) ≡ (filter is_no_text_box held ++ t ∷ []) ++ parts_from f true [] ts = simp h refl in
      step ∙ append_assoc (filter is_no_text_box held) (t ∷ []) (parts_from f true [] ts)

  through_held : (before held ts : List Tree) → HasNoBlock held → parts_from f false before (held ++ ts) ≡ parts_from f false (before ++ held) ts
  through_held before [] ts n = ap (λ r. parts_from f false r ts) (sym (append-nil before))
  through_held before (t ∷ held) ts n =
      skip before t (held ++ ts) n.0
      ∙ (through_held (before ++ t ∷ []) held ts n.1 ∙ ap (λ r. parts_from f false r ts) (append_assoc before (t ∷ []) held))

  through_unseen : (before gap ts : List Tree) → IsUnseen gap → parts_from f true before (gap ++ ts) ≡ parts_from f true (before ++ gap) ts
  through_unseen before [] ts n = ap (λ r. parts_from f true r ts) (sym (append-nil before))
  through_unseen before (t ∷ gap) ts n =
      skip_unseen before t (gap ++ ts) n.0 n.1
      ∙ (through_unseen (before ++ t ∷ []) gap ts n.2 ∙ ap (λ r. parts_from f true r ts) (append_assoc before (t ∷ []) gap))

  through_break : (held blocks ts : List Tree) → IsBreak blocks
      → parts_from f false held (blocks ++ ts) ≡ part_of held ∷ filter is_no_text_box blocks ++ parts_from f true [] ts
  through_break held blocks ts (one t h) =
      first_block held t ts h ∙ ap (λ r. part_of held ∷ r ++ parts_from f true [] ts) (sym (one_left t h))
  through_break held blocks ts (further bs gap t b g h) =
      ap (parts_from f false held) (seam bs gap t ts)
      ∙ (through_break held bs (gap ++ t ∷ ts) b
      ∙ (ap (λ r. part_of held ∷ filter is_no_text_box bs ++ r) (through_unseen [] gap (t ∷ ts) g ∙ next_block gap t ts h)
      ∙ ap (λ r. part_of held ∷ r) (sym (longer bs gap t h (parts_from f true [] ts)))))

  -- behind a break that is over
  ended : (held ts : List Tree) → EndsBreak ts → parts_from f true held ts ≡ parts_from f false held ts
  ended held ts nothing_follows = refl
  ended held ts (other t us h u) = skip_seen held t us h u ∙ sym (skip held t us h)
  ended held ts (behind_unseen t us h u e) = skip_unseen held t us h u ∙ (ended (held ++ t ∷ []) us e ∙ sym (skip held t us h))

  only : (ts us : List Tree) → IsBroken f ts us → us ≡ parts_from f false [] ts
  only ts us (last held n) = sym (ap (parts_from f false []) (sym (append-nil held)) ∙ through_held [] held [] n)
  only ts us (break held blocks xs ys n b e r) =
      ap (λ r. part_of held ∷ filter is_no_text_box blocks ++ r) (only xs ys r ∙ sym (ended [] xs e))
      ∙ sym (through_held [] held (blocks ++ xs) n ∙ through_break held blocks xs b)

  longer_held : (held : List Tree) (t : Tree) → HasNoBlock held → is_block_box t ≡ false → HasNoBlock (held ++ t ∷ [])
  longer_held [] t n h = (h, tt)
  longer_held (x ∷ held) t n h = (n.0, longer_held held t n.1 h)

  longer_gap : (gap : List Tree) (t : Tree) → IsUnseen gap → is_block_box t ≡ false → is_unseen (facts_of t) ≡ true → IsUnseen (gap ++ t ∷ [])
  longer_gap [] t n h u = (h, u, tt)
  longer_gap (x ∷ gap) t n h u = (n.0, n.1, longer_gap gap t n.2 h u)

  held_gap : (gap : List Tree) → IsUnseen gap → HasNoBlock gap
  held_gap [] n = tt
  held_gap (x ∷ gap) n = (n.0, held_gap gap n.2)

  gap_ends : (gap ts : List Tree) → IsUnseen gap → EndsBreak ts → EndsBreak (gap ++ ts)
  gap_ends [] ts n e = e
  gap_ends (t ∷ gap) ts n e = behind_unseen t (gap ++ ts) n.0 n.1 (gap_ends gap ts n.2 e)

  -- in a part, and in a break
  abbrev Both : List Tree → Type 0
  Both ts =
      ((held : List Tree) → HasNoBlock held → IsBroken f (held ++ ts) (parts_from f false held ts))
      × ((held blocks gap : List Tree) → HasNoBlock held → IsBreak blocks → IsUnseen gap
      → IsBroken f (held ++ (blocks ++ (gap ++ ts))) (part_of held ∷ filter is_no_text_box blocks ++ parts_from f true gap ts))

  part_by : (t : Tree) (ts : List Tree) → Both ts → (held : List Tree) → HasNoBlock held → (b : Bool) → is_block_box t ≡ b
      → IsBroken f (held ++ t ∷ ts) (parts_from f false held (t ∷ ts))
  part_by t ts ih held n true h =
      subst (IsBroken f (held ++ t ∷ ts))
      (ap (λ r. part_of held ∷ r ++ parts_from f true [] ts) (one_left t h) ∙ sym (first_block held t ts h))
      (ih.1 held (t ∷ []) [] n (one t h) tt)
  part_by t ts ih held n false h =
      subst (λ r. IsBroken f r (parts_from f false held (t ∷ ts))) (append_assoc held (t ∷ []) ts)
      (subst (IsBroken f ((held ++ t ∷ []) ++ ts)) (sym (skip held t ts h)) (ih.0 (held ++ t ∷ []) (longer_held held t n h)))

  break_by : (t : Tree) (ts : List Tree) → Both ts → (held blocks gap : List Tree) → HasNoBlock held → IsBreak blocks → IsUnseen gap
      → (b u : Bool) → is_block_box t ≡ b → is_unseen (facts_of t) ≡ u
      → IsBroken f (held ++ (blocks ++ (gap ++ t ∷ ts))) (part_of held ∷ filter is_no_text_box blocks ++ parts_from f true gap (t ∷ ts))
  break_by t ts ih held blocks gap n b g true u h v =
      subst (λ r. IsBroken f (held ++ r) (part_of held ∷ filter is_no_text_box blocks ++ parts_from f true gap (t ∷ ts))) (seam blocks gap t ts)
      (subst (IsBroken f (held ++ ((blocks ++ gap ++ t ∷ []) ++ ts)))
      (ap (λ r. part_of held ∷ r) (longer blocks gap t h (parts_from f true [] ts) ∙ ap (λ r. filter is_no_text_box blocks ++ r) (sym (next_block gap t ts h))))
      (ih.1 held (blocks ++ gap ++ t ∷ []) [] n (further blocks gap t b g h) tt))
  break_by t ts ih held blocks gap n b g false true h v =
      subst (λ r. IsBroken f (held ++ (blocks ++ r)) (part_of held ∷ filter is_no_text_box blocks ++ parts_from f true gap (t ∷ ts))) (append_assoc gap (t ∷ []) ts)
      (subst (IsBroken f (held ++ (blocks ++ ((gap ++ t ∷ []) ++ ts))))
      (ap (λ r. part_of held ∷ filter is_no_text_box blocks ++ r) (sym (skip_unseen gap t ts h v)))
      (ih.1 held blocks (gap ++ t ∷ []) n b (longer_gap gap t g h v)))
  break_by t ts ih held blocks gap n b g false false h v =
      break held blocks (gap ++ t ∷ ts) (parts_from f true gap (t ∷ ts)) n b (gap_ends gap (t ∷ ts) g (other t ts h v))
      (subst (λ r. IsBroken f r (parts_from f true gap (t ∷ ts))) (append_assoc gap (t ∷ []) ts)
      (subst (IsBroken f ((gap ++ t ∷ []) ++ ts)) (sym (skip_seen gap t ts h v)) (ih.0 (gap ++ t ∷ []) (longer_held gap t (held_gap gap g) h))))

  part_end : (held : List Tree) → HasNoBlock held → IsBroken f (held ++ []) (part_of held ∷ [])
  part_end held n = subst (λ r. IsBroken f r (part_of held ∷ [])) (sym (append-nil held)) (last held n)

  break_end : (held blocks gap : List Tree) → HasNoBlock held → IsBreak blocks → IsUnseen gap
      → IsBroken f (held ++ (blocks ++ (gap ++ []))) (part_of held ∷ filter is_no_text_box blocks ++ part_of gap ∷ [])
  break_end held blocks gap n b g =
      break held blocks (gap ++ []) (part_of gap ∷ []) n b (gap_ends gap [] g nothing_follows) (part_end gap (held_gap gap g))

  both : (ts : List Tree) → Both ts
  both [] = (part_end, break_end)
  both (t ∷ ts) =
      let ih = both ts in (
        λ held n. part_by t ts ih held n (is_block_box t) refl,
        λ held blocks gap n b g. break_by t ts ih held blocks gap n b g (is_block_box t) (is_unseen (facts_of t)) refl refl,
      )

pub inlines_are_broken : InlinesAreBroken
inlines_are_broken f ts us = (λ r. only f ts us r, λ e. subst (IsBroken f ts) (sym e) ((both f ts).0 [] tt))
