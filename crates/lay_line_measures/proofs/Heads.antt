-- Floats before the content of a stretch.
use Rattle.std.proofs.Common.{◌≡◌, ◌∙◌, zero, suc, Bool, true, false, List, [], ◌∷◌, refl, sym, ap, arith}
use Rattle.std.proofs.lemmas.Option.{same_Some, slice_get_within}
use Rattle.lay_space.specs.declared.item.Item.{Item}
use Rattle.lay_space.specs.declared.segment.Segment.{Segment}
use Rattle.lay_lines.specs.declared.content.content.Stretch.{Stretch}
use Rattle.lay_lines.specs.FloatNumbers.{HeadsBeginLines}
use Rattle.lay_line_measures.specs.declared.container.Container.{Container}
use Rattle.lay_line_measures.specs.BoxMeasuresValue.{BoxMeasuresValue}
use Rattle.lay_line_measures.specs.Laws.{HeadsOfContentBeginLines}
use Rattle.lay_line_measures.specs.Stretches.{heads_of, stretch_of, stretches_of}

none_behind : (m : BoxMeasuresValue) (c : Container) (xs : List Item) → heads_of m c false xs ≡ []
none_behind m c [] = refl
none_behind m c (x ∷ xs) = none_behind m c xs

begin : (m : BoxMeasuresValue) (c : Container) (b : Bool) (segments : List Segment) → HeadsBeginLines (stretches_of m c b segments)
begin m c b [] k s t is next not = absurd (let w = slice_get_within [] k s is in omega (arith, w))
begin m c b (a ∷ []) zero s t is next not = absurd (let w = slice_get_within [] zero t next in omega (arith, w))
begin m c b (a ∷ d ∷ ds) zero s t is next not =
    let first = same_Some (stretch_of m c b a) s is in
    let second = same_Some (stretch_of m c a.forced d) t next in
    let forced : a.forced ≡ false = ap (λ (u : Stretch). u.forced) first ∙ not in
    let heads = ap (λ (f : Bool). heads_of m c f d.items) forced in
    sym (ap (λ (u : Stretch). u.heads) second) ∙ heads ∙ none_behind m c d.items
begin m c b (a ∷ ds) (suc k) s t is next not = begin m c a.forced ds k s t is next not

pub heads_begin_lem : HeadsOfContentBeginLines
heads_begin_lem m c segments = begin m c true segments
