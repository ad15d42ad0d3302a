-- Lines of content without boxes.
use Rattle.std.proofs.Common.{◌≡◌, ◌∙◌, ℕ, List, drop, sym, ap, subst, arith}
use Rattle.lay_lines.specs.declared.content.content.InlineStart.{InlineStart}
use Rattle.lay_lines.specs.declared.content.content.Stretch.{Stretch}
use Rattle.lay_lines.specs.declared.content.frame.Frame.{Frame}
use Rattle.lay_lines.specs.Content.Extents.{Reading, reading_to}
use Rattle.lay_lines.specs.Content.LineContents.{boxes_of, boxes_of_part, total, HasNoBoxes}
use Rattle.lay_lines.proofs.ContentLemmas.TextLines.{text_reading}
use Rattle.lay_lines.proofs.ContentLemmas.Totals.{drop_less, total_next}
use Rattle.lay_lines.specs.Rows.{OpensNone}

none_at : (ss : List Stretch) (n : ℕ) → boxes_of ss ≡ 0 → HasNoBoxes ss n
none_at ss n none k s lt is = let e = total_next (λ (x : Stretch). total boxes_of_part x.parts) ss k s is in omega (arith, e, none)

-- what a line takes of such content is read as if it took nothing
pub same_reading : (fr : Frame) (bs : List InlineStart) (ss : List Stretch) (n m : ℕ) → OpensNone bs ss → reading_to fr bs ss n ≡ reading_to fr bs ss m
same_reading fr bs ss n m is =
    subst (λ (cs : List InlineStart). reading_to fr cs ss n ≡ reading_to fr cs ss m) (sym is.none)
    (text_reading fr ss n (none_at ss n is.no_boxes) ∙ sym (text_reading fr ss m (none_at ss m is.no_boxes)))

-- and none opens behind it
pub opens_none : (fr : Frame) (bs cs : List InlineStart) (ss ts : List Stretch) (n : ℕ) → OpensNone bs ss → cs ≡ (reading_to fr bs ss n).open_boxes → ts ≡ drop n ss → OpensNone cs ts
opens_none fr bs cs ss ts n is e f = record {
  none = e ∙ ap (λ (r : Reading). r.open_boxes) (same_reading fr bs ss n 0 is) ∙ is.none;
  no_boxes = (let less = drop_less (λ (x : Stretch). total boxes_of_part x.parts) ss n in let none = is.no_boxes in ap boxes_of f ∙ omega (arith, less, none));
}
