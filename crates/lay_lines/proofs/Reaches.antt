-- How far a line has come in its room.
use Rattle.std.proofs.Common.{◌≡◌, ◌∙◌, ◌↔◌, ℕ, suc, ◌+◌, ◌≤◌, ℤ, ◌+ℤ◌, ◌-ℤ◌, ◌≤ℤ◌, List, length, slice_get, Some, IsTrue, Bool, sym, ap, subst, arith, add-one}
use Rattle.std.proofs.lemmas.Option.{slice_get_within}
use Rattle.lay_units.specs.Units.{IsPosition}
use Rattle.lay_units.specs.declared.length.Unit.{Unit}
use Rattle.lay_floats.specs.declared.placed.Placed.{Placed}
use Rattle.lay_floats.specs.Laws.{OneRoom}
use Rattle.lay_lines.specs.declared.content.content.Stretch.{Stretch}
use Rattle.lay_lines.specs.declared.content.frame.Frame.{Frame}
use Rattle.lay_lines.specs.declared.content.pen.Pen.{Pen}
use Rattle.lay_lines.specs.Content.Pens.{past, pen_to, seen_to, PenFits, PensFit}
use Rattle.lay_lines.proofs.ContentLemmas.PenOrder.{pen_next, pen_fits, same_seen}
use Rattle.lay_lines.specs.declared.reach.Reach.{Reach}
use Rattle.lay_lines.specs.Meeting.{IsLineRoom, HasRoom, RoomsFit}
use Rattle.lay_lines.specs.Filling.{HasFit, TakesNoRoom}
use Rattle.lay_lines.specs.Reaching.{IsPen, IsReach}

abbrev pub reach_of : ℕ → Unit → Unit → Pen → Reach
reach_of count start end pen = record { count = count; start = start; end = end; pen = pen }

pub pen_is : (fr : Frame) (ss : List Stretch) (count : ℕ) (start end : Unit) (pen : Pen) → pen ≡ pen_to fr start.0 ss count → PenFits (pen_to fr start.0 ss count) → IsPen fr ss (reach_of count start end pen)
pen_is fr ss count start end pen e fits = record { pen = e; fits = subst PenFits (sym e) fits }

pub reach_is : (fr : Frame) (y : ℤ) (ss : List Stretch) (floats : List Placed) (count : ℕ) (start end : Unit) (pen : Pen) → RoomsFit fr floats ss → IsLineRoom fr y floats start.0 end.0 → IsPosition start.0 → IsPosition end.0
    → count ≤ length ss → pen ≡ pen_to fr start.0 ss count → IsReach fr y ss floats (reach_of count start end pen)
reach_is fr y ss floats count start end pen rooms room low high within e = record {
  pen_is = pen_is fr ss count start end pen e (pen_fits fr start.0 ss count (rooms y start.0 end.0 room) within);
  room = room;
  start = low;
  end = high;
}

-- what a stretch more needs
pub next_fits : (fr : Frame) (y : ℤ) (ss : List Stretch) (floats : List Placed) (r : Reach) (s : Stretch) → RoomsFit fr floats ss → IsReach fr y ss floats r → slice_get ss r.count ≡ Some s → PensFit fr r.pen s.parts
next_fits fr y ss floats r s rooms is at =
    subst (λ (p : Pen). PensFit fr p s.parts) (sym is.pen_is.pen) ((rooms y r.start.0 r.end.0 is.room).stretches r.count s at)

pub next_reach : (fr : Frame) (y : ℤ) (ss : List Stretch) (floats : List Placed) (r : Reach) (s : Stretch) (pen : Pen) → RoomsFit fr floats ss → IsReach fr y ss floats r → slice_get ss r.count ≡ Some s → pen ≡ past fr r.pen s
    → IsReach fr y ss floats (reach_of (r.count + 1) r.start r.end pen)
next_reach fr y ss floats r s pen rooms is at e =
    let within = slice_get_within ss r.count s at in
    let here = e ∙ pen_next fr r.start.0 ss r.count r.pen s is.pen_is.pen at in
    reach_is fr y ss floats (r.count + 1) r.start r.end pen rooms is.room is.start is.end (omega (arith, within))
    (subst (λ (n : ℕ). pen ≡ pen_to fr r.start.0 ss n) (sym (add-one r.count)) here)

pub fits_means : OneRoom → (fr : Frame) (y : ℤ) (ss : List Stretch) (floats : List Placed) (r : Reach) (b : Bool) (d : ℤ) → IsReach fr y ss floats r → d ≡ r.end.0 -ℤ fr.left.0 → (IsTrue b ↔ r.pen.visible.0 ≤ℤ d)
    → (IsTrue b ↔ HasFit fr y ss r.count floats)
fits_means one fr y ss floats r b d is e test = (
  (λ t. (r.start.0, r.end.0, is.room, subst (λ (p : Pen). p.visible.0 ≤ℤ (r.end.0 -ℤ fr.left.0)) is.pen_is.pen (subst (λ (n : ℤ). r.pen.visible.0 ≤ℤ n) e (test.0 t)))),
  (λ h.
      (let same = one _ _ _ _ _ _ _ _ _ h.2 is.room in
      let at_start = subst (λ (a : ℤ). (pen_to fr a ss r.count).visible.0 ≤ℤ (h.1 -ℤ fr.left.0)) same.0 h.3 in
      let at_end = subst (λ (n : ℤ). (pen_to fr r.start.0 ss r.count).visible.0 ≤ℤ (n -ℤ fr.left.0)) same.1 at_start in
      test.1 (subst (λ (n : ℤ). r.pen.visible.0 ≤ℤ n) (sym e) (subst (λ (p : Pen). p.visible.0 ≤ℤ (r.end.0 -ℤ fr.left.0)) (sym is.pen_is.pen) at_end)))),
)

pub no_room_means : OneRoom → (fr : Frame) (y : ℤ) (ss : List Stretch) (floats : List Placed) (r before : Reach) (b : Bool) → IsReach fr y ss floats r → IsReach fr y ss floats before → r.count ≡ before.count + 1
    → (IsTrue b ↔ r.pen.visible.0 ≤ℤ before.pen.visible.0) → (IsTrue b ↔ TakesNoRoom fr y ss before.count floats)
no_room_means one fr y ss floats r before b is was e test =
    let k = before.count in
    let starts = one _ _ _ _ _ _ _ _ _ is.room was.room in
    let here = is.pen_is.pen ∙ ap (λ (a : ℤ). pen_to fr a ss r.count) starts.0 ∙ ap (λ (n : ℕ). pen_to fr before.start.0 ss n) (e ∙ add-one k) in
    let ends = ap (λ (p : Pen). p.visible.0) here in
    let ends_before = ap (λ (p : Pen). p.visible.0) was.pen_is.pen in (
      (λ t. (before.start.0, before.end.0, was.room, subst (λ (v : ℤ). v ≤ℤ (pen_to fr before.start.0 ss k).visible.0) ends (subst (λ (v : ℤ). r.pen.visible.0 ≤ℤ v) ends_before (test.0 t)))),
      (λ h.
          (let same = one _ _ _ _ _ _ _ _ _ h.2 was.room in
          let at_start = subst (λ (a : ℤ). (pen_to fr a ss (suc k)).visible.0 ≤ℤ (pen_to fr a ss k).visible.0) same.0 h.3 in
          test.1 (subst (λ (v : ℤ). r.pen.visible.0 ≤ℤ v) (sym ends_before) (subst (λ (v : ℤ). v ≤ℤ (pen_to fr before.start.0 ss k).visible.0) (sym ends) at_start)))),
    )

pub room_means : OneRoom → (fr : Frame) (y : ℤ) (ss : List Stretch) (floats : List Placed) (r : Reach) (width : ℤ) (b : Bool) (sum d : ℤ) → IsReach fr y ss floats r → sum ≡ r.pen.solid.0 +ℤ width → d ≡ r.end.0 -ℤ fr.left.0
    → (IsTrue b ↔ sum ≤ℤ d) → (IsTrue b ↔ HasRoom fr y ss r.count floats width)
room_means one fr y ss floats r width b sum d is s e test = (
  (λ t. (r.start.0, r.end.0, is.room, subst (λ (p : Pen). (p.solid.0 +ℤ width) ≤ℤ (r.end.0 -ℤ fr.left.0)) is.pen_is.pen (subst (λ (n : ℤ). n ≤ℤ (r.end.0 -ℤ fr.left.0)) s (subst (λ (n : ℤ). sum ≤ℤ n) e (test.0 t))))),
  (λ h.
      (let same = one _ _ _ _ _ _ _ _ _ h.2 is.room in
      let at_start = subst (λ (a : ℤ). ((pen_to fr a ss r.count).solid.0 +ℤ width) ≤ℤ (h.1 -ℤ fr.left.0)) same.0 h.3 in
      let at_end = subst (λ (n : ℤ). ((pen_to fr r.start.0 ss r.count).solid.0 +ℤ width) ≤ℤ (n -ℤ fr.left.0)) same.1 at_start in
      let ours = subst (λ (p : Pen). (p.solid.0 +ℤ width) ≤ℤ (r.end.0 -ℤ fr.left.0)) (sym is.pen_is.pen) at_end in
      test.1 (subst (λ (n : ℤ). sum ≤ℤ n) (sym e) (subst (λ (n : ℤ). n ≤ℤ (r.end.0 -ℤ fr.left.0)) (sym s) ours)))),
)

pub seen_is : (fr : Frame) (ss : List Stretch) (r : Reach) → IsPen fr ss r → r.pen.seen ≡ seen_to fr ss r.count
seen_is fr ss r is = ap (λ (p : Pen). p.seen) is.pen ∙ same_seen fr r.start.0 ss r.count
