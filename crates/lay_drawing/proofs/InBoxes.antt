-- Each label stands in a box with its number.
use Rattle.std.proofs.Common.{◌≡◌, ℕ, suc, ℤ, ◌≤ℤ◌, ◌-ℤ◌, Bool, true, false, not, List, [], ◌∷◌, ◌++◌, fold, Option, Some, None, IfSome, option_and_then, if◌then◌else◌, refl, sym, ◌∙◌, int_lt, int_le, arith, append_assoc}
use Rattle.std.specs.List.{All, Any}
use Rattle.std.proofs.lemmas.Int.{ints}
use Rattle.std.proofs.lemmas.List.Elements.{All-nil, All-push}
use Rattle.std.proofs.lemmas.Bool.{and_parts}
use Rattle.lay_drawing.specs.declared.frame.Frame.{Frame}
use Rattle.lay_drawing.specs.declared.frame.Span.{Span}
use Rattle.lay_drawing.specs.declared.label.Label.{Label}
use Rattle.lay_drawing.specs.declared.mark.Marked.{Marked}
use Rattle.lay_drawing.specs.Changes.{is_box}
use Rattle.lay_drawing.specs.Frames.{edges, IsWithin}
use Rattle.lay_drawing.specs.Labels.{label_width, label_height, meets, is_in_way, behind, begin_at, is_told, is_free, span_up_to, place_in, label_at, label_in, label_for, with_label, IsOf, LabelsAreInBoxes}
use Rattle.lay_drawing.proofs.Numerals.{by_bool}

behind_low : (top width left : ℤ) (l : Label) → left ≤ℤ behind top width left l
behind_low top width left l =
    by_bool (is_in_way left top width l)
    (λ e. let way = (and_parts (meets left width l.frame.across) (meets top label_height l.frame.down) e).0 in
    let low = (and_parts (int_lt left l.frame.across.high) (not (int_le width (l.frame.across.low -ℤ left))) way).0 in
    rw e (omega (arith, ints, low)))
    (λ e. rw e (omega (arith, ints)))

begin_low : (top width left : ℤ) (ls : List Label) → left ≤ℤ fold (behind top width) left ls
begin_low top width left [] = omega (arith, ints)
begin_low top width left (l ∷ ls) = omega (arith, ints, behind_low top width left l, begin_low top width (behind top width left l) ls)

span_in : (low from size most : ℤ) → low ≤ℤ from → IfSome (span_up_to from size most) (λ s. IsWithin s (record { low = low; high = most }))
span_in low from size most high =
    by_bool (int_le size (most -ℤ from)) (λ e. rw e (high, omega (arith, ints, e))) (λ e. rw e tt)

IsIn : Frame → Frame → Type 0
IsIn frame box = IsWithin frame.across box.across × IsWithin frame.down box.down

frame_in : (box : Frame) (a d : Option Span) → IfSome a (λ s. IsWithin s box.across) → IfSome d (λ s. IsWithin s box.down)
    → IfSome (option_and_then (λ across. option_and_then (λ down. Some (record { across = across; down = down })) d) a) (λ frame. IsIn frame box)
unfolding IsIn
frame_in box None d across down = tt
frame_in box (Some a) None across down = tt
frame_in box (Some a) (Some d) across down = (across, down)

place_is : (labels : List Label) (node : ℕ) (box : Frame) → IfSome (place_in labels node box) (λ frame. IsIn frame box)
place_is labels node box =
    let left = begin_at box.across.low box.down.low (label_width node) labels in
    frame_in box (span_up_to left (label_width node) box.across.high) (span_up_to box.down.low label_height box.down.high)
    (span_in box.across.low left (label_width node) box.across.high (begin_low box.down.low (label_width node) box.across.low labels))
    (span_in box.down.low box.down.low label_height box.down.high (omega (arith, ints)))

label_is : (labels : List Label) (m : Marked) (frame : Frame) → is_box m.piece.kind ≡ true → IsIn frame (edges m.piece) → IfSome (label_at labels m (edges m.piece).across.low frame) (λ l. IsOf l m)
unfolding IsIn
label_is labels m frame box is =
    by_bool (is_told (edges m.piece).across.low frame.down.low m.piece.node.0 labels) (λ told. rw told tt)
    (λ new. by_bool (is_free labels frame) (λ free. rw (new, free) (box, refl, refl, is.0, is.1)) (λ other. rw (new, other) tt))

in_place : (labels : List Label) (m : Marked) (place : Option Frame) → is_box m.piece.kind ≡ true → IfSome place (λ frame. IsIn frame (edges m.piece))
    → IfSome (option_and_then (label_at labels m (edges m.piece).across.low) place) (λ l. IsOf l m)
in_place labels m None box is = tt
in_place labels m (Some frame) box is = label_is labels m frame box is

chosen : (b : Bool) (o : Option Label) (P : Label → Type 0) → (b ≡ true → IfSome o P) → IfSome (if b then o else None) P
chosen true o P is = is refl
chosen false o P is = tt

one_is : (labels : List Label) (m : Marked) → IfSome (label_for labels m) (λ l. IsOf l m)
one_is labels m =
    chosen (is_box m.piece.kind) (label_in labels m (edges m.piece)) (λ l. IsOf l m)
    (λ box. in_place labels m (place_in labels m.piece.node.0 (edges m.piece)) box (place_is labels m.piece.node.0 (edges m.piece)))

-- a piece that stands behind others is one of all
among : (P : Marked → Type 0) (front : List Marked) (m : Marked) (more : List Marked) → P m → Any P (front ++ m ∷ more)
among P [] m more is = (0, m, omega arith, refl, is)
among P (g ∷ gs) m more is = let r = among P gs m more is in (suc r.0, r.1, omega (arith, r.2), r.3, r.4)

IsOfOne : List Marked → Label → Type 0
IsOfOne pieces label = Any (IsOf label) pieces

with_one : (pieces front more : List Marked) (m : Marked) (labels : List Label) (label : Option Label) → pieces ≡ front ++ m ∷ more → IfSome label (λ l. IsOf l m)
    → All (IsOfOne pieces) labels → All (IsOfOne pieces) (with_label labels label)
unfolding IsOfOne
with_one pieces front more m labels None parts is all = all
with_one pieces front more m labels (Some l) parts is all = All-push (IsOfOne pieces) labels l all (rw parts (among (IsOf l) front m more is))

all_are : (pieces front rest : List Marked) (labels : List Label) → pieces ≡ front ++ rest → All (IsOfOne pieces) labels
    → All (IsOfOne pieces) (fold (λ ls m. with_label ls (label_for ls m)) labels rest)
all_are pieces front [] labels parts all = all
all_are pieces front (m ∷ more) labels parts all =
    all_are pieces (front ++ m ∷ []) more (with_label labels (label_for labels m)) (parts ∙ sym (append_assoc front (m ∷ []) more))
    (with_one pieces front more m labels (label_for labels m) parts (one_is labels m) all)

pub in_boxes_lem : LabelsAreInBoxes
unfolding IsOfOne
in_boxes_lem pieces = all_are pieces [] pieces [] refl (All-nil (IsOfOne pieces))
