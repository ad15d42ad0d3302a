-- No two labels overlap.
use Rattle.std.proofs.Common.{◌≡◌, ℤ, ◌<ℤ◌, ◌≤ℤ◌, true, false, not, List, [], ◌∷◌, ◌++◌, fold, get_or, Option, Some, None, option_and_then, refl, sym, ◌∙◌, ap, int_lt, arith}
use Rattle.std.specs.List.{AllPairs}
use Rattle.std.proofs.lemmas.Int.{ints}
use Rattle.std.proofs.lemmas.Bool.{false≢true}
use Rattle.std.proofs.lemmas.List.Folds.{list_any_at}
use Rattle.std.proofs.lemmas.List.Quantifiers.{all_pairs_push}
use Rattle.lay_drawing.specs.declared.frame.Frame.{Frame}
use Rattle.lay_drawing.specs.declared.frame.Span.{Span}
use Rattle.lay_drawing.specs.declared.label.Label.{Label}
use Rattle.lay_drawing.specs.declared.mark.Marked.{Marked}
use Rattle.lay_drawing.specs.Changes.{is_box}
use Rattle.lay_drawing.specs.Frames.{edges}
use Rattle.lay_drawing.specs.Labels.{crosses, overlaps, is_free, is_told, place_in, label_at, label_for, with_label, AreApart, LabelsAreApart}
use Rattle.lay_drawing.proofs.Numerals.{by_bool}

below : (x y z : ℤ) → x ≤ℤ y → y <ℤ z → int_lt x z ≡ true
below x y z low high = by_bool (int_lt x z) (λ e. e) (λ e. absurd (omega (arith, ints, e, low, high)))

-- spans with a point in common
span_crosses : (a b : Span) (x : ℤ) → a.low ≤ℤ x → x <ℤ a.high → b.low ≤ℤ x → x <ℤ b.high → crosses a b ≡ true
span_crosses a b x a1 a2 b1 b2 = let first = below a.low x b.high a1 b2 in let other = below b.low x a.high b1 a2 in rw (first, other) refl

apart : (frame : Frame) (l m : Label) → m.frame ≡ frame → overlaps frame l ≡ false → AreApart l m
apart frame l m is free x y inl' inm = absurd (false≢true (sym free ∙ crossing))
  where
    crossing : overlaps frame l ≡ true
    crossing =
        let across : crosses frame.across l.frame.across ≡ true = rw (← is) (span_crosses m.frame.across l.frame.across x inm.0 inm.1 inl'.0 inl'.1) in
        let down : crosses frame.down l.frame.down ≡ true = rw (← is) (span_crosses m.frame.down l.frame.down y inm.2 inm.3 inl'.2 inl'.3) in
        rw (across, down) refl

-- where no label overlaps the frame, one more label that has it is apart from each
pushed : (labels : List Label) (label : Label) → is_free labels label.frame ≡ true → AllPairs AreApart labels → AllPairs AreApart (labels ++ label ∷ [])
pushed labels label free are = all_pairs_push AreApart labels label are (λ k d within.
    apart label.frame (get_or labels k d) label refl (by_bool (overlaps label.frame (get_or labels k d))
    (λ e. let some = list_any_at (overlaps label.frame) labels k d within e in absurd (false≢true (ap not (sym some) ∙ free)))
    (λ e. e)))

at_place : (labels : List Label) (m : Marked) (corner : ℤ) (frame : Frame) → AllPairs AreApart labels → AllPairs AreApart (with_label labels (label_at labels m corner frame))
at_place labels m corner frame are =
    by_bool (is_told corner frame.down.low m.piece.node.0 labels) (λ told. rw told are)
    (λ new. by_bool (is_free labels frame)
    (λ free. rw (new, free) (pushed labels (record { node = m.piece.node.0; mark = m.mark; corner = corner; frame = frame }) free are))
    (λ other. rw (new, other) are))

in_box : (labels : List Label) (m : Marked) (corner : ℤ) (place : Option Frame) → AllPairs AreApart labels → AllPairs AreApart (with_label labels (option_and_then (label_at labels m corner) place))
in_box labels m corner None are = are
in_box labels m corner (Some frame) are = at_place labels m corner frame are

one_more : (labels : List Label) (m : Marked) → AllPairs AreApart labels → AllPairs AreApart (with_label labels (label_for labels m))
one_more labels m are =
    by_bool (is_box m.piece.kind)
    (λ box. rw box (in_box labels m (edges m.piece).across.low (place_in labels m.piece.node.0 (edges m.piece)) are))
    (λ other. rw other are)

all_more : (labels : List Label) (ms : List Marked) → AllPairs AreApart labels → AllPairs AreApart (fold (λ ls m. with_label ls (label_for ls m)) labels ms)
all_more labels [] are = are
all_more labels (m ∷ ms) are = all_more (with_label labels (label_for labels m)) ms (one_more labels m are)

pub apart_lem : LabelsAreApart
apart_lem pieces = all_more [] pieces (λ i j d low high. absurd (omega arith))
