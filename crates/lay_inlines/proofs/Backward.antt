-- Lines from their ends to their starts.
use Rattle.std.proofs.Common.{◌≡◌, ◌∙◌, ℕ, ◌+◌, ℤ, Bool, List, ◌∷◌, ◌++◌, length, drop, get_or, sym, ap, arith, add-zero}
use Rattle.std.proofs.lemmas.List.{drop_more, drop-drop, get_or-drop}
use Rattle.lay_units.specs.declared.length.Unit.{Unit}
use Rattle.lay_units.specs.Lengths.{no_length}
use Rattle.lay_lines.specs.declared.content.content.InlineArea.{InlineArea}
use Rattle.lay_inlines.specs.declared.spans.Span.{Span}
use Rattle.lay_inlines.specs.declared.strokes.Stroke.{Stroke}
use Rattle.lay_inlines.specs.declared.line_piece.LinePieceKind.TheVariants.{Inline}
use Rattle.lay_inlines.specs.Raises.{raise_at}
use Rattle.lay_inlines.specs.Strokes.{has_content, begin_of, end_of, stays, shown_of}
use Rattle.lay_inlines.specs.Spans.{ended_right_edges, edges_before, edge_at, with_shown, spans_of, span_of, open_spans, unit}

-- one element more, from the end
pub drop_before : {X : Type 0} → (xs : List X) (n m : ℕ) (x : X) → m + n + 1 ≡ length xs → x ≡ get_or xs m x → drop m xs ≡ x ∷ drop (m + 1) xs
drop_before {X} xs n m x lt e = drop_more xs m x (omega arith) ∙ ap (λ (y : X). y ∷ drop (m + 1) xs) (sym e)

pub spans_step : (areas : List InlineArea) (end : ℤ) (s : Stroke) (ss : List Stroke) (f : Bool) (edges : List Unit) (spans new : List Span)
    → f ≡ has_content ss → edges ≡ ended_right_edges areas ss → spans ≡ spans_of areas end ss
    → new ≡ with_shown areas (shown_of s.part (stays s f)) s.raise (begin_of s f) (end_of s f) (edge_at edges 0 end) spans
    → new ≡ spans_of areas end (s ∷ ss)
spans_step areas end s ss f edges spans new p q r e =
    e ∙ (λ i. with_shown areas (shown_of s.part (stays s (p i))) s.raise (begin_of s (p i)) (end_of s (p i)) (edge_at (q i) 0 end) (r i))

pub edges_step : (areas : List InlineArea) (s : Stroke) (ss : List Stroke) (f : Bool) (edges new : List Unit)
    → f ≡ has_content ss → edges ≡ ended_right_edges areas ss → new ≡ edges_before areas (shown_of s.part (stays s f)) (end_of s f) edges → new ≡ ended_right_edges areas (s ∷ ss)
edges_step areas s ss f edges new p q e = e ∙ (λ i. edges_before areas (shown_of s.part (stays s (p i))) (end_of s (p i)) (q i))

-- the edges of the open boxes are taken one after the other, and their raises from the last one on
pub open_step : (start end : ℤ) (edges raises : List Unit) (k m n : ℕ) (ns : List ℕ) (raise : Unit) (now : List Unit) (spans before new : List Span)
    → raise ≡ raise_at raises k → m ≡ k + 1 → now ≡ drop (length ns) edges → before ≡ open_spans start end edges (drop m raises) ns ++ spans
    → new ≡ span_of Inline n raise start (edge_at now 0 end) ∷ before
    → new ≡ open_spans start end edges (drop k raises) (n ∷ ns) ++ spans
open_step start end edges raises k m n ns raise now spans before new place next e f is =
    is ∙ ap (λ (ss : List Span). span_of Inline n raise start (edge_at now 0 end) ∷ ss) f
    ∙ (λ i. span_of Inline n (raised i) start (same i) ∷ (open_spans start end edges (rest i) ns ++ spans))
  where
    raised : raise ≡ raise_at (drop k raises) 0
    raised = place ∙ ap (λ (i : ℕ). raise_at raises i) (sym (add-zero k)) ∙ sym (get_or-drop k raises 0 no_length)

    rest : drop m raises ≡ drop 1 (drop k raises)
    rest = ap (λ (i : ℕ). drop i raises) next ∙ sym (drop-drop 1 k raises)

    same : edge_at now 0 end ≡ edge_at edges (length ns) end
    same = ap (λ (xs : List Unit). edge_at xs 0 end) e ∙ ap (λ (u : Unit). u.0) (get_or-drop (length ns) edges 0 (unit end)) ∙ ap (λ (k : ℕ). edge_at edges k end) (add-zero (length ns))
