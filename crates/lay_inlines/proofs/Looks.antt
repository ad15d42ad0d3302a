-- Strokes that show the same.
use Rattle.std.proofs.Common.{◌≡◌, ◌∙◌, ◌||◌, ℤ, Bool, List, [], ◌∷◌, ◌++◌, refl, sym, ap, subst}
use Rattle.std.specs.List.{All}
use Rattle.std.proofs.lemmas.List.{append-nil, append_assoc}
use Rattle.std.proofs.lemmas.List.Elements.{All-nil, All-cons, All-head, All-tail}
use Rattle.lay_lines.specs.declared.content.content.InlineArea.{InlineArea}
use Rattle.lay_inlines.specs.declared.strokes.Stroke.{Stroke}
use Rattle.lay_inlines.specs.Bounds.{StrokeWithin}
use Rattle.lay_inlines.specs.Looks.{LookAs}
use Rattle.lay_inlines.specs.Spans.{edge_at, edges_before, ended_right_edges, spans_of, with_shown}
use Rattle.lay_inlines.specs.Strokes.{begin_of, end_of, has_content, is_content, shown_of, stays}

pub looks_same : (ss : List Stroke) → LookAs ss ss
looks_same ss = record { content = λ rest. refl; edges = λ areas rest. refl; spans = λ areas end rest. refl; within = λ is. is }

pub looks_through : (xs ys zs : List Stroke) → LookAs xs ys → LookAs ys zs → LookAs xs zs
looks_through xs ys zs a b = record {
  content = λ rest. a.content rest ∙ b.content rest;
  edges = λ areas rest. a.edges areas rest ∙ b.edges areas rest;
  spans = λ areas end rest. a.spans areas end rest ∙ b.spans areas end rest;
  within = λ is. a.within (b.within is);
}

-- the same strokes behind both
all_front : (xs ys : List Stroke) → All StrokeWithin (xs ++ ys) → All StrokeWithin xs
all_front [] ys is = All-nil StrokeWithin
all_front (x ∷ xs) ys is = All-cons StrokeWithin x xs (All-head StrokeWithin x (xs ++ ys) is) (all_front xs ys (All-tail StrokeWithin x (xs ++ ys) is))

all_back : (xs ys : List Stroke) → All StrokeWithin (xs ++ ys) → All StrokeWithin ys
all_back [] ys is = is
all_back (x ∷ xs) ys is = all_back xs ys (All-tail StrokeWithin x (xs ++ ys) is)

all_both : (xs ys : List Stroke) → All StrokeWithin xs → All StrokeWithin ys → All StrokeWithin (xs ++ ys)
all_both [] ys a b = b
all_both (x ∷ xs) ys a b = All-cons StrokeWithin x (xs ++ ys) (All-head StrokeWithin x xs a) (all_both xs ys (All-tail StrokeWithin x xs a) b)

pub looks_behind : (xs ys ss : List Stroke) → LookAs xs ys → LookAs (xs ++ ss) (ys ++ ss)
looks_behind xs ys ss l = record {
  content = λ rest. ap has_content (append_assoc xs ss rest) ∙ l.content (ss ++ rest) ∙ ap has_content (sym (append_assoc ys ss rest));
  edges = λ areas rest. ap (ended_right_edges areas) (append_assoc xs ss rest) ∙ l.edges areas (ss ++ rest) ∙ ap (ended_right_edges areas) (sym (append_assoc ys ss rest));
  spans = λ areas end rest. ap (spans_of areas end) (append_assoc xs ss rest) ∙ l.spans areas end (ss ++ rest) ∙ ap (spans_of areas end) (sym (append_assoc ys ss rest));
  within = λ is. all_both xs ss (l.within (all_front ys ss is)) (all_back ys ss is);
}

-- the same strokes before both
looks_after_one : (s : Stroke) (xs ys : List Stroke) → LookAs xs ys → LookAs (s ∷ xs) (s ∷ ys)
looks_after_one s xs ys l = record {
  content = λ rest. ap (λ (b : Bool). is_content s.part || b) (l.content rest);
  edges = λ areas rest i. edges_before areas (shown_of s.part (stays s (l.content rest i))) (end_of s (l.content rest i)) (l.edges areas rest i);
  spans = λ areas end rest i. with_shown areas (shown_of s.part (stays s (l.content rest i))) s.raise (begin_of s (l.content rest i)) (end_of s (l.content rest i))
      (edge_at (l.edges areas rest i) 0 end) (l.spans areas end rest i);
  within = λ is. All-cons StrokeWithin s xs (All-head StrokeWithin s ys is) (l.within (All-tail StrokeWithin s ys is));
}

pub looks_after : (ss xs ys : List Stroke) → LookAs xs ys → LookAs (ss ++ xs) (ss ++ ys)
looks_after [] xs ys l = l
looks_after (s ∷ ss) xs ys l = looks_after_one s (ss ++ xs) (ss ++ ys) (looks_after ss xs ys l)

-- with nothing behind them
pub same_edges : (xs ys : List Stroke) (areas : List InlineArea) → LookAs xs ys → ended_right_edges areas xs ≡ ended_right_edges areas ys
same_edges xs ys areas l = ap (ended_right_edges areas) (sym (append-nil xs)) ∙ l.edges areas [] ∙ ap (ended_right_edges areas) (append-nil ys)

pub same_spans : (xs ys : List Stroke) (areas : List InlineArea) (end : ℤ) → LookAs xs ys → spans_of areas end xs ≡ spans_of areas end ys
same_spans xs ys areas end l = ap (spans_of areas end) (sym (append-nil xs)) ∙ l.spans areas end [] ∙ ap (spans_of areas end) (append-nil ys)

-- the last of some strokes reaches over one more
pub reaches_over : (front : List Stroke) (last new s : Stroke) → LookAs (new ∷ []) (last ∷ s ∷ []) → LookAs (front ++ new ∷ []) ((front ++ last ∷ []) ++ s ∷ [])
reaches_over front last new s l =
    subst (λ (ss : List Stroke). LookAs (front ++ new ∷ []) ss) (sym (append_assoc front (last ∷ []) (s ∷ []))) (looks_after front (new ∷ []) (last ∷ s ∷ []) l)
