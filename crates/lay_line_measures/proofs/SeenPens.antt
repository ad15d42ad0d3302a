-- The pen has seen what its parts say.
use Rattle.std.proofs.Common.{◌≡◌, ℕ, zero, suc, ℤ, Bool, true, false, ◌||◌, if◌then◌else◌, List, [], ◌∷◌, take, refl, sym, ap, ◌∙◌, Option, Some, None}
use Rattle.std.specs.List.{list_any, slice_get}
use Rattle.std.proofs.lemmas.Bool.{or_right}
use Rattle.std.proofs.Math.Bool.{or-false}
use Rattle.lay_lines.specs.declared.content.content.Part.{Part}
use Rattle.lay_lines.specs.declared.content.content.Part.TheVariants as part
use Rattle.lay_lines.specs.declared.content.content.Stretch.{Stretch}
use Rattle.lay_lines.specs.declared.content.frame.Frame.{Frame}
use Rattle.lay_lines.specs.declared.content.pen.Pen.{Pen}
use Rattle.lay_lines.specs.Content.Pens.{spaced, over, over_all, past_at, pen_to}
use Rattle.lay_line_measures.specs.SeenLines.{is_seen, has_seen_line}
use Rattle.lay_line_measures.proofs.Disjunctions.{or_assoc}

abbrev pub seen_at : Option Stretch → Bool
seen_at None = false
seen_at (Some s) = list_any is_seen s.parts

picked : (b : Bool) (q p : Pen) → q.seen ≡ p.seen → (if b then q else p).seen ≡ p.seen
picked true q p e = e
picked false q p e = refl

spaced_seen : (p : Pen) (w : ℤ) → (spaced p w).seen ≡ p.seen
spaced_seen p w = picked p.started _ p refl

over_seen : (fr : Frame) (p : Pen) (x : Part) → (over fr p x).seen ≡ (p.seen || is_seen x)
over_seen fr p (part.Space a) = spaced_seen p a.width.0 ∙ sym (or-false p.seen)
over_seen fr p (part.PreservedSpace a) = sym (or_right p.seen true refl)
over_seen fr p (part.Tab t) = sym (or_right p.seen true refl)
over_seen fr p part.Linefeed = sym (or_right p.seen true refl)
over_seen fr p (part.Text a) = sym (or_right p.seen true refl)
over_seen fr p (part.Start b) = refl
over_seen fr p (part.End b) = refl
over_seen fr p (part.Atomic a) = sym (or_right p.seen true refl)

over_all_seen : (fr : Frame) (p : Pen) (xs : List Part) → (over_all fr p xs).seen ≡ (p.seen || list_any is_seen xs)
over_all_seen fr p [] = sym (or-false p.seen)
over_all_seen fr p (x ∷ xs) =
    over_all_seen fr (over fr p x) xs ∙ ap (λ b. b || list_any is_seen xs) (over_seen fr p x) ∙ or_assoc p.seen (is_seen x) (list_any is_seen xs)

past_seen : (fr : Frame) (p : Pen) (o : Option Stretch) → (past_at fr p o).seen ≡ (p.seen || seen_at o)
past_seen fr p None = sym (or-false p.seen)
past_seen fr p (Some s) = over_all_seen fr p s.parts

pub take_more : (ss : List Stretch) (k : ℕ) → has_seen_line (take (suc k) ss) ≡ (has_seen_line (take k ss) || seen_at (slice_get ss k))
take_more [] zero = refl
take_more [] (suc k) = refl
take_more (s ∷ ss) zero = or-false (list_any is_seen s.parts)
take_more (s ∷ ss) (suc k) =
    ap (λ b. list_any is_seen s.parts || b) (take_more ss k)
    ∙ sym (or_assoc (list_any is_seen s.parts) (has_seen_line (take k ss)) (seen_at (slice_get ss k)))

pub pen_seen : (fr : Frame) (a : ℤ) (ss : List Stretch) (k : ℕ) → (pen_to fr a ss k).seen ≡ has_seen_line (take k ss)
pen_seen fr a ss zero = refl
pen_seen fr a ss (suc k) =
    past_seen fr (pen_to fr a ss k) (slice_get ss k) ∙ ap (λ b. b || seen_at (slice_get ss k)) (pen_seen fr a ss k) ∙ sym (take_more ss k)
