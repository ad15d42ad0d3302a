-- One more line: where it leads, whether it shows the wanted tree, and the pieces so far.
use Rattle.std.proofs.Common.{◌≡◌, ℕ, ◌+◌, ◌&&◌, ◌||◌, Bool, true, false, not, List, [], ◌∷◌, ◌++◌, refl, sym, ap, ◌∙◌, append_assoc, length-append, Option, Some, if◌then◌else◌}
use Rattle.std.proofs.lemmas.Option.{option_and_then_some}
use Rattle.std.proofs.lemmas.List.Folds.{list_any-append}
use Rattle.std.proofs.lemmas.List.Elements.{All-push}
use Rattle.std.proofs.Math.Bool.{or-false}
use Rattle.lay_drawing.specs.declared.line.Line.{Line}
use Rattle.lay_drawing.specs.declared.line.Line.TheVariants.{Edit, Publish, Latest, Sync, Final, Laid, Piece}
use Rattle.lay_drawing.specs.declared.places.Place.{Place}
use Rattle.lay_drawing.specs.declared.places.Place.TheVariants.{History}
use Rattle.lay_drawing.specs.declared.state.Reading.{Reading}
use Rattle.lay_drawing.specs.Lines.{IsLine}
use Rattle.lay_drawing.specs.Reports.{place_after, place_behind_line, is_shown, is_piece, shows, piece_in, first_pieces, pieces_shown}
use Rattle.lay_drawing.specs.States.{all_pieces, is_open, HasLines, Adds}
use Rattle.lay_drawing.proofs.Numerals.{by_bool}

place_more : (from : Place) (lines : List Line) (line : Line) (p q : Place) → place_after from lines ≡ Some p → place_behind_line line p ≡ Some q → place_after from (lines ++ line ∷ []) ≡ Some q
place_more from [] line p q e n = let same : from ≡ p = cc in let k : place_behind_line line from ≡ Some q = rw same n in rw k refl
place_more from (x ∷ xs) line p q e n = option_and_then_some _ (place_behind_line x from) p e (λ next a e1. rw a (place_more next xs line p q e1 n))

shown_more : (wanted : Option ℕ) (lines : List Line) (line : Line) → is_shown wanted (lines ++ line ∷ []) ≡ is_shown wanted lines || shows wanted line
shown_more wanted lines line = list_any-append (shows wanted) lines (line ∷ []) ∙ ap (λ (b : Bool). is_shown wanted lines || b) (or-false (shows wanted line))

all_more : (lines : List Line) (line : Line) → all_pieces (lines ++ line ∷ []) ≡ all_pieces lines && is_piece line
all_more [] line = and_true (is_piece line)
  where
    and_true : (b : Bool) → b && true ≡ b
    and_true true = refl
    and_true false = refl
all_more (x ∷ xs) line = ap (λ (b : Bool). is_piece x && b) (all_more xs line) ∙ and_assoc (is_piece x) (all_pieces xs) (is_piece line)
  where
    and_assoc : (a b c : Bool) → a && (b && c) ≡ (a && b) && c
    and_assoc true b c = refl
    and_assoc false b c = refl

first_more : (lines : List Line) (line : Line) → first_pieces (lines ++ line ∷ []) ≡ first_pieces lines ++ (if all_pieces lines then piece_in line else [])
first_more [] (Edit e i r) = refl
first_more [] (Publish v) = refl
first_more [] (Latest e i s) = refl
first_more [] (Sync e i s) = refl
first_more [] (Final v) = refl
first_more [] (Laid n) = refl
first_more [] (Piece f) = refl
first_more (x ∷ xs) line = by_bool (is_piece x)
    (λ piece. rw (piece, first_more xs line) (sym (append_assoc (piece_in x) (first_pieces xs) (if all_pieces xs then piece_in line else []))))
    (λ other. rw other refl)

open_more : (wanted : Option ℕ) (lines : List Line) (line : Line)
    → is_open wanted (lines ++ line ∷ []) ≡ (if is_open wanted lines then is_piece line else not (is_shown wanted lines) && shows wanted line)
open_more wanted [] line = by_bool (shows wanted line) (λ first. rw first refl) (λ other. rw other refl)
open_more wanted (x ∷ xs) line = by_bool (shows wanted x)
    (λ first. rw (first, all_more xs line) (by_bool (all_pieces xs) (λ a. rw a refl) (λ a. rw a refl)))
    (λ other. rw (other, open_more wanted xs line) refl)

pieces_more : (wanted : Option ℕ) (lines : List Line) (line : Line)
    → pieces_shown wanted (lines ++ line ∷ []) ≡ pieces_shown wanted lines ++ (if is_open wanted lines then piece_in line else [])
pieces_more wanted [] line = by_bool (shows wanted line) (λ first. rw first refl) (λ other. rw other refl)
pieces_more wanted (x ∷ xs) line = by_bool (shows wanted x)
    (λ first. rw first (first_more xs line))
    (λ other. rw other (pieces_more wanted xs line))

open_shown : (wanted : Option ℕ) (lines : List Line) → is_open wanted lines ≡ true → is_shown wanted lines ≡ true
open_shown wanted [] e = absurd cc
open_shown wanted (x ∷ xs) e = by_bool (shows wanted x) (λ first. rw first refl) (λ other. let f = rw other at e in rw other (open_shown wanted xs f))

shown_by : (wanted : Option ℕ) (lines : List Line) (line : Line) (was open_now : Bool) → is_shown wanted lines ≡ was → is_open wanted lines ≡ open_now
    → is_shown wanted (lines ++ line ∷ []) ≡ (if open_now then was else was || shows wanted line)
shown_by wanted lines line was true a b = shown_more wanted lines line ∙ rw (open_shown wanted lines b) (sym (sym a ∙ open_shown wanted lines b))
shown_by wanted lines line was false a b = shown_more wanted lines line ∙ rw a refl

pub has_more : (s t : Reading) (lines : List Line) (line : Line) → HasLines s lines → IsLine line → Adds s line t → HasLines t (lines ++ line ∷ [])
has_more s t lines line has is adds = record {
  all = All-push IsLine lines line has.all is;
  place_is = place_more History lines line s.place t.place has.place_is adds.place_is;
  count_is = length-append lines (line ∷ []) ∙ ap (λ (n : ℕ). n + 1) has.count_is ∙ sym adds.count_is;
  shown_is = (let a : is_shown s.wanted (lines ++ line ∷ []) ≡ t.is_shown = shown_by s.wanted lines line s.is_shown s.is_open has.shown_is has.open_is ∙ sym adds.shown_is in rw adds.wanted_is a);
  open_is = (let a : is_open s.wanted (lines ++ line ∷ []) ≡ t.is_open = rw (open_more s.wanted lines line, has.open_is, has.shown_is) (sym adds.open_is) in rw adds.wanted_is a);
  pieces_are = (let a : pieces_shown s.wanted (lines ++ line ∷ []) ≡ t.pieces.items = rw (pieces_more s.wanted lines line, has.open_is, has.pieces_are) (sym adds.pieces_are) in rw adds.wanted_is a);
}
