-- Pens in rooms with different left edges.
use Rattle.std.proofs.Common.{◌≡◌, ◌∙◌, ℕ, zero, suc, ◌+◌, ◌/◌, ◌<◌, ◌≤◌, ℤ, pos, negsuc, ◌+ℤ◌, ◌*ℤ◌, ◌≤ℤ◌, Bool, true, false, if◌then◌else◌, ◌||◌, List, [], ◌∷◌, length, slice_get, get_or, drop, Option, Some, None, refl, sym, ap, subst, arith}
use Rattle.std.specs.Int.{int_div_euclid}
use Rattle.std.proofs.Math.Nat.{div-mul-le_self}
use Rattle.std.proofs.lemmas.Nat.{le-div}
use Rattle.std.proofs.Math.IntN.{*ℤ_comm, *ℤ-zero, suc_ℤ-*ℤ}
use Rattle.std.proofs.lemmas.Int.{ints, by_lt_z}
use Rattle.std.proofs.lemmas.Option.{slice_get-get_or}
use Rattle.std.proofs.lemmas.List.{drop_more}
use Rattle.lay_units.specs.TabStops.{next_stop}
use Rattle.lay_lines.specs.declared.content.content.Part.{Part}
use Rattle.lay_lines.specs.declared.content.content.Part.TheVariants.{Space, PreservedSpace, Tab, Linefeed, Text, Start, End, Atomic}
use Rattle.lay_lines.specs.declared.content.content.Stretch.{Stretch}
use Rattle.lay_lines.specs.declared.content.frame.Frame.{Frame}
use Rattle.lay_lines.specs.declared.content.pen.Pen.{Pen}
use Rattle.lay_lines.specs.Content.Pens.{went, moved, spaced, over, over_all, past, past_at, start_of, pen_to, seen_to, PenFits, PensFit, ContentFits}

-- a greater number has no lesser quotient
quotient_order : (a b s : ℕ) → a ≤ b → a / suc s ≤ b / suc s
quotient_order a b s le =
    let m = div-mul-le_self a (suc s) in
    le-div (a / suc s) b (suc s) (omega arith) (omega (arith, m, le))

div_order : (a b : ℤ) (s : ℕ) → a ≤ℤ b → int_div_euclid a (pos (suc s)) ≤ℤ int_div_euclid b (pos (suc s))
div_order (pos a) (pos b) s le = let q = quotient_order a b s (omega (arith, ints, le)) in omega (arith, ints, q)
div_order (pos a) (negsuc b) s le = absurd (omega (arith, ints, le))
div_order (negsuc a) (pos b) s le = omega (arith, ints)
div_order (negsuc a) (negsuc b) s le = let q = quotient_order b a s (omega (arith, ints, le)) in omega (arith, ints, q)

pub times_more : (m : ℤ) (s : ℕ) → m *ℤ pos (suc s) ≡ (m *ℤ pos s) +ℤ m
times_more m s = *ℤ_comm m (pos (suc s)) ∙ suc_ℤ-*ℤ (pos s) m ∙ ap (λ (z : ℤ). z +ℤ m) (*ℤ_comm (pos s) m)

times_order : (a b : ℤ) (s : ℕ) → a ≤ℤ b → (a *ℤ pos s) ≤ℤ (b *ℤ pos s)
times_order a b zero le = let p = *ℤ-zero a in let q = *ℤ-zero b in omega (arith, ints, p, q)
times_order a b (suc s) le =
    let so_far = times_order a b s le in
    let p = times_more a s in
    let q = times_more b s in omega (arith, ints, p, q, so_far, le)

-- a place further right has no tab stop further left
stop_order : (tab a b : ℤ) → a ≤ℤ b → next_stop tab a ≤ℤ next_stop tab b
stop_order (pos zero) a b le = le
stop_order (pos (suc s)) a b le = times_order _ _ (suc s) (let q = div_order a b s le in omega (arith, ints, q))
stop_order (negsuc s) a b le = le

-- the same content, begun no further right
pub record IsBefore (p q : Pen) : Type 0 where
  pub at : p.at.0 ≤ℤ q.at.0
  pub visible : p.visible.0 ≤ℤ q.visible.0
  pub solid : p.solid.0 ≤ℤ q.solid.0
  pub started : p.started ≡ q.started
  pub seen : p.seen ≡ q.seen

went_before : (a b : ℤ) → a ≤ℤ b → IsBefore (went a) (went b)
went_before a b le = record { at = le; visible = le; solid = le; started = refl; seen = refl }

before_if : (s : Bool) (p q p' q' : Pen) → IsBefore p q → IsBefore p' q' → IsBefore (if s then p' else p) (if s then q' else q)
before_if true p q p' q' is is' = is'
before_if false p q p' q' is is' = is

abbrev after_space : Pen → ℤ → Pen
after_space p w = record { at = record { 0 = p.at.0 +ℤ w }; visible = p.visible; solid = p.solid; started = true; seen = p.seen }

spaced_before : (p q : Pen) (w : ℤ) → IsBefore p q → IsBefore (spaced p w) (spaced q w)
spaced_before p q w is =
    let more : IsBefore (after_space p w) (after_space q w) = record { at = omega (arith, ints, is.at); visible = is.visible; solid = is.solid; started = refl; seen = is.seen } in
    subst (λ b. IsBefore (spaced p w) (if b then after_space q w else q)) is.started (before_if p.started p q (after_space p w) (after_space q w) is more)

moved_before : (p q : Pen) (w : ℤ) (seen : Bool) → IsBefore p q → IsBefore (moved p w seen) (moved q w seen)
moved_before p q w seen is = record {
  at = omega (arith, ints, is.at);
  visible = omega (arith, ints, is.visible);
  solid = omega (arith, ints, is.solid);
  started = is.started;
  seen = ap (λ b. b || seen) is.seen;
}

over_before : (fr : Frame) (p q : Pen) (x : Part) → IsBefore p q → IsBefore (over fr p x) (over fr q x)
over_before fr p q (Space w) is = spaced_before p q w.width.0 is
over_before fr p q (PreservedSpace w) is =
    record { at = omega (arith, ints, is.at); visible = is.visible; solid = omega (arith, ints, is.at); started = refl; seen = refl }
over_before fr p q (Tab t) is = went_before _ _ (stop_order fr.tab.0 p.at.0 q.at.0 is.at)
over_before fr p q Linefeed is = record { at = is.at; visible = is.visible; solid = is.solid; started = is.started; seen = refl }
over_before fr p q (Text w) is = went_before _ _ (omega (arith, ints, is.at))
over_before fr p q (Start b) is = moved_before p q b.width.0 b.seen is
over_before fr p q (End b) is = moved_before p q b.width.0 b.seen is
over_before fr p q (Atomic a) is = went_before _ _ (omega (arith, ints, is.at))

all_before : (fr : Frame) (p q : Pen) (xs : List Part) → IsBefore p q → IsBefore (over_all fr p xs) (over_all fr q xs)
all_before fr p q [] is = is
all_before fr p q (x ∷ xs) is = all_before fr (over fr p x) (over fr q x) xs (over_before fr p q x is)

past_before : (fr : Frame) (p q : Pen) (o : Option Stretch) → IsBefore p q → IsBefore (past_at fr p o) (past_at fr q o)
past_before fr p q None is = is
past_before fr p q (Some s) is = all_before fr p q s.parts is

pub pen_before : (fr : Frame) (a b : ℤ) (ss : List Stretch) (k : ℕ) → a ≤ℤ b → IsBefore (pen_to fr a ss k) (pen_to fr b ss k)
pen_before fr a b ss zero le =
    let start : start_of fr a ≤ℤ start_of fr b = omega (arith, ints, le) in
    record { at = start; visible = start; solid = start; started = refl; seen = refl }
pen_before fr a b ss (suc k) le = past_before fr (pen_to fr a ss k) (pen_to fr b ss k) (slice_get ss k) (pen_before fr a b ss k le)

-- what is seen doesn't depend on the room
pub same_seen : (fr : Frame) (a : ℤ) (ss : List Stretch) (k : ℕ) → (pen_to fr a ss k).seen ≡ seen_to fr ss k
same_seen fr a ss k = by_lt_z a (pos 0) (λ less. (pen_before fr a (pos 0) ss k (omega (arith, ints, less))).seen) (λ more. sym (pen_before fr (pos 0) a ss k more).seen)

-- the last pen on the way fits
last_fits : (fr : Frame) (p : Pen) (xs : List Part) → PensFit fr p xs → PenFits (over_all fr p xs)
last_fits fr p [] fits = fits
last_fits fr p (x ∷ xs) fits = last_fits fr (over fr p x) xs fits.1

first_fits : (fr : Frame) (p : Pen) (xs : List Part) → PensFit fr p xs → PenFits p
first_fits fr p [] fits = fits
first_fits fr p (x ∷ xs) fits = fits.0

pub over_fits : (fr : Frame) (p : Pen) (xs : List Part) (k : ℕ) (d : Part) → k < length xs → PensFit fr p (drop k xs) → PenFits (over fr p (get_or xs k d))
over_fits fr p xs k d lt fits =
    let rest = drop (k + 1) xs in
    first_fits fr (over fr p (get_or xs k d)) rest (subst (λ (ys : List Part). PensFit fr p ys) (drop_more xs k d lt) fits).1

-- the pen after one stretch more
pub pen_next : (fr : Frame) (a : ℤ) (ss : List Stretch) (k : ℕ) (p : Pen) (s : Stretch) → p ≡ pen_to fr a ss k → slice_get ss k ≡ Some s → past fr p s ≡ pen_to fr a ss (suc k)
pen_next fr a ss k p s e is = ap (λ (q : Pen). past fr q s) e ∙ ap (λ (o : Option Stretch). past_at fr (pen_to fr a ss k) o) (sym is)

pub some_at : (ss : List Stretch) (k : ℕ) → k < length ss → (s : Stretch) × (slice_get ss k ≡ Some s)
some_at [] k lt = absurd (omega (arith, lt))
some_at (s ∷ ss) zero lt = (s, slice_get-get_or (s ∷ ss) 0 s lt)
some_at (s ∷ ss) (suc k) lt = (get_or (s ∷ ss) (suc k) s, slice_get-get_or (s ∷ ss) (suc k) s lt)

pub pen_fits : (fr : Frame) (a : ℤ) (ss : List Stretch) (k : ℕ) → ContentFits fr a ss → k ≤ length ss → PenFits (pen_to fr a ss k)
pen_fits fr a ss zero fits le = fits.blank_fits
pen_fits fr a ss (suc k) fits le =
    let w = some_at ss k (omega (arith, le)) in
    subst PenFits (pen_next fr a ss k (pen_to fr a ss k) w.0 refl w.1) (last_fits fr (pen_to fr a ss k) w.0.parts (fits.stretches k w.0 w.1))
