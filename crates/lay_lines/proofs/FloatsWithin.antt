-- How far the floats that a line meets can stand, and that all that it can meet is so within bounds.
use Rattle.std.proofs.Common.{◌≡◌, inl, inr, ℕ, zero, suc, ◌+◌, ◌*◌, ◌<◌, ◌≤◌, ◌^◌, ℤ, pos, List, [], ◌∷◌, length, slice_get, Option, Some, All, sym, ap, subst, arith}
use Rattle.std.proofs.lemmas.Int.{ints}
use Rattle.std.proofs.lemmas.List.{length-append}
use Rattle.std.proofs.lemmas.List.Elements.{All-push, All-weaker}
use Rattle.std.proofs.lemmas.Option.{get_or_from_slice_get, slice_get_within}
use Rattle.lay_units.specs.Units.{IsUsed}
use Rattle.lay_floats.specs.declared.placed.Placed.{Placed}
use Rattle.lay_floats.specs.declared.requests.NodePlace.{NodePlace}
use Rattle.lay_floats.specs.SolidPlace.{IsAlone}
use Rattle.lay_floats.specs.Within.{IsWithin, BoxWithin, RequestWithin, PlaceWithin}
use Rattle.lay_lines.specs.declared.content.content.LineFloat.{LineFloat}
use Rattle.lay_lines.specs.declared.content.content.Stretch.{Stretch}
use Rattle.lay_lines.specs.declared.content.frame.Frame.{Frame}
use Rattle.lay_lines.specs.Content.Pens.{strut_height, start_of}
use Rattle.lay_lines.specs.Content.LineContents.{total, spread_of, ExtentWithin, LineFloatWithin, StretchWithin}
use Rattle.lay_lines.proofs.ContentLemmas.PensWithin.{wider, position, content_fits}
use Rattle.lay_lines.proofs.ContentLemmas.Totals.{part_of, total_to, total_next}
use Rattle.lay_lines.specs.Meeting.{State, below, IsLineRoom, MeetsFloat, MeetsTo, CanMeetAll, RoomsFit}
use Rattle.lay_lines.specs.Meeting.MeetsFloat.{stands, waits}
use Rattle.lay_lines.specs.Filling.{IsTop, Fills, CanFill}
use Rattle.lay_lines.specs.Lines.{NodePlaceWithin}

pub at_of : {X : Type 0} (P : X → Type 0) (xs : List X) (k : ℕ) (x : X) → All P xs → slice_get xs k ≡ Some x → P x
at_of {X} P xs k x all is = subst P (get_or_from_slice_get xs k x x is) (all k x (slice_get_within xs k x is))

pub box_wider : (n m : ℕ) → n ≤ m → (f : Placed) → BoxWithin (pos n) f → BoxWithin (pos m) f
box_wider n m le f b = record { left = wider n m _ le b.left; right = wider n m _ le b.right; top = wider n m _ le b.top; bottom = wider n m _ le b.bottom }

pub place_wider : (n m : ℕ) → n ≤ m → (p : NodePlace) → NodePlaceWithin (pos n) p → NodePlaceWithin (pos m) p
place_wider n m le p w = record { x = wider n m _ le w.x; y = wider n m _ le w.y }

-- all that stands is at most n units from the origin
pub record StateWithin (n : ℕ) (st : State) : Type 0 where
  pub floats : All (BoxWithin (pos n)) st.floats
  pub places : All (NodePlaceWithin (pos n)) st.places
  pub put_off : All LineFloatWithin st.put_off

pub state_wider : (n m : ℕ) (st : State) → n ≤ m → StateWithin n st → StateWithin m st
state_wider n m st le w = record {
  floats = All-weaker (BoxWithin (pos n)) (BoxWithin (pos m)) (box_wider n m le) st.floats w.floats;
  places = All-weaker (NodePlaceWithin (pos n)) (NodePlaceWithin (pos m)) (place_wider n m le) st.places w.places;
  put_off = w.put_off;
}

-- a line with this frame, whose content edges are at most 2^50 units away
pub record FrameWithin (fr : Frame) : Type 0 where
  pub left : IsWithin (pos (2 ^ 50)) fr.left.0
  pub right : IsWithin (pos (2 ^ 50)) fr.right.0
  pub strut : ExtentWithin fr.strut
  pub indent : IsUsed fr.indent.0

-- how far n floats more can reach
abbrev pub further : ℕ → ℕ → ℕ
further m n = m + 17179869184 * n

request_within : (m : ℕ) (y : ℤ) (f : LineFloat) → 1125899906842624 ≤ m → IsWithin (pos m) y → LineFloatWithin f → RequestWithin (pos m) (pos 17179869184) (below y f.req)
request_within m y f least top w = record { width = w.width; height = w.height; left = wider 1125899906842624 m _ least w.left; right = wider 1125899906842624 m _ least w.right; ceiling = top }

met_within : PlaceWithin → (m : ℕ) (fr : Frame) (y : ℤ) (ss : List Stretch) (k : ℕ) (st : State) (f : LineFloat) (after : State) → 1125899906842624 ≤ m → IsWithin (pos m) y → LineFloatWithin f → StateWithin m st
    → MeetsFloat fr y ss k st f after → StateWithin (m + 17179869184) after × (length after.put_off ≤ length st.put_off + 1)
met_within law m fr y ss k st f after least top w is (stands x z may e) =
    let far = m + 17179869184 in
    let le : m ≤ far = omega arith in
    let here = law (pos m) (pos 17179869184) st.floats (below y f.req) x z is.floats (request_within m y f least top w) may.place in
    let wide = state_wider m far st le is in
    let n = ap (λ (t : State). length t.put_off) e in (
      subst (StateWithin far) (sym e) (record {
        floats = All-push (BoxWithin (pos far)) _ _ wide.floats here;
        places = All-push (NodePlaceWithin (pos far)) _ _ wide.places (record { x = here.left; y = here.top });
        put_off = is.put_off;
      }),
      omega (arith, n),
    )
met_within law m fr y ss k st f after least top w is (waits seen not e) =
    let far = m + 17179869184 in
    let wide = state_wider m far st (omega arith) is in
    let n = ap (λ (t : State). length t.put_off) e in
    let more = length-append st.put_off (f ∷ []) in
    (subst (StateWithin far) (sym e) (record { floats = wide.floats; places = wide.places; put_off = All-push LineFloatWithin _ _ is.put_off w }), omega (arith, n, more))

pub meets_within : PlaceWithin → (m : ℕ) (fr : Frame) (y : ℤ) (ss : List Stretch) (k : ℕ) (fs : List LineFloat) (st after : State) (n : ℕ) → 1125899906842624 ≤ m → IsWithin (pos m) y → All LineFloatWithin fs
    → StateWithin m st → MeetsTo fr y ss k fs n st after → StateWithin (further m n) after × (length after.put_off ≤ length st.put_off + n)
meets_within law m fr y ss k fs st after zero least top all is c =
    let n = ap (λ (t : State). length t.put_off) c in
    (subst (StateWithin (further m 0)) (sym c) (state_wider m (further m 0) st (omega arith) is), omega (arith, n))
meets_within law m fr y ss k fs st after (suc n) least top all is c =
    let before = meets_within law m fr y ss k fs st c.0 n least top all is c.1 in
    let step = met_within law (further m n) fr y ss k c.0 c.2.0 after (omega (arith, least)) (wider m (further m n) y (omega arith) top) (at_of LineFloatWithin fs n c.2.0 all c.2.1) before.0 c.2.2 in
    let a = before.1 in
    let b = step.1 in
    (state_wider (further m n + 17179869184) (further m (suc n)) after (omega arith) step.0, omega (arith, a, b))

-- the left edge of a room is that of the container, or of a float
pub room_start : (m : ℕ) (fr : Frame) (y : ℤ) (floats : List Placed) (a e : ℤ) → 1125899906842624 ≤ m → FrameWithin fr → All (BoxWithin (pos m)) floats → IsLineRoom fr y floats a e → IsWithin (pos m) a
room_start m fr y floats a e least frame all room = elim room.start_is.one_of [
  | inl is ↦ subst (IsWithin (pos m)) (sym is) (wider 1125899906842624 m _ least frame.left)
  | inr w ↦ (let box = at_of (BoxWithin (pos m)) floats w.0 w.1 all w.2 in subst (IsWithin (pos m)) (sym w.3.2) box.right)
]

pub room_end : (m : ℕ) (fr : Frame) (y : ℤ) (floats : List Placed) (a e : ℤ) → 1125899906842624 ≤ m → FrameWithin fr → All (BoxWithin (pos m)) floats → IsLineRoom fr y floats a e → IsWithin (pos m) e
room_end m fr y floats a e least frame all room = elim room.end_is.one_of [
  | inl is ↦ subst (IsWithin (pos m)) (sym is) (wider 1125899906842624 m _ least frame.right)
  | inr w ↦ (let box = at_of (BoxWithin (pos m)) floats w.0 w.1 all w.2 in subst (IsWithin (pos m)) (sym w.3.2) box.left)
]

pub rooms_fit : (m : ℕ) (fr : Frame) (floats : List Placed) (ss : List Stretch) → 1125899906842624 ≤ m → m ≤ 2305843009213693952 → spread_of fr.tab.0 ss ≤ 2 ^ 58 → FrameWithin fr → All (BoxWithin (pos m)) floats
    → RoomsFit fr floats ss
rooms_fit m fr floats ss least most spread frame all y a e room =
    let at = room_start m fr y floats a e least frame all room in
    let n = m + 1125902054326272 in
    let start : IsWithin (pos n) (start_of fr a) =
    (let low = at.0 in
    let high = at.1 in
    let left_low = frame.left.0 in
    let left_high = frame.left.1 in
    let low_indent = frame.indent.0 in
    let high_indent = frame.indent.1 in
    (omega (arith, ints, low, left_high, low_indent), omega (arith, ints, high, left_low, high_indent))) in
    content_fits fr a ss n (omega (arith, spread, most)) start

meets_few : (fr : Frame) (y : ℤ) (ss : List Stretch) (k : ℕ) (fs : List LineFloat) (st after : State) (n : ℕ) → MeetsTo fr y ss k fs n st after → n ≤ length fs
meets_few fr y ss k fs st after zero c = omega arith
meets_few fr y ss k fs st after (suc n) c = let w = slice_get_within fs n c.2.0 c.2.1 in omega (arith, w)

pub can_meet_all : PlaceWithin → (m : ℕ) (fr : Frame) (y : ℤ) (ss : List Stretch) (k : ℕ) (fs : List LineFloat) (st : State) → 1125899906842624 ≤ m → further m (length fs) ≤ 2305843009213693952
    → spread_of fr.tab.0 ss ≤ 2 ^ 58 → FrameWithin fr → IsWithin (pos m) y → All LineFloatWithin fs → StateWithin m st → CanMeetAll fr y ss k fs st
can_meet_all law m fr y ss k fs st least most spread frame top all is = record {
  meets = λ j mid f meets at.
      (let within = slice_get_within fs j f at in
      let far = further m j in
      let w = at_of LineFloatWithin fs j f all at in
      let wide = wider m far y (omega arith) top in
      let request = request_within far y f (omega (arith, least)) wide w in
      let before = meets_within law m fr y ss k fs st mid j least top all is meets in
      let less : far < 2 ^ 62 = omega (arith, within, most) in
      let next : far + 17179869184 < 2 ^ 62 = omega (arith, within, most) in
      let size : 17179869184 < 2 ^ 62 = omega arith in
      record {
        request = record { width = position 17179869184 _ size request.width; height = position 17179869184 _ size request.height; left = position far _ less request.left; right = position far _ less request.right; ceiling = position far _ less request.ceiling };
        place = λ x z place.
            (let b = law (pos far) (pos 17179869184) mid.floats (below y f.req) x z before.0.floats request place in
            record {
              width = position 17179869184 _ size request.width;
              height = position 17179869184 _ size request.height;
              left = position _ _ next b.left;
              right = position _ _ next b.right;
              top = position _ _ next b.top;
              bottom = position _ _ next b.bottom;
            });
      });
  rooms = λ j mid meets.
      (let few = meets_few fr y ss k fs st mid j meets in
      let far = further m j in
      rooms_fit far fr mid.floats ss (omega (arith, least)) (omega (arith, few, most)) spread frame (meets_within law m fr y ss k fs st mid j least top all is meets).0.floats);
}

-- the top of a line is no lower than all floats
pub top_within : (m : ℕ) (fr : Frame) (from : ℤ) (ss : List Stretch) (floats : List Placed) (y : ℤ) → All (BoxWithin (pos m)) floats → IsWithin (pos m) from → IsTop fr from ss floats y → IsWithin (pos m) y
top_within m fr from ss floats y all w top =
    let low = top.low in
    let a = w.0 in
    let alone : IsAlone floats (pos m) (strut_height fr) = λ i f e n.
    (let box = at_of (BoxWithin (pos m)) floats i f all e in
    let under = box.bottom.1 in
    let over = n.2 in
    omega (arith, ints, under, over)) in
    (omega (arith, ints, a, low), top.least (pos m) w.1 (inr alone))

-- how many floats are in the first k stretches
abbrev pub floats_to : List Stretch → ℕ → ℕ
floats_to ss k = total_to (λ (s : Stretch). length s.floats) ss k

pub fills_within : PlaceWithin → (m : ℕ) (fr : Frame) (y : ℤ) (ss : List Stretch) (st after : State) (k : ℕ) → 1125899906842624 ≤ m → IsWithin (pos m) y → All StretchWithin ss → StateWithin m st
    → Fills fr y ss k st after → StateWithin (further m (floats_to ss k)) after × (length after.put_off ≤ length st.put_off + floats_to ss k)
fills_within law m fr y ss st after zero least top all is c =
    let n = ap (λ (t : State). length t.put_off) c in
    (subst (StateWithin (further m 0)) (sym c) (state_wider m (further m 0) st (omega arith) is), omega (arith, n))
fills_within law m fr y ss st after (suc k) least top all is c =
    let before = fills_within law m fr y ss st c.0 k least top all is c.1 in
    let step = c.2 in
    let far = further m (floats_to ss k) in
    let here = at_of StretchWithin ss k step.stretch all step.is in
    let fs = step.stretch.floats in
    let after_it = meets_within law far fr y ss (suc k) fs c.0 after (length fs) (omega (arith, least)) (wider m far y (omega arith) top) here.floats before.0 step.meets in
    let e : floats_to ss k + length fs ≡ floats_to ss (suc k) = ap (λ (o : Option Stretch). floats_to ss k + part_of (λ (s : Stretch). length s.floats) o) (sym step.is) in
    let a = before.1 in
    let b = after_it.1 in
    (state_wider (further far (length fs)) (further m (floats_to ss (suc k))) after (omega (arith, e)) after_it.0, omega (arith, a, b, e))

pub can_fill : PlaceWithin → (m : ℕ) (fr : Frame) (y : ℤ) (ss : List Stretch) (st : State) → 1125899906842624 ≤ m → further m (total (λ (s : Stretch). length s.floats) ss) ≤ 2305843009213693952
    → spread_of fr.tab.0 ss ≤ 2 ^ 58 → FrameWithin fr → IsWithin (pos m) y → All StretchWithin ss → StateWithin m st → CanFill fr y ss st
can_fill law m fr y ss st least most spread frame top all is = record {
  rooms = rooms_fit m fr st.floats ss least (omega (arith, most)) spread frame is.floats;
  meets = λ k mid s fills at.
      (let next = total_next (λ (s : Stretch). length s.floats) ss k s at in
      let far = further m (floats_to ss k) in
      let before = fills_within law m fr y ss st mid k least top all is fills in
      can_meet_all law far fr y ss (suc k) s.floats mid (omega (arith, least)) (omega (arith, next, most)) spread frame (wider m far y (omega arith) top) (at_of StretchWithin ss k s all at).floats before.0);
}
