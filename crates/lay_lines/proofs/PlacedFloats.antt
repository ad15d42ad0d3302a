-- Each float of lines has a place.
use Rattle.std.proofs.Common.{◌≡◌, ◌∙◌, ℕ, zero, suc, ◌<◌, ℤ, List, [], ◌∷◌, ◌++◌, length, drop, slice_get, Option, Some, None, IsPermutation, refl, sym, ap, subst, arith, append_assoc, append-nil}
use Rattle.std.specs.List.{flat_map}
use Rattle.std.proofs.lemmas.List.{map-append}
use Rattle.std.proofs.lemmas.List.Concat.{flat_map_single}
use Rattle.std.proofs.lemmas.List.Sorted.{IsPermutation-refl, IsPermutation-sym, IsPermutation-trans, IsPermutation-to_front, IsPermutation-middle, IsPermutation-append_left}
use Rattle.std.proofs.lemmas.Option.{slice_get_within}
use Rattle.lay_floats.specs.declared.requests.NodePlace.{NodePlace}
use Rattle.lay_lines.specs.declared.content.content.LineFloat.{LineFloat}
use Rattle.lay_lines.specs.declared.content.content.Stretch.{Stretch}
use Rattle.lay_lines.specs.declared.content.frame.Frame.{Frame}
use Rattle.lay_lines.proofs.ContentLemmas.PenOrder.{some_at}
use Rattle.lay_lines.specs.Filling.{TakesNext, Fills, Reaches}
use Rattle.lay_lines.specs.FloatNumbers.{HeadsBeginLines, floats_in, floats_of_stretch, float_numbers_of, numbers_placed}
use Rattle.lay_lines.specs.Laws.{EachFloatHasAPlace}
use Rattle.lay_lines.specs.Meeting.{State, Chain, MeetsFloat, MeetsAt, Meets}
use Rattle.lay_lines.specs.Meeting.MeetsFloat.{stands, waits}
use Rattle.lay_lines.specs.Rows.{Position, Row, IsRow, Laid, AddsRow, RowsTo, emptied}
use Rattle.lay_lines.proofs.Steps.{none_waits, takes_some, top_fits}

abbrev part : {X : Type 0} → (X → List ℕ) → Option X → List ℕ
part of None = []
part of (Some x) = of x

-- what the first k elements of a list give
abbrev part_to : {X : Type 0} → (X → List ℕ) → List X → ℕ → List ℕ
part_to of xs zero = []
part_to of xs (suc k) = part_to of xs k ++ part of (slice_get xs k)

of_none : {X : Type 0} (of : X → List ℕ) (k : ℕ) → part_to of [] k ≡ []
of_none of zero = refl
of_none of (suc k) = append-nil (part_to of [] k) ∙ of_none of k

first_more : {X : Type 0} (of : X → List ℕ) (x : X) (xs : List X) (k : ℕ) → part_to of (x ∷ xs) (suc k) ≡ of x ++ part_to of xs k
first_more of x xs zero = sym (append-nil (of x))
first_more of x xs (suc k) =
    ap (λ (ns : List ℕ). ns ++ part of (slice_get xs k)) (first_more of x xs k) ∙ append_assoc (of x) (part_to of xs k) (part of (slice_get xs k))

part_split : {X : Type 0} (of : X → List ℕ) (xs : List X) (k : ℕ) → part_to of xs k ++ flat_map of (drop k xs) ≡ flat_map of xs
part_split of [] zero = refl
part_split of [] (suc k) = append-nil (part_to of [] (suc k)) ∙ of_none of (suc k)
part_split of (x ∷ xs) zero = refl
part_split of (x ∷ xs) (suc k) =
    ap (λ (ns : List ℕ). ns ++ flat_map of (drop k xs)) (first_more of x xs k) ∙ append_assoc (of x) (part_to of xs k) (flat_map of (drop k xs))
    ∙ ap (λ (ns : List ℕ). of x ++ ns) (part_split of xs k)

part_all : {X : Type 0} (of : X → List ℕ) (xs : List X) → part_to of xs (length xs) ≡ flat_map of xs
part_all of [] = refl
part_all of (x ∷ xs) = first_more of x xs (length xs) ∙ ap (λ (ns : List ℕ). of x ++ ns) (part_all of xs)

-- a chain each step of which adds what an element of a list gives
chain_adds : {S X : Type 0} (Step : ℕ → S → S → Type 0) (at : S → List ℕ) (of : X → List ℕ) (xs : List X)
    → ((k : ℕ) (a b : S) → Step k a b → (x : X) × (slice_get xs k ≡ Some x) × IsPermutation (at a ++ of x) (at b)) → (n : ℕ) (a b : S) → Chain Step n a b → IsPermutation (at a ++ part_to of xs n) (at b)
chain_adds Step at of xs adds zero a b c =
    subst (λ (ns : List ℕ). IsPermutation ns (at b)) (ap at c ∙ sym (append-nil (at a))) (IsPermutation-refl (at b))
chain_adds {S} {X} Step at of xs adds (suc n) a b c =
    let before = chain_adds Step at of xs adds n a c.0 c.1 in
    let w = adds n c.0 b c.2 in
    let both = IsPermutation-trans _ _ _ (IsPermutation-append_left (of w.0) _ _ before) w.2 in
    let same = append_assoc (at a) (part_to of xs n) (of w.0) ∙ ap (λ (o : Option X). at a ++ (part_to of xs n ++ part of o)) (sym w.1) in
    subst (λ (ns : List ℕ). IsPermutation ns (at b)) same both

-- the floats that have a place, and those that wait for one
abbrev met : State → List ℕ
met st = numbers_placed st.places ++ float_numbers_of st.put_off

abbrev number : LineFloat → List ℕ
number f = f.node ∷ []

-- the places with one more
place_more : (places : List NodePlace) (p : NodePlace) (ns : List ℕ) → numbers_placed (places ++ p ∷ []) ++ ns ≡ numbers_placed places ++ p.node ∷ ns
place_more places p ns =
    ap (λ (ms : List ℕ). ms ++ ns) (map-append (λ (q : NodePlace). q.node) places (p ∷ [])) ∙ append_assoc (numbers_placed places) (p.node ∷ []) ns

wait_more : (ns : List ℕ) (fs : List LineFloat) (f : LineFloat) → (ns ++ float_numbers_of fs) ++ f.node ∷ [] ≡ ns ++ float_numbers_of (fs ++ f ∷ [])
wait_more ns fs f = append_assoc ns (float_numbers_of fs) (f.node ∷ []) ∙ ap (λ (ms : List ℕ). ns ++ ms) (sym (map-append (λ (g : LineFloat). g.node) fs (f ∷ [])))

met_one : (fr : Frame) (y : ℤ) (ss : List Stretch) (k : ℕ) (st : State) (f : LineFloat) (after : State) → MeetsFloat fr y ss k st f after → IsPermutation (met st ++ number f) (met after)
met_one fr y ss k st f after (stands x z may e) =
    let placed = numbers_placed st.places in
    let waiting = float_numbers_of st.put_off in
    let moved = IsPermutation-trans _ _ _ (IsPermutation-to_front (placed ++ waiting) f.node) (IsPermutation-sym _ _ (IsPermutation-middle placed f.node waiting)) in
    let here = sym (place_more st.places (record { node = f.node; place = record { x = record { 0 = x }; y = record { 0 = z } } }) waiting) in
    subst (λ (s : State). IsPermutation (met st ++ number f) (met s)) (sym e) (subst (λ (ns : List ℕ). IsPermutation (met st ++ number f) ns) here moved)
met_one fr y ss k st f after (waits seen not e) =
    subst (λ (s : State). IsPermutation (met st ++ number f) (met s)) (sym e)
    (subst (λ (ns : List ℕ). IsPermutation (met st ++ number f) ns) (wait_more (numbers_placed st.places) st.put_off f) (IsPermutation-refl (met st ++ number f)))

met_all : (fr : Frame) (y : ℤ) (ss : List Stretch) (k : ℕ) (fs : List LineFloat) (st after : State) → Meets fr y ss k fs st after → IsPermutation (met st ++ float_numbers_of fs) (met after)
met_all fr y ss k fs st after c =
    subst (λ (ns : List ℕ). IsPermutation (met st ++ ns) (met after)) (part_all number fs ∙ flat_map_single (λ (f : LineFloat). f.node) fs)
    (chain_adds (MeetsAt fr y ss k fs) met number fs (λ j a b m. (m.0, m.1, met_one fr y ss k a m.0 b m.2)) (length fs) st after c)

-- the floats in a stretch, without those before its content
abbrev tail_of : Stretch → List ℕ
tail_of s = float_numbers_of s.floats

taken_all : (fr : Frame) (y : ℤ) (ss : List Stretch) (n : ℕ) (st after : State) → Fills fr y ss n st after → IsPermutation (met st ++ part_to tail_of ss n) (met after)
taken_all fr y ss n st after c =
    chain_adds (TakesNext fr y ss) met tail_of ss (λ k a b t. (t.stretch, t.is, met_all fr y ss (suc k) t.stretch.floats a b t.meets)) n st after c

-- the stretches of a line behind its first one have no floats before their content
same_part : (o : Option Stretch) → ((t : Stretch) → o ≡ Some t → t.heads ≡ []) → part floats_of_stretch o ≡ part tail_of o
same_part None none = refl
same_part (Some t) none = ap (λ (fs : List LineFloat). float_numbers_of fs ++ float_numbers_of t.floats) (none t refl)

line_floats : (ss : List Stretch) (s : Stretch) (n : ℕ) → slice_get ss 0 ≡ Some s → 0 < n → ((k : ℕ) (t : Stretch) → suc k < n → slice_get ss (suc k) ≡ Some t → t.heads ≡ [])
    → float_numbers_of s.heads ++ part_to tail_of ss n ≡ part_to floats_of_stretch ss n
line_floats ss s zero is some none = absurd (omega (arith, some))
line_floats ss s (suc zero) is some none =
    ap (λ (o : Option Stretch). float_numbers_of s.heads ++ part tail_of o) is ∙ sym (ap (λ (o : Option Stretch). part floats_of_stretch o) is)
line_floats ss s (suc (suc n)) is some none =
    let heads = float_numbers_of s.heads in
    let o = slice_get ss (suc n) in
    sym (append_assoc heads (part_to tail_of ss (suc n)) (part tail_of o))
    ∙ ap (λ (ns : List ℕ). ns ++ part tail_of o) (line_floats ss s (suc n) is (omega arith) (λ k t lt e. none k t (omega (arith, lt)) e))
    ∙ ap (λ (ns : List ℕ). part_to floats_of_stretch ss (suc n) ++ ns) (sym (same_part o (λ t e. none n t (omega arith) e)))

no_heads : (ss : List Stretch) (n : ℕ) → HeadsBeginLines ss → Reaches ss n → (k : ℕ) (t : Stretch) → suc k < n → slice_get ss (suc k) ≡ Some t → t.heads ≡ []
no_heads ss n begin can k t lt e =
    let within = slice_get_within ss (suc k) t e in
    let w = some_at ss k (omega (arith, within)) in
    begin k w.0 t w.1 e (can.last k w.0 (omega (arith, lt)) w.1)

heads_drop : (n : ℕ) (ss : List Stretch) → HeadsBeginLines ss → HeadsBeginLines (drop n ss)
heads_drop zero ss h = h
heads_drop (suc n) [] h = h
heads_drop (suc n) (s ∷ ss) h = heads_drop n ss (λ k a b e f not. h (suc k) a b e f not)

-- after a line all floats of what it took have a place
row_adds : (p : Position) (r : Row) → HeadsBeginLines p.rest → IsRow p r → IsPermutation (met p.state ++ part_to floats_of_stretch p.rest r.reach.count) (met r.after)
row_adds p r begin is =
    let f = is.filled in
    let n = r.reach.count in
    let heads = float_numbers_of f.first.heads in
    let tails = part_to tail_of p.rest n in
    let within = slice_get_within p.rest 0 f.first f.is in
    let some = takes_some p.frame r.top p.rest r.headed n within (top_fits p.frame r.top p.rest r.headed.floats f.top_is.begins) f.count_is in
    let first = met_all p.frame p.from p.rest 0 f.first.heads p.state r.headed f.heads in
    let then = taken_all p.frame r.top p.rest n r.headed r.filled f.filled_is in
    let last = met_all p.frame r.to p.rest 0 r.filled.put_off (emptied r.filled) r.after is.later in
    let ours = subst (λ (ns : List ℕ). IsPermutation (ns ++ float_numbers_of r.filled.put_off) (met r.after)) (append-nil (numbers_placed r.filled.places)) last in
    let all = IsPermutation-trans _ _ _ (IsPermutation-append_left tails _ _ first) (IsPermutation-trans _ _ _ then ours) in
    let same = append_assoc (met p.state) heads tails ∙ ap (λ (ns : List ℕ). met p.state ++ ns) (line_floats p.rest f.first n f.is some (no_heads p.rest n begin f.count_is.can)) in
    subst (λ (ns : List ℕ). IsPermutation ns (met r.after)) same all

-- the floats of all content, when some lines are laid
record SoFar (all : List ℕ) (l : Laid) : Type 0 where
  pub floats : IsPermutation all (met l.position.state ++ floats_in l.position.rest)
  pub none_wait : l.position.state.put_off ≡ []
  pub heads : HeadsBeginLines l.position.rest

row_more : (all : List ℕ) (k : ℕ) (a b : Laid) → SoFar all a → AddsRow k a b → SoFar all b
row_more all k a b so_far adds =
    let p = a.position in
    let r = adds.row in
    let n = r.reach.count in
    let left = floats_in (drop n p.rest) in
    let taken = IsPermutation-append_left left _ _ (row_adds p r so_far.heads adds.is) in
    let same = append_assoc (met p.state) (part_to floats_of_stretch p.rest n) left ∙ ap (λ (ns : List ℕ). met p.state ++ ns) (part_split floats_of_stretch p.rest n) in
    let step = subst (λ (ns : List ℕ). IsPermutation ns (met r.after ++ left)) same taken in
    subst (SoFar all) (sym adds.after) (record {
      floats = IsPermutation-trans _ _ _ so_far.floats step;
      none_wait = none_waits p.frame r.to p.rest r.filled.put_off (length r.filled.put_off) (emptied r.filled) r.after adds.is.later;
      heads = heads_drop n p.rest so_far.heads;
    })

rows_more : (all : List ℕ) (n : ℕ) (a b : Laid) → SoFar all a → RowsTo n a b → SoFar all b
rows_more all zero a b so_far c = subst (SoFar all) (sym c) so_far
rows_more all (suc n) a b so_far c = row_more all n c.0 b (rows_more all n a c.0 so_far c.1) c.2

pub each_float_has_a_place_lem : EachFloatHasAPlace
each_float_has_a_place_lem c left right top before v begin lines =
    let all = floats_in c.stretches in
    let start : SoFar all _ = record { floats = IsPermutation-refl all; none_wait = refl; heads = begin } in
    let end = rows_more all lines.are.count _ lines.laid start lines.are.rows in
    let st = lines.laid.position.state in
    let placed = numbers_placed st.places in
    let same =
    ap (λ (ss : List Stretch). met st ++ floats_in ss) lines.are.all ∙ append-nil (met st) ∙ ap (λ (fs : List LineFloat). placed ++ float_numbers_of fs) end.none_wait
    ∙ append-nil placed ∙ ap (λ (ps : List NodePlace). numbers_placed ps) lines.places in
    subst (λ (ns : List ℕ). IsPermutation all ns) same end.floats
