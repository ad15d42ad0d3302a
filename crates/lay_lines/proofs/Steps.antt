-- Steps of a line.
use Rattle.std.proofs.Common.{◌≡◌, ◌∙◌, inl, inr, ℕ, zero, suc, ◌+◌, ◌<◌, ◌≤◌, ℤ, List, length, slice_get, get_or, Some, IsTrue, IsFalse, false, refl, sym, ap, subst, arith, add-one}
use Rattle.std.proofs.lemmas.Bool.{cases_lt}
use Rattle.std.proofs.lemmas.Option.{same_Some, slice_get_within, slice_get-get_or}
use Rattle.lay_floats.specs.declared.placed.Placed.{Placed}
use Rattle.lay_floats.specs.declared.requests.NodePlace.{NodePlace}
use Rattle.lay_floats.specs.Laws.{OneFloatPlace}
use Rattle.lay_floats.specs.SolidPlace.{IsAlone}
use Rattle.lay_lines.specs.declared.content.frame.Frame.{Frame}
use Rattle.lay_lines.specs.declared.content.content.LineFloat.{LineFloat}
use Rattle.lay_lines.specs.declared.content.content.Stretch.{Stretch}
use Rattle.lay_lines.specs.Content.Pens.{strut_height}
use Rattle.lay_lines.proofs.ContentLemmas.Outcomes.{not_both}
use Rattle.lay_lines.specs.Meeting.{State, below, stood, MeetsFloat, MeetsAt, MeetsTo, Meets, CanMeetAll, RoomsFit}
use Rattle.lay_lines.specs.Meeting.MeetsFloat.{stands, waits}
use Rattle.lay_lines.specs.Filling.{HasFit, TakesNoRoom, FitsNext, TakesNext, Fills, FitsAll, Takes, Begins, CanFill}
use Rattle.lay_lines.proofs.Chains.{chain_one}

abbrev pub made : List Placed → List NodePlace → List LineFloat → State
made floats places put_off = record { floats = floats; places = places; put_off = put_off }

pub same_states : (floats after : List Placed) (p q : List NodePlace) (m n : List LineFloat) → floats ≡ after → p ≡ q → m ≡ n → made floats p m ≡ made after q n
same_states floats after p q m n a b c = λ i. record { floats = a i; places = b i; put_off = c i }

pub one_met : OneFloatPlace → (fr : Frame) (y : ℤ) (ss : List Stretch) (k : ℕ) (st : State) (f : LineFloat) (a b : State) → MeetsFloat fr y ss k st f a → MeetsFloat fr y ss k st f b → a ≡ b
one_met one fr y ss k st f a b (stands x z may e) (stands u v may' e') =
    let same = one st.floats (below y f.req) x z u v may.place may'.place in
    e ∙ ap (λ (s : ℤ). stood st f s z) same.0 ∙ ap (λ (s : ℤ). stood st f u s) same.1 ∙ sym e'
one_met one fr y ss k st f a b (stands x z may e) (waits seen not e') = absurd (not x z may)
one_met one fr y ss k st f a b (waits seen not e) (stands u v may' e') = absurd (not u v may')
one_met one fr y ss k st f a b (waits seen not e) (waits seen' not' e') = e ∙ sym e'

pub one_meets_at : OneFloatPlace → (fr : Frame) (y : ℤ) (ss : List Stretch) (k : ℕ) (fs : List LineFloat) (j : ℕ) (st a b : State) → MeetsAt fr y ss k fs j st a → MeetsAt fr y ss k fs j st b → a ≡ b
one_meets_at one fr y ss k fs j st a b p q =
    let e : q.0 ≡ p.0 = same_Some _ _ (sym q.1 ∙ p.1) in
    one_met one fr y ss k st p.0 a b p.2 (subst (λ (f : LineFloat). MeetsFloat fr y ss k st f b) e q.2)

pub one_meets : OneFloatPlace → (fr : Frame) (y : ℤ) (ss : List Stretch) (k : ℕ) (fs : List LineFloat) (st a b : State) → Meets fr y ss k fs st a → Meets fr y ss k fs st b → a ≡ b
one_meets one fr y ss k fs st a b p q = chain_one (MeetsAt fr y ss k fs) (one_meets_at one fr y ss k fs) (length fs) st a b p q

pub one_takes_next : OneFloatPlace → (fr : Frame) (y : ℤ) (ss : List Stretch) (k : ℕ) (st a b : State) → TakesNext fr y ss k st a → TakesNext fr y ss k st b → a ≡ b
one_takes_next one fr y ss k st a b p q =
    let e : q.stretch ≡ p.stretch = same_Some _ _ (sym q.is ∙ p.is) in
    one_meets one fr y ss (suc k) p.stretch.floats st a b p.meets (subst (λ (s : Stretch). Meets fr y ss (suc k) s.floats st b) e q.meets)

-- floats that are met before all content don't wait
pub none_waits : (fr : Frame) (y : ℤ) (ss : List Stretch) (fs : List LineFloat) (n : ℕ) (st after : State) → MeetsTo fr y ss 0 fs n st after → after.put_off ≡ st.put_off
none_waits fr y ss fs zero st after c = ap (λ (s : State). s.put_off) c
none_waits fr y ss fs (suc n) st after c = stays c.0 c.2.0 after c.2.2 ∙ none_waits fr y ss fs n st c.0 c.1
  where
    stays : (a : State) (f : LineFloat) (b : State) → MeetsFloat fr y ss 0 a f b → b.put_off ≡ a.put_off
    stays a f b (stands x z may e) = ap (λ (s : State). s.put_off) e
    stays a f b (waits seen not e) = absurd (not_both false seen refl)

-- no stretch that a line took so far has to end it
abbrev pub Unforced : List Stretch → ℕ → Type 0
Unforced ss k = (j : ℕ) (s : Stretch) → j < k → slice_get ss j ≡ Some s → IsFalse s.forced

pub unforced_more : (ss : List Stretch) (k : ℕ) (s : Stretch) → Unforced ss k → slice_get ss k ≡ Some s → IsFalse s.forced → Unforced ss (k + 1)
unforced_more ss k s so_far is not j t lt e = elim (cases_lt j k) [
  | inl low ↦ so_far j t low e
  | inr high ↦ (let same : j ≡ k = omega arith in
      let f : s ≡ t = same_Some _ _ (sym is ∙ subst (λ (n : ℕ). slice_get ss n ≡ Some t) same e) in
      subst (λ (u : Stretch). IsFalse u.forced) f not)
]

pub none_fits : (fr : Frame) (y : ℤ) (ss : List Stretch) (st : State) → FitsAll fr y ss st 0
none_fits fr y ss st = record { each = λ k lt. absurd (omega (arith, lt)) }

-- one more fits
pub all_fit : (fr : Frame) (y : ℤ) (ss : List Stretch) (st now : State) (k : ℕ) → FitsAll fr y ss st k → Fills fr y ss k st now → FitsNext fr y ss k now.floats → FitsAll fr y ss st (k + 1)
all_fit fr y ss st now k so_far fills fit = record {
  each = λ j lt. elim (cases_lt j k) [
    | inl low ↦ so_far.each j low
    | inr high ↦ (let same : j ≡ k = omega arith in
        subst (λ (n : ℕ). (mid : State) × Fills fr y ss n st mid × FitsNext fr y ss n mid.floats) (sym same) (now, fills, fit))
  ];
}

-- a line ends before the first stretch that doesn't fit
pub stops : OneFloatPlace → (fr : Frame) (y : ℤ) (ss : List Stretch) (st now : State) (k : ℕ) → k ≤ length ss → Unforced ss k → FitsAll fr y ss st k → Fills fr y ss k st now → (FitsNext fr y ss k now.floats → ⊥) → Takes fr y ss st k
stops one fr y ss st now k le unforced fits fills not = record {
  can = record { within = le; last = λ j s less is. unforced j s (omega arith) is };
  fits = fits;
  most = λ m less can all.
      (let there = all.each k less in
      let e = chain_one (TakesNext fr y ss) (one_takes_next one fr y ss) k st there.0 now there.1 fills in
      not (subst (λ (s : State). FitsNext fr y ss k s.floats) e there.2));
}

-- a forced stretch ends the line
pub ends : (fr : Frame) (y : ℤ) (ss : List Stretch) (st : State) (k : ℕ) (s : Stretch) → Unforced ss k → slice_get ss k ≡ Some s → IsTrue s.forced → FitsAll fr y ss st (k + 1) → Takes fr y ss st (k + 1)
ends fr y ss st k s unforced is forced fits = record {
  can = record { within = (let w = slice_get_within ss k s is in omega (arith, w)); last = λ j t less e. unforced j t (omega arith) e };
  fits = fits;
  most = λ m less can all. not_both s.forced forced (can.last k s less is);
}

-- nothing is left
pub runs_out : (fr : Frame) (y : ℤ) (ss : List Stretch) (st : State) (k : ℕ) → k ≡ length ss → Unforced ss k → FitsAll fr y ss st k → Takes fr y ss st k
runs_out fr y ss st k e unforced fits = record {
  can = record { within = omega arith; last = λ j s less is. unforced j s (omega arith) is };
  fits = fits;
  most = λ m less can all. (let w = can.within in omega (arith, w));
}

-- a line that can begin takes something
pub takes_some : (fr : Frame) (y : ℤ) (ss : List Stretch) (st : State) (n : ℕ) → 0 < length ss → FitsNext fr y ss 0 st.floats → Takes fr y ss st n → 0 < n
takes_some fr y ss st (suc n) some fit is = omega arith
takes_some fr y ss st zero some fit is =
    absurd (is.most 1 (omega arith) record { within = omega (arith, some); last = λ j s less e. absurd (omega (arith, less)) } record { each = λ k lt. (let same : k ≡ 0 = omega (arith, lt) in subst (λ (j : ℕ). (mid : State) × Fills fr y ss j st mid × FitsNext fr y ss j mid.floats) (sym same) (st, refl, fit)) })

-- where a line begins its first stretch is taken
pub top_fits : (fr : Frame) (y : ℤ) (ss : List Stretch) (floats : List Placed) → Begins fr y ss floats → FitsNext fr y ss 0 floats
top_fits fr y ss floats (inl fit) = inl fit
top_fits fr y ss floats (inr alone) = inr (inl (refl, alone))

pub stretch_is : (ss : List Stretch) (k : ℕ) (s : Stretch) → k < length ss → s ≡ get_or ss k s → slice_get ss k ≡ Some s
stretch_is ss k s lt e = slice_get-get_or ss k s lt ∙ ap (λ (t : Stretch). Some t) (sym e)

-- which way a stretch fits that is the first of its line and doesn't fit the room, and one that is none
pub first_alone : (fr : Frame) (y : ℤ) (ss : List Stretch) (k : ℕ) (floats : List Placed) → (HasFit fr y ss (suc k) floats → ⊥) → k ≡ 0 → FitsNext fr y ss k floats → IsAlone floats y (strut_height fr)
first_alone fr y ss k floats not is (inl fit) = absurd (not fit)
first_alone fr y ss k floats not is (inr (inl alone)) = alone.1
first_alone fr y ss k floats not is (inr (inr none)) = absurd (let w = none.0 in omega (arith, is, w))

pub later_none : (fr : Frame) (y : ℤ) (ss : List Stretch) (k : ℕ) (floats : List Placed) → (HasFit fr y ss (suc k) floats → ⊥) → (k ≡ 0 → ⊥) → FitsNext fr y ss k floats → TakesNoRoom fr y ss k floats
later_none fr y ss k floats not some (inl fit) = absurd (not fit)
later_none fr y ss k floats not some (inr (inl alone)) = absurd (some alone.0)
later_none fr y ss k floats not some (inr (inr none)) = none.1

pub fit_at : (fr : Frame) (y : ℤ) (ss : List Stretch) (k n : ℕ) (floats : List Placed) → n ≡ k + 1 → HasFit fr y ss n floats → HasFit fr y ss (suc k) floats
fit_at fr y ss k n floats e fit = subst (λ (m : ℕ). HasFit fr y ss m floats) (e ∙ add-one k) fit

pub fit_of : (fr : Frame) (y : ℤ) (ss : List Stretch) (k n : ℕ) (floats : List Placed) → n ≡ k + 1 → HasFit fr y ss (suc k) floats → HasFit fr y ss n floats
fit_of fr y ss k n floats e fit = subst (λ (m : ℕ). HasFit fr y ss m floats) (sym (e ∙ add-one k)) fit

-- the floats of a stretch that is taken are met
pub takes_from : (fr : Frame) (y : ℤ) (ss : List Stretch) (k n : ℕ) (s : Stretch) (list : List LineFloat) (st after : State) → slice_get ss k ≡ Some s → n ≡ k + 1 → list ≡ s.floats
    → Meets fr y ss n list st after → TakesNext fr y ss k st after
takes_from fr y ss k n s list st after is e same m = record {
  stretch = s;
  is = is;
  meets = subst (λ (fs : List LineFloat). Meets fr y ss (suc k) fs st after) same (subst (λ (j : ℕ). Meets fr y ss j list st after) (e ∙ add-one k) m);
}

pub takes_to : (fr : Frame) (y : ℤ) (ss : List Stretch) (k n : ℕ) (s : Stretch) (list : List LineFloat) (st after : State) → slice_get ss k ≡ Some s → n ≡ k + 1 → list ≡ s.floats
    → TakesNext fr y ss k st after → Meets fr y ss n list st after
takes_to fr y ss k n s list st after is e same t =
    let g : t.stretch ≡ s = same_Some _ _ (sym t.is ∙ is) in
    subst (λ (j : ℕ). Meets fr y ss j list st after) (sym (e ∙ add-one k))
    (subst (λ (fs : List LineFloat). Meets fr y ss (suc k) fs st after) (sym same) (subst (λ (u : Stretch). Meets fr y ss (suc k) u.floats st after) g t.meets))

pub can_from : (fr : Frame) (y : ℤ) (ss : List Stretch) (k n : ℕ) (s : Stretch) (list : List LineFloat) (st : State) → n ≡ k + 1 → list ≡ s.floats
    → CanMeetAll fr y ss (suc k) s.floats st → CanMeetAll fr y ss n list st
can_from fr y ss k n s list st e same can =
    subst (λ (j : ℕ). CanMeetAll fr y ss j list st) (sym (e ∙ add-one k)) (subst (λ (fs : List LineFloat). CanMeetAll fr y ss (suc k) fs st) (sym same) can)

-- what one stretch more needs
pub can_next : (fr : Frame) (y : ℤ) (ss : List Stretch) (st now : State) (k n : ℕ) → CanFill fr y ss st → Fills fr y ss k st now → n ≡ k → (s : Stretch) → slice_get ss n ≡ Some s → CanMeetAll fr y ss (suc n) s.floats now
can_next fr y ss st now k n can fills e s is = can.meets n now s (subst (λ (j : ℕ). Fills fr y ss j st now) (sym e) fills) is

pub rooms_next : (fr : Frame) (y : ℤ) (ss : List Stretch) (st now : State) (k : ℕ) (s : Stretch) → CanFill fr y ss st → Fills fr y ss k st now → slice_get ss k ≡ Some s → RoomsFit fr now.floats ss
rooms_next fr y ss st now k s can fills is = (can.meets k now s fills is).rooms 0 now refl

-- floats that are met before all content
pub heads_from : (fr : Frame) (y : ℤ) (ss : List Stretch) (n : ℕ) (fs list : List LineFloat) (st after : State) → n ≡ 0 → list ≡ fs → Meets fr y ss n list st after → Meets fr y ss 0 fs st after
heads_from fr y ss n fs list st after e same m = subst (λ (gs : List LineFloat). Meets fr y ss 0 gs st after) same (subst (λ (j : ℕ). Meets fr y ss j list st after) e m)

pub heads_to : (fr : Frame) (y : ℤ) (ss : List Stretch) (n : ℕ) (fs list : List LineFloat) (st after : State) → n ≡ 0 → list ≡ fs → Meets fr y ss 0 fs st after → Meets fr y ss n list st after
heads_to fr y ss n fs list st after e same m = subst (λ (j : ℕ). Meets fr y ss j list st after) (sym e) (subst (λ (gs : List LineFloat). Meets fr y ss 0 gs st after) (sym same) m)

pub can_heads : (fr : Frame) (y : ℤ) (ss : List Stretch) (n : ℕ) (fs list : List LineFloat) (st : State) → n ≡ 0 → list ≡ fs → CanMeetAll fr y ss 0 fs st → CanMeetAll fr y ss n list st
can_heads fr y ss n fs list st e same can = subst (λ (j : ℕ). CanMeetAll fr y ss j list st) (sym e) (subst (λ (gs : List LineFloat). CanMeetAll fr y ss 0 gs st) (sym same) can)
