-- What a turn leaves to the pass.
use Rattle.std.proofs.Common.{◌≡◌, ℕ, ◌+◌, ◌-◌, ◌<◌, ◌≤◌, List, [], ◌∷◌, ◌++◌, length, Some, None, IfSome, refl, sym, ap, ◌∙◌, subst, arith, length-append, append_assoc}
use Rattle.lay_history.specs.declared.edits.history.Entry.{Entry}
use Rattle.lay_history.specs.Legal.{IsLegal}
use Rattle.lay_core.specs.State.{State}
use Rattle.lay_board.specs.Cores.{Adds, origin_of}
use Rattle.lay_board.specs.Entries.{Begins, by_editor}
use Rattle.lay_board.specs.Passes.{Calls, IsCloser, IsPass, IsTurn, known_of, maker_in}
use Rattle.lay_board.specs.Rules.{MeetsGuest, MeetsMaker, MeetsPass, MeetsSeat, SeatView, grown, guest_view, held_by, pass_view}
use Rattle.lay_board.specs.declared.views.Origin.{Origin}
use Rattle.lay_board.specs.declared.views.PassView.{PassView}
use Rattle.lay_board.proofs.Lists.{begins_more, by_editor_append}

own_more : (p : PassView) (h c : State) (e : Entry) → MeetsPass h p → Adds p.number h e c → by_editor p.number c.history ≡ p.own ++ e ∷ []
own_more p h c e met adds =
    ap (by_editor p.number) adds.history ∙ by_editor_append p.number h.history adds.more ∙ ap (λ (l : List Entry). by_editor p.number h.history ++ l) adds.own ∙ ap (λ (l : List Entry). l ++ e ∷ []) (sym met.own)

longer : (h c : State) (number : ℕ) (e : Entry) → Adds number h e c → length h.history < length c.history
longer h c number e adds =
    let a = ap length adds.history ∙ length-append h.history adds.more in
    let b = ap length adds.last ∙ length-append adds.before (e ∷ []) in
    omega (arith, a, b)

origin_same : (p : PassView) (h c : State) (e : Entry) → MeetsPass h p → Adds p.number h e c → c.init ≡ p.origin.document
origin_same p h c e met adds = ap (λ (o : Origin). o.document) (adds.origin ∙ met.origin)

pub called : (p : PassView) (me : SeatView) (h c : State) (e : Entry) → me ≡ (pass_view (grown c p), []) → 0 < p.left → MeetsPass h p → Adds p.number h e c → IsLegal c.init c.history → Calls p (known_of me) e
called p me h c e is some met adds legal =
    subst (λ (m : SeatView). Calls p (known_of m) e) (sym is)
    (record {
      number = refl;
      origin = refl;
      left = omega (arith, some);
      prefix = subst (Begins p.known) (sym adds.history) (begins_more p.known h.history adds.more met.known);
      own = own_more p h c e met adds;
      last = (h.history ++ adds.before, adds.history ∙ ap (λ (l : List Entry). h.history ++ l) adds.last ∙ sym (append_assoc h.history adds.before (e ∷ [])));
      further = let a = longer h c p.number e adds in let b = met.seen in omega (arith, a, b);
      seen = refl;
      looks = refl;
      own_is = refl;
      legal = subst (λ i. IsLegal i c.history) (origin_same p h c e met adds) legal;
    })

pub pass_after : (p : PassView) (me : SeatView) (h c : State) (e : Entry) (editor index left seen : ℕ) → me ≡ (pass_view (grown c p), []) → 0 < left → MeetsPass h p → Adds p.number h e c → IsLegal c.init c.history
    → editor ≡ p.number → index ≡ length p.own → left ≡ p.left → index + left ≤ 8192 → seen ≡ length c.history → IsPass me editor (index + 1) (left - 1) seen
pass_after p me h c e editor index left seen is some met adds legal editor_is index_is left_is few seen_is =
    subst (λ (m : SeatView). IsPass m editor (index + 1) (left - 1) seen) (sym is)
    (record {
      me_is = refl;
      editor_is = editor_is;
      index_is = let l = ap length (own_more p h c e met adds) ∙ length-append p.own (e ∷ []) in omega (arith, l, index_is);
      left_is = ap (λ n. n - 1) left_is;
      seen_is = seen_is;
      legal = subst (λ i. IsLegal i c.history) (origin_same p h c e met adds) legal;
      own = refl;
      few = omega (arith, some, few);
    })

-- the seat that tells of a turn's call knows the pass of the turn
pub turn_known : (p : PassView) (h : State) (me : SeatView) (editor index left before : ℕ) → IsTurn p h me editor index left before → known_of me ≡ p
turn_known p h me editor index left before turn = ap known_of turn.me_is

pub told_as : (p : PassView) (h c : State) (me new : SeatView) (editor index left before : ℕ) → IsTurn p h me editor index left before
    → new ≡ (pass_view (grown c (known_of me)), []) → new ≡ (pass_view (grown c p), [])
told_as p h c me new editor index left before turn is = is ∙ ap (λ (q : PassView). (pass_view (grown c q), [])) (turn_known p h me editor index left before turn)

-- a pass that has taken the core begins its turn
pub begins_turn : (p : PassView) (h : State) (me me' : SeatView) (editor index left seen before : ℕ) → IsPass me editor index left seen → known_of me ≡ p → 0 < p.left
    → me' ≡ (record (me.0) { hold = Some h }, (0, None) ∷ []) → IfSome me.0.pass (MeetsPass h) → before ≡ length h.history → IsTurn p h me' editor index left before
begins_turn p h me me' editor index left seen before is knows some held met before_is = subst (λ (q : PassView). IsTurn q h me' editor index left before) knows record {
  me_is = held ∙ ap (λ (m : SeatView). (held_by m.0 h, (0, None) ∷ [])) is.me_is;
  meets = subst (λ o. IfSome o (MeetsPass h)) (ap (λ (m : SeatView). m.0.pass) is.me_is) met;
  editor_is = is.editor_is;
  index_is = is.index_is;
  left_is = is.left_is;
  some = let l = is.left_is in let k = ap (λ (q : PassView). q.left) knows in omega (arith, l, k, some);
  few = is.few;
  before_is = before_is;
}

-- what a call adds, under the numbers of the turn, is added under those that the pass knows
pub turned : (E : ℕ → ℕ → Entry) (p : PassView) (h c : State) (me : SeatView) (editor index left before : ℕ) → IsTurn p h me editor index left before
    → Adds editor h (E editor index) c → Adds p.number h (E p.number (length p.own)) c
turned E p h c me editor index left before turn adds =
    subst (λ i. Adds p.number h (E p.number i) c) turn.index_is (subst (λ n. Adds n h (E n index) c) turn.editor_is adds)

pub calls_are_left : (p : PassView) (h : State) (me : SeatView) (editor index left before : ℕ) → IsTurn p h me editor index left before → 0 < h.calls_left
calls_are_left p h me editor index left before turn = let a = turn.meets.left in let b = turn.left_is in let c = turn.some in omega (arith, a, b, c)

-- what the core says of the maker of passes
pub maker_meets : (core : State) (me : SeatView) (made : ℕ) → IsCloser me made → IfSome me.0.maker (MeetsMaker core) → MeetsMaker core (maker_in me)
maker_meets core me made is met = subst (λ o. IfSome o (MeetsMaker core)) (ap (λ (m : SeatView). m.0.maker) is.me_is) met

-- and of a guest
pub guest_meets : (core : State) (me : SeatView) (origin : Origin) → me ≡ (guest_view origin, []) → MeetsSeat core me.0 → origin_of core ≡ origin
guest_meets core me origin is met = subst (λ (m : SeatView). IfSome m.0.guest (MeetsGuest core)) is met.guest
