-- Each step keeps the rule.
use Rattle.std.proofs.Common.{◌≡◌, ◌≢◌, ◌⊎◌, inl, inr, ⊎_elim, ℕ, zero, suc, ◌+◌, ◌-◌, ◌^◌, ◌<◌, ◌≤◌, List, [], ◌∷◌, ◌++◌, length, set, Some, None, Option, refl, sym, ap, ◌∙◌, subst, arith, append-nil, length-append, IfSome, ◌==◌, eq-eqb, Bool, true, false, sum}
use Rattle.std.proofs.lemmas.Bool.{false≢true, eqb-true}
use Rattle.std.specs.Prelude.{slice_index, MatchBool}
use Rattle.std.proofs.lemmas.Option.{none-some, same_Some}
use mathlib.Core.Option as opt
use mathlib.Core.Option.{some-ne-none, some-injective}
use lib.ListN.{get_elem?}
use prog.Atomic.{either}
use Rattle.atomic_table.specs.Table.{State as Table, Step, Act, Valid, stepped, carried_after, Allows, Enters, Splits, Joins, opening, step, keeps, takes, gives, rest}
use Rattle.atomic_table.proofs.Lists.{at_set, at_longer, set_here, set_else, set_again}
use Rattle.lay_history.specs.declared.edits.history.Entry.{Entry}
use Rattle.lay_board.specs.declared.views.PassView.{PassView}
use Rattle.lay_board.specs.declared.views.MakerView.{MakerView}
use Rattle.lay_board.specs.declared.views.View.{View}
use Rattle.lay_board.specs.Entries.{by_editor, Begins}
use Rattle.lay_core.specs.State.{State}
use Rattle.lay_board.specs.Cores.{Adds, IsQuiet, most_draws, origin_of}
use Rattle.lay_board.specs.declared.views.Origin.{Origin}
use Rattle.lay_board.specs.Rules.{At, pass_of, hold_of, maker_of, guest_of, met_of, view_calls, all_calls, Fits, IsCoreOf, IsKept, IsNoEditor, MeetsPass, MeetsMaker, MeetsGuest, MeetsSeat, TakesIt, TellsIt, GivesIt, LooksIt, ComesIt, LearnsIt, meeting, SeatView, blank_view, guest_view, held_by, maker_view, pass_view, maker_after, next_pass, grown, left_of_pass}
use Rattle.lay_board.proofs.Lists.{if_some, at_read, same_read, lost_read, here, more_read, calls_set, calls_at, calls_more, kept_read, some_within, begins_all, begins_none, begins_more, by_editor_append}

quiet_draws : (h c : State) (room : ℕ) → IsQuiet h c → h.cells.draws ≤ most_draws room → room ≤ 8192 → c.cells.draws ≤ most_draws room
quiet_draws h c room quiet most some = ⊎_elim (λ l. omega (arith, l, most)) (λ l. omega (arith, l, some)) quiet.draws

told_draws : (h c : State) (room : ℕ) → c.cells.draws ≤ h.cells.draws + 2 ^ 20 → h.cells.draws ≤ most_draws room → c.calls_left + 1 ≡ room → room ≤ 8192 → c.cells.draws ≤ most_draws c.calls_left
told_draws h c room raised most left some = omega (arith, raised, most, left, some)

abbrev Tables : Type 0
Tables = Table (Option State) View

second : (ws : List ℕ) (a b n : ℕ) → ws ≡ a ∷ b ∷ [] → set ws 1 n ≡ a ∷ n ∷ []
second ws a b n e = ap (λ us. set us 1 n) e

second_is : (ws : List ℕ) (a b : ℕ) → ws ≡ a ∷ b ∷ [] → slice_index ws 1 ≡ b
second_is ws a b e = ap (λ us. slice_index us 1) e

first_same : (ws : List ℕ) (a b : ℕ) → ws ≡ a ∷ b ∷ [] → set ws 0 (slice_index ws 0) ≡ a ∷ b ∷ []
first_same ws a b e = subst (λ us. set us 0 (slice_index us 0) ≡ a ∷ b ∷ []) (sym e) refl

same_words : (ws : List ℕ) → set ws 1 (slice_index ws 1) ≡ ws
same_words [] = refl
same_words (a ∷ []) = refl
same_words (a ∷ b ∷ ws) = refl

either_first : (ws : List ℕ) (a b n : ℕ) → ws ≡ a ∷ b ∷ [] → set ws 0 (either (slice_index ws 0 == a) n (slice_index ws 0)) ≡ n ∷ b ∷ []
either_first ws a b n e = subst (λ us. set us 0 (either (slice_index us 0 == a) n (slice_index us 0)) ≡ n ∷ b ∷ []) (sym e) (ap (λ c. either c n a ∷ b ∷ []) (eq-eqb a a refl))

-- the core is taken by a seat that has none
took : (origin : Origin) (id : ℕ) (v : View) (s : Tables) (k : IsKept origin s) → get_elem? s.views id ≡ opt.some v → k.lock ≡ 0 → (core : State) → IsCoreOf origin k.log k.room core
    → IsKept origin record { words = set s.words 1 1; homes = set s.homes 0 opt.none; views = set s.views id (held_by v core) }
took origin id v s k at unlocked core is =
    let w = held_by v core in
    let only : (j : ℕ) (g : State) → At hold_of (set s.views id w) j g → (j ≡ id) × (core ≡ g) =
    λ j g t. ⊎_elim (λ u. (u.0, same_Some core g u.1)) (λ u. absurd (k.free unlocked j g u.1)) (at_read hold_of s.views id j w g t) in
    let before = same_read pass_of s.views id v w at refl in
    let makers = same_read maker_of s.views id v w at refl in
    let guests = same_read guest_of s.views id v w at refl in
    record {
      log = k.log;
      lock = 1;
      made = k.made;
      room = k.room;
      words = second s.words (length k.log) k.lock 1 k.words;
      home = λ e. absurd (omega (arith, e));
      free = λ e. absurd (omega (arith, e));
      holds = λ j g t. subst (IsCoreOf origin k.log k.room) (only j g t).1 is;
      one = λ i j g f t u. (only i g t).0 ∙ sym (only j f u).0;
      passes = λ j q t. k.passes j q (before j q t);
      apart = λ i j q r t u same. k.apart i j q r (before i q t) (before j r u) same;
      maker = λ j m t. k.maker j m (makers j m t);
      lone = λ i j m n t u. k.lone i j m n (makers i m t) (makers j n u);
      guests = λ j o t. k.guests j o (guests j o t);
      met = λ j p t. let m = k.met j p (same_read met_of s.views id v w at refl j p t) in absurd (k.free unlocked j m.1.0 m.1.1);
      unmade = k.unmade;
      some = k.some;
      few = let c = calls_set s.views id v w at in let f = k.few in omega (arith, c, f);
    }

pass_met : (origin : Origin) (made room : ℕ) (log : List Entry) (core : State) (views : List View) (id : ℕ) (v : View) (p : PassView) → get_elem? views id ≡ opt.some v → v.pass ≡ Some p → all_calls views ≤ room
    → IsCoreOf origin log room core → Fits origin made log p → MeetsPass core p
pass_met origin made room log core views id v p at is few c f = record {
  origin = c.origin_is ∙ sym f.origin_is;
  known = subst (Begins p.known) (sym c.history) f.known;
  own = f.own ∙ ap (by_editor p.number) (sym c.history);
  seen = let s = f.seen in let l = ap length c.history in omega (arith, s, l);
  left = let a = calls_at views id v at in let l = ap left_of_pass is in let r = c.calls in omega (arith, a, l, r, few);
}

maker_met : (origin : Origin) (made room : ℕ) (log : List Entry) (core : State) (m : MakerView) → IsCoreOf origin log room core → (m.made ≡ made) × (m.origin ≡ origin) → ((n : ℕ) → IsNoEditor made n → by_editor n log ≡ []) → room ≤ 8192 → MeetsMaker core m
maker_met origin made room log core m c f none some = record {
  origin = c.origin_is ∙ sym f.1;
  draws = let d = c.draws in omega (arith, d, some);
  unmade = λ n other. ap (by_editor n) c.history ∙ none n (⊎_elim (λ z. inl z) (λ lt. let e = f.0 in inr (omega (arith, e, lt))) other);
}

pub takes_it : (origin : Origin) (slots id : ℕ) (v : View) → Allows (IsKept origin) slots id (v, []) 1 (λ n. either (n == 0) 1 n) (TakesIt (step slots 1 0 1 opt.none) (v, []))
takes_it origin slots id v s k homes at _ = by_lock (slice_index s.words 1 == 0) refl
  where
    by_lock : (b : Bool) → (slice_index s.words 1 == 0) ≡ b
        → (w : View) × (a : Act (Option State)) × Valid s.homes [] a
        × IsKept origin (stepped s 1 (either b 1 (slice_index s.words 1)) id [] w a)
        × MatchBool b
        ((core : State) × (◌≡◌ {A = SeatView} (w, carried_after [] a) (held_by v core, (0, Some core) ∷ [])) × MeetsSeat core v)
        (◌≡◌ {A = SeatView} (w, carried_after [] a) (v, []))
    by_lock true is =
        let unlocked : k.lock ≡ 0 = sym (second_is s.words (length k.log) k.lock k.words) ∙ eqb-true (slice_index s.words 1) 0 is in
        let c = k.home unlocked in (
          held_by v c.0,
          takes 0 (Some c.0),
          c.1,
          took origin id v s k at unlocked c.0 c.2,
          (
            c.0,
            refl,
            record {
              pass = if_some (MeetsPass c.0) v.pass (λ p e. pass_met origin k.made k.room k.log c.0 s.views id v p at e k.few c.2 (k.passes id p (v, at, e)));
              maker = if_some (MeetsMaker c.0) v.maker (λ m e. maker_met origin k.made k.room k.log c.0 m c.2 (k.maker id m (v, at, e)) k.unmade k.some);
              guest = if_some (MeetsGuest c.0) v.guest (λ o e. c.2.origin_is ∙ sym (k.guests id o (v, at, e)));
            },
          ),
        )
    by_lock false is = (
      v,
      keeps,
      tt,
      subst (IsKept origin) (λ i. record { words = sym (same_words s.words) i; homes = s.homes; views = sym (set_again s.views id v at) i }) k,
      refl,
    )

-- the core goes home from a seat that met nobody
pub gives_it : (origin : Origin) (id : ℕ) (v : View) (h c : State) → v.hold ≡ Some h → v.met ≡ None → IsQuiet h c
    → Allows (IsKept origin) 1 id (v, (0, Some c) ∷ []) 1 (λ _. 0) (λ _. GivesIt (step 1 1 0 0 opt.none) (v, (0, Some c) ∷ []) 0)
gives_it origin id v h c is none quiet s k homes at _ =
    let w : View = record v { hold = None } in
    let mine : At hold_of s.views id h = (v, at, is) in
    let core = k.holds id h mine in
    let no_holder : (j : ℕ) (q : State) → At hold_of (set s.views id w) j q → ⊥ =
    λ j q t. let u = lost_read hold_of s.views id w refl j q t in u.0 (k.one j id q h u.1 mine) in
    let before = same_read pass_of s.views id v w at refl in
    let makers = same_read maker_of s.views id v w at refl in
    let guests = same_read guest_of s.views id v w at refl in (
      w,
      gives,
      tt,
      record {
        log = k.log;
        lock = 0;
        made = k.made;
        room = k.room;
        words = second s.words (length k.log) k.lock 0 k.words;
        home = λ _. (c, set_here s.homes 0 (opt.some (Some c)) (omega (arith, homes)), record { origin_is = quiet.origin ∙ core.origin_is; history = quiet.history ∙ core.history; calls = quiet.calls_left ∙ core.calls; draws = quiet_draws h c k.room quiet core.draws k.some });
        free = λ _. no_holder;
        holds = λ j q t. absurd (no_holder j q t);
        one = λ i j q r t u. absurd (no_holder i q t);
        passes = λ j q t. k.passes j q (before j q t);
        apart = λ i j q r t u same. k.apart i j q r (before i q t) (before j r u) same;
        maker = λ j m t. k.maker j m (makers j m t);
        lone = λ i j m n t u. k.lone i j m n (makers i m t) (makers j n u);
        guests = λ j o t. k.guests j o (guests j o t);
        met = λ j p t.
            let u = same_read met_of s.views id v w at refl j p t in
            let m = k.met j p u in
            absurd (none-some p (sym none ∙ here met_of s.views id j v p at u (k.one j id m.1.0 h m.1.1 mine)));
        unmade = k.unmade;
        some = k.some;
        few = let e = calls_set s.views id v w at in let f = k.few in omega (arith, e, f);
      },
      refl,
    )

abbrev holder : PassView → State → View
holder p h = held_by (pass_view p) h

not_mine : (made n number : ℕ) → number ≤ made → 0 < number → IsNoEditor made n → n ≢ number
not_mine made n number few from other z = ⊎_elim (λ e. absurd (omega (arith, e, from, z))) (λ lt. absurd (omega (arith, few, lt, z))) other

-- all are told of the history of the core that is out, in which the pass made a call
pub tells_it : (origin : Origin) (slots id : ℕ) (p : PassView) (h c : State) (e : Entry) → 0 < p.left → Adds p.number h e c
    → Allows (IsKept origin) slots id (holder p h, (0, Some c) ∷ []) 0 (λ n. either (n == length h.history) (length c.history) n)
    (TellsIt (step slots 0 (length h.history) (length c.history) opt.none) (holder p h, (0, Some c) ∷ []))
tells_it origin slots id p h c e some_left adds s k homes at _ =
    let more = adds.more in
    let v = holder p h in
    let p' = grown c p in
    let w = holder p' c in
    let mine : At hold_of s.views id h = (v, at, refl) in
    let my_pass : At pass_of s.views id p = (v, at, refl) in
    let core = k.holds id h mine in
    let fits = k.passes id p my_pass in
    let log' : c.history ≡ k.log ++ more = adds.history ∙ ap (λ (l : List Entry). l ++ more) core.history in
    let longer : length k.log ≤ length c.history = let l = ap length log' ∙ length-append k.log more in omega (arith, l) in
    let fits' : Fits origin k.made c.history p' = record { origin_is = fits.origin_is; known = begins_all c.history; own = refl; seen = omega arith; far = omega arith; number = fits.number; from = fits.from } in
    let holder_case : (j : ℕ) (q : State) → At hold_of (set s.views id w) j q → (j ≡ id) × (c ≡ q) =
    λ j q t. ⊎_elim (λ u. (u.0, same_Some c q u.1)) (λ (u : (j ≢ id) × At hold_of s.views j q). absurd (u.0 (k.one j id q h u.1 mine))) (at_read hold_of s.views id j w q t) in
    let pass_case : (j : ℕ) (q : PassView) → At pass_of (set s.views id w) j q → ((j ≡ id) × (p' ≡ q)) ⊎ ((j ≢ id) × At pass_of s.views j q) =
    λ j q t. ⊎_elim (λ u. inl (u.0, same_Some p' q u.1)) (λ u. inr u) (at_read pass_of s.views id j w q t) in
    let before : (j : ℕ) (q : PassView) → At pass_of (set s.views id w) j q → (r : PassView) × At pass_of s.views j r × (r.number ≡ q.number) =
    λ j q t. ⊎_elim (λ u. (p, subst (λ i. At pass_of s.views i p) (sym u.0) my_pass, ap (λ (z : PassView). z.number) u.1)) (λ u. (q, u.1, refl)) (pass_case j q t) in
    let makers = same_read maker_of s.views id v w at refl in
    let guests = same_read guest_of s.views id v w at refl in
    let same_own : (n : ℕ) → n ≢ p.number → by_editor n c.history ≡ by_editor n k.log =
    λ n other. ap (by_editor n) log' ∙ by_editor_append n k.log more ∙ ap (λ (l : List Entry). by_editor n k.log ++ l) (adds.others n other) ∙ append-nil (by_editor n k.log) in (
      w,
      keeps,
      tt,
      record {
        log = c.history;
        lock = k.lock;
        made = k.made;
        room = c.calls_left;
        words = either_first s.words (length h.history) k.lock (length c.history) (k.words ∙ ap (λ (l : List Entry). length l ∷ k.lock ∷ []) (sym core.history));
        home = λ z. absurd (k.free z id h mine);
        free = λ z. absurd (k.free z id h mine);
        holds = λ j q t. subst (IsCoreOf origin c.history c.calls_left) (holder_case j q t).1 (record { origin_is = adds.origin ∙ core.origin_is; history = refl; calls = refl; draws = told_draws h c k.room (let d = adds.draws in d) core.draws (let l = adds.left in let r = core.calls in omega (arith, l, r)) k.some });
        one = λ i j q r t u. (holder_case i q t).0 ∙ sym (holder_case j r u).0;
        passes = λ j q t.
            ⊎_elim
            (λ u. subst (Fits origin k.made c.history) u.1 fits')
            (λ u.
            let f = k.passes j q u.1 in
            let other : q.number ≢ p.number = λ z. u.0 (k.apart j id q p u.1 my_pass z) in
            record {
              origin_is = f.origin_is;
              known = subst (Begins q.known) (sym log') (begins_more q.known k.log more f.known);
              own = f.own ∙ sym (same_own q.number other);
              seen = let a = f.seen in omega (arith, a, longer);
              far = f.far;
              number = f.number;
              from = f.from;
            })
            (pass_case j q t);
        apart = λ i j q r t u z. let a = before i q t in let b = before j r u in k.apart i j a.0 b.0 a.1 b.1 (a.2 ∙ z ∙ sym b.2);
        maker = λ j m t. k.maker j m (makers j m t);
        lone = λ i j m n t u. k.lone i j m n (makers i m t) (makers j n u);
        guests = λ j o t. k.guests j o (guests j o t);
        met = λ j q t.
            let u = same_read met_of s.views id v w at refl j q t in
            let m = k.met j q u in
            absurd (none-some q (here met_of s.views id j v q at u (k.one j id m.1.0 h m.1.1 mine)));
        unmade = λ n other. same_own n (not_mine k.made n p.number fits.number fits.from other) ∙ k.unmade n other;
        some = let l = adds.left in let r = core.calls in let m = k.some in omega (arith, l, r, m);
        few = let e = calls_set s.views id v w at in let f = k.few in let l = adds.left in let r = core.calls in omega (arith, e, f, l, r, some_left);
      },
      refl,
    )

-- a pass loads the length
pub looks_it : (origin : Origin) (slots id : ℕ) (p : PassView) → Allows (IsKept origin) slots id (pass_view p, []) 0 (λ n. n) (LooksIt (step slots 0 0 0 opt.none) (pass_view p, []))
looks_it origin slots id p s k homes at _ =
    let v = pass_view p in
    let mine = k.passes id p (v, at, refl) in
    let found : ℕ = slice_index s.words 0 in
    let is : found ≡ length k.log = ap (λ ws. slice_index ws 0) k.words in
    let p' : PassView = record p { seen = found; looks = p.looks + 1 } in
    let w = pass_view p' in
    let pass_case : (j : ℕ) (q : PassView) → At pass_of (set s.views id w) j q → ((j ≡ id) × (p' ≡ q)) ⊎ ((j ≢ id) × At pass_of s.views j q) =
    λ j q t. ⊎_elim (λ u. inl (u.0, same_Some p' q u.1)) (λ u. inr u) (at_read pass_of s.views id j w q t) in
    let before : (j : ℕ) (q : PassView) → At pass_of (set s.views id w) j q → (r : PassView) × At pass_of s.views j r × (r.number ≡ q.number) =
    λ j q t. ⊎_elim (λ u. (p, (v, ap (get_elem? s.views) u.0 ∙ at, refl), ap (λ (z : PassView). z.number) u.1)) (λ u. (q, u.1, refl)) (pass_case j q t) in
    let holders = same_read hold_of s.views id v w at refl in
    let makers = same_read maker_of s.views id v w at refl in
    let guests = same_read guest_of s.views id v w at refl in
    let others : (j : ℕ) (q : State) → At hold_of s.views j q → At hold_of (set s.views id w) j q =
    λ j q t. kept_read hold_of s.views id v w at refl j q t in (
      w,
      keeps,
      tt,
      record {
        log = k.log;
        lock = k.lock;
        made = k.made;
        room = k.room;
        words = first_same s.words (length k.log) k.lock k.words;
        home = k.home;
        free = λ z j q t. k.free z j q (holders j q t);
        holds = λ j q t. k.holds j q (holders j q t);
        one = λ i j q r t u. k.one i j q r (holders i q t) (holders j r u);
        passes = λ j q t.
            ⊎_elim
            (λ u. subst (Fits origin k.made k.log) u.1 (record { origin_is = mine.origin_is; known = mine.known; own = mine.own; seen = omega (arith, is); far = let a = mine.far in let b = mine.seen in omega (arith, a, b, is); number = mine.number; from = mine.from }))
            (λ u. k.passes j q u.1)
            (pass_case j q t);
        apart = λ i j q r t u e. let a = before i q t in let b = before j r u in k.apart i j a.0 b.0 a.1 b.1 (a.2 ∙ e ∙ sym b.2);
        maker = λ j q t. k.maker j q (makers j q t);
        lone = λ i j a b t u. k.lone i j a b (makers i a t) (makers j b u);
        guests = λ j o t. k.guests j o (guests j o t);
        met = λ j q t. let m = k.met j q (same_read met_of s.views id v w at refl j q t) in (m.0, (m.1.0, others j m.1.0 m.1.1));
        unmade = k.unmade;
        some = k.some;
        few = let e = calls_set s.views id v w at in let f = k.few in omega (arith, e, f);
      },
      ((let a = mine.seen in omega (arith, a, is)), refl),
    )

others_read : {A : Type 0} (read : View → Option A) (views : List View) (w : View) → read w ≡ None → (j : ℕ) (a : A) → At read (views ++ w ∷ []) j a → At read views j a
others_read read views w none j a t = ⊎_elim (λ u. u) (λ u. absurd (none-some a (sym none ∙ u.1))) (more_read read views w j a t)

-- a guest comes
pub comes_it : (origin : Origin) (slots made : ℕ) (calls : List ℕ) → Enters (IsKept origin) slots 0 (λ n w. ComesIt (step slots 0 0 0 opt.none) (maker_view origin made calls, []) n (w, []))
comes_it origin slots made calls s k homes _ =
    let w = guest_view origin in
    let holders = others_read hold_of s.views w refl in
    let passers = others_read pass_of s.views w refl in
    let makers = others_read maker_of s.views w refl in (
      w,
      record {
        log = k.log;
        lock = k.lock;
        made = k.made;
        room = k.room;
        words = k.words;
        home = k.home;
        free = λ z j q t. k.free z j q (holders j q t);
        holds = λ j q t. k.holds j q (holders j q t);
        one = λ i j q r t u. k.one i j q r (holders i q t) (holders j r u);
        passes = λ j q t. k.passes j q (passers j q t);
        apart = λ i j q r t u e. k.apart i j q r (passers i q t) (passers j r u) e;
        maker = λ j q t. k.maker j q (makers j q t);
        lone = λ i j a b t u. k.lone i j a b (makers i a t) (makers j b u);
        guests = λ j o t. ⊎_elim (λ u. k.guests j o u) (λ u. sym (same_Some origin o u.1)) (more_read guest_of s.views w j o t);
        met = λ j q t. let m = k.met j q (others_read met_of s.views w refl j q t) in (m.0, (m.1.0, (m.1.1.0, Rattle.atomic_table.proofs.Lists.at_longer s.views (w ∷ []) j m.1.1.0 m.1.1.1, m.1.1.2)));
        unmade = k.unmade;
        some = k.some;
        few = let e = calls_more s.views w in let f = k.few in omega (arith, e, f);
      },
      refl,
    )

-- the same at seats that are known by an equation
pub takes_as : (origin : Origin) (slots id : ℕ) (me : SeatView) (v : View) → me ≡ (v, []) → Allows (IsKept origin) slots id me 1 (λ n. either (n == 0) 1 n) (TakesIt (step slots 1 0 1 opt.none) me)
takes_as origin slots id me v is = subst (λ (m : SeatView). Allows (IsKept origin) slots id m 1 (λ n. either (n == 0) 1 n) (TakesIt (step slots 1 0 1 opt.none) m)) (sym is) (takes_it origin slots id v)

pub gives_as : (origin : Origin) (slots id : ℕ) (me : SeatView) (v : View) (h c : State) → slots ≡ 1 → me ≡ (v, (0, Some c) ∷ []) → v.hold ≡ Some h → v.met ≡ None → IsQuiet h c
    → Allows (IsKept origin) slots id me 1 (λ _. 0) (λ _. GivesIt (step slots 1 0 0 opt.none) me 0)
gives_as origin slots id me v h c one is hold met quiet =
    subst (λ k. Allows (IsKept origin) k id me 1 (λ _. 0) (λ _. GivesIt (step k 1 0 0 opt.none) me 0)) (sym one)
    (subst (λ (m : SeatView). Allows (IsKept origin) 1 id m 1 (λ _. 0) (λ _. GivesIt (step 1 1 0 0 opt.none) m 0)) (sym is)
    (gives_it origin id v h c hold met quiet))

pub tells_as : (origin : Origin) (slots id : ℕ) (me : SeatView) (p : PassView) (h c : State) (e : Entry) (old new : ℕ) → me ≡ (holder p h, (0, Some c) ∷ []) → 0 < p.left → Adds p.number h e c
    → old ≡ length h.history → new ≡ length c.history
    → Allows (IsKept origin) slots id me 0 (λ n. either (n == old) new n) (TellsIt (step slots 0 old new opt.none) me)
tells_as origin slots id me p h c e old new is some_left adds old_is new_is =
    subst (λ (m : SeatView). Allows (IsKept origin) slots id m 0 (λ n. either (n == old) new n) (TellsIt (step slots 0 old new opt.none) m)) (sym is)
    (subst (λ k. Allows (IsKept origin) slots id (holder p h, (0, Some c) ∷ []) 0 (λ n. either (n == k) new n) (TellsIt (step slots 0 k new opt.none) (holder p h, (0, Some c) ∷ []))) (sym old_is)
    (subst (λ k. Allows (IsKept origin) slots id (holder p h, (0, Some c) ∷ []) 0 (λ n. either (n == length h.history) k n) (TellsIt (step slots 0 (length h.history) k opt.none) (holder p h, (0, Some c) ∷ []))) (sym new_is)
    (tells_it origin slots id p h c e some_left adds)))

pub looks_as : (origin : Origin) (slots id : ℕ) (me : SeatView) (p : PassView) → me ≡ (pass_view p, []) → Allows (IsKept origin) slots id me 0 (λ n. n) (LooksIt (step slots 0 0 0 opt.none) me)
looks_as origin slots id me p is = subst (λ (m : SeatView). Allows (IsKept origin) slots id m 0 (λ n. n) (LooksIt (step slots 0 0 0 opt.none) m)) (sym is) (looks_it origin slots id p)

pub took_me : (st : Step (Option State)) (me new : SeatView) (v : View) (found : ℕ) → me ≡ (v, []) → TakesIt st me found new
    → (found ≡ 0 → (core : State) × (new ≡ (held_by v core, (0, Some core) ∷ [])) × MeetsSeat core v) × ((found ≡ 0 → ⊥) → new ≡ (v, []))
took_me st me new v found is t = by (found == 0) refl (subst (λ (m : SeatView). TakesIt st m found new) is t)
  where
    by : (b : Bool) → (found == 0) ≡ b → MatchBool b
        ((core : State) × (new ≡ (held_by v core, (0, Some core) ∷ [])) × MeetsSeat core v)
        (new ≡ (v, []))
        → (found ≡ 0 → (core : State) × (new ≡ (held_by v core, (0, Some core) ∷ [])) × MeetsSeat core v) × ((found ≡ 0 → ⊥) → new ≡ (v, []))
    by true e h = (λ _. h, λ no. absurd (no (eqb-true found 0 e)))
    by false e h = (λ z. absurd (false≢true (sym e ∙ eq-eqb found 0 z)), λ _. h)

pub told_me : (st : Step (Option State)) (me new : SeatView) (p : PassView) (h c : State) (found : ℕ) → me ≡ (holder p h, (0, Some c) ∷ []) → TellsIt st me found new → new ≡ (holder (grown c p) c, (0, Some c) ∷ [])
told_me st me new p h c found is t = subst (λ (m : SeatView). TellsIt st m found new) is t

pub gave_me : (st : Step (Option State)) (me new : SeatView) (v : View) (c : List (ℕ × Option State)) (found : ℕ) → me ≡ (v, c) → GivesIt st me found new → new ≡ (record v { hold = None }, [])
gave_me st me new v c found is t = subst (λ (m : SeatView). GivesIt st m found new) is t

pub rest_of : (xs : List (ℕ × Option State)) (x : Option State) → xs ≡ (0, x) ∷ [] → xs ≡ (0, x) ∷ rest xs
rest_of xs x e = e ∙ ap (λ r. (0, x) ∷ r) (sym (ap rest e))

pub swapped : (me new : SeatView) (v : View) (x y : Option State) → me ≡ (v, (0, x) ∷ []) → new ≡ (me.0, (0, y) ∷ rest me.1) → new ≡ (v, (0, y) ∷ [])
swapped me new v x y e n = n ∙ (λ i. ((e i).0, (0, y) ∷ rest (e i).1))

sum_from : (a b : ℕ) (ns : List ℕ) → Rattle.std.proofs.Common.fold ◌+◌ (a + b) ns ≡ a + Rattle.std.proofs.Common.fold ◌+◌ b ns
sum_from a b [] = refl
sum_from a b (n ∷ ns) = ap (λ k. Rattle.std.proofs.Common.fold ◌+◌ k ns) (omega arith) ∙ sum_from a (b + n) ns

pub sum_cons : (n : ℕ) (ns : List ℕ) → sum (n ∷ ns) ≡ n + sum ns
sum_cons n ns = ap (λ k. Rattle.std.proofs.Common.fold ◌+◌ k ns) (omega arith) ∙ sum_from n 0 ns

-- a pass is made
pub makes_it : (origin : Origin) (id : ℕ) (i : Origin) (made n : ℕ) (ns : List ℕ) → Splits (IsKept origin) id (maker_view i made (n ∷ ns)) (maker_view i (made + 1) ns) (pass_view record { origin = i; number = made + 1; left = n; known = []; own = []; seen = 0; looks = 0 })
makes_it origin id i made n ns s k at =
    let m : MakerView = record { origin = i; made = made; calls = n ∷ ns } in
    let m' : MakerView = record { origin = i; made = made + 1; calls = ns } in
    let v = maker_view i made (n ∷ ns) in
    let v' = maker_view i (made + 1) ns in
    let x : PassView = record { origin = i; number = made + 1; left = n; known = []; own = []; seen = 0; looks = 0 } in
    let vs = set s.views id v' in
    let my_maker : At maker_of s.views id m = (v, at, refl) in
    let mine = k.maker id m my_maker in
    let holders : (j : ℕ) (q : State) → At hold_of (vs ++ pass_view x ∷ []) j q → At hold_of s.views j q =
    λ j q t. ⊎_elim (λ u. same_read hold_of s.views id v v' at refl j q u) (λ u. absurd (none-some q u.1)) (more_read hold_of vs (pass_view x) j q t) in
    let pass_case : (j : ℕ) (q : PassView) → At pass_of (vs ++ pass_view x ∷ []) j q → (At pass_of s.views j q) ⊎ ((j ≡ length vs) × (x ≡ q)) =
    λ j q t. ⊎_elim (λ u. inl (same_read pass_of s.views id v v' at refl j q u)) (λ u. inr (u.0, same_Some x q u.1)) (more_read pass_of vs (pass_view x) j q t) in
    let maker_case : (j : ℕ) (q : MakerView) → At maker_of (vs ++ pass_view x ∷ []) j q → (j ≡ id) × (m' ≡ q) =
    λ j q t. ⊎_elim (λ u. ⊎_elim (λ h. (h.0, same_Some m' q h.1)) (λ (h : (j ≢ id) × At maker_of s.views j q). absurd (h.0 (k.lone j id q m h.1 my_maker))) (at_read maker_of s.views id j v' q u)) (λ u. absurd (none-some q u.1)) (more_read maker_of vs (pass_view x) j q t) in
    let guests : (j : ℕ) (q : Origin) → At guest_of (vs ++ pass_view x ∷ []) j q → At guest_of s.views j q =
    λ j q t. ⊎_elim (λ u. same_read guest_of s.views id v v' at refl j q u) (λ u. absurd (none-some q u.1)) (more_read guest_of vs (pass_view x) j q t) in
    let new : (j : ℕ) (q : PassView) → At pass_of s.views j q → q.number ≢ x.number = λ j q t z. let f = (k.passes j q t).number in let e = mine.0 in omega (arith, f, e, z) in
    record {
      log = k.log;
      lock = k.lock;
      made = k.made + 1;
      room = k.room;
      words = k.words;
      home = k.home;
      free = λ z j q t. k.free z j q (holders j q t);
      holds = λ j q t. k.holds j q (holders j q t);
      one = λ a b q r t u. k.one a b q r (holders a q t) (holders b r u);
      passes = λ j q t.
          ⊎_elim
          (λ u. let f = k.passes j q u in record { origin_is = f.origin_is; known = f.known; own = f.own; seen = f.seen; far = f.far; number = let l = f.number in omega (arith, l); from = f.from })
          (λ u. subst (Fits origin (k.made + 1) k.log) u.1
          (record { origin_is = mine.1; known = begins_none k.log; own = sym (k.unmade (made + 1) (let e = mine.0 in inr (omega (arith, e)))); seen = omega arith; far = omega arith; number = let e = mine.0 in omega (arith, e); from = omega arith }))
          (pass_case j q t);
      apart = λ a b q r t u same.
          ⊎_elim
          (λ c. ⊎_elim (λ d. k.apart a b q r c d same) (λ (d : (b ≡ length vs) × (x ≡ r)). absurd (new a q c (same ∙ ap (λ (z : PassView). z.number) (sym d.1)))) (pass_case b r u))
          (λ (c : (a ≡ length vs) × (x ≡ q)). ⊎_elim (λ d. absurd (new b r d (sym same ∙ ap (λ (z : PassView). z.number) (sym c.1)))) (λ (d : (b ≡ length vs) × (x ≡ r)). c.0 ∙ sym d.0) (pass_case b r u))
          (pass_case a q t);
      maker = λ j q t. let e = (maker_case j q t).1 in (ap (λ (z : MakerView). z.made) (sym e) ∙ ap (λ z. z + 1) mine.0, ap (λ (z : MakerView). z.origin) (sym e) ∙ mine.1);
      lone = λ a b q r t u. (maker_case a q t).0 ∙ sym (maker_case b r u).0;
      guests = λ j o t. k.guests j o (guests j o t);
      met = λ j q t.
          ⊎_elim
          (λ u.
          let g = k.met j q (same_read met_of s.views id v v' at refl j q u) in
          let f = g.0 in
          let h = kept_read hold_of s.views id v v' at refl j g.1.0 g.1.1 in (
            record { origin_is = f.origin_is; known = f.known; own = f.own; seen = f.seen; far = f.far; number = let l = f.number in omega (arith, l); from = f.from },
            (g.1.0, (h.0, at_longer vs (pass_view x ∷ []) j h.0 h.1, h.2)),
          ))
          (λ u. absurd (none-some q u.1))
          (more_read met_of vs (pass_view x) j q t);
      unmade = λ z other. k.unmade z (⊎_elim (λ e. inl e) (λ lt. inr (omega (arith, lt))) other);
      some = k.some;
      few = let e = calls_set s.views id v v' at in let l = calls_more vs (pass_view x) in let f = k.few in omega (arith, e, l, f, before, after, given);
    }
  where
    before : view_calls (maker_view i made (n ∷ ns)) ≡ (n + sum ns) + 0
    before = let h = sum_cons n ns in omega (arith, h)

    after : view_calls (maker_view i (made + 1) ns) ≡ sum ns + 0
    after = refl

    given : view_calls (pass_view record { origin = i; number = made + 1; left = n; known = []; own = []; seen = 0; looks = 0 }) ≡ 0 + n
    given = refl

only : {A : Type 0} (read : View → Option A) (v : View) (j : ℕ) (a : A) → At read (v ∷ []) j a → (j ≡ 0) × (read v ≡ Some a)
only read v zero a t = (refl, ap read (some-injective _ _ t.1) ∙ t.2)
only read v (suc j) a t = absurd (some-ne-none t.0 (sym t.1))

pub begins : (origin : Origin) (calls : List ℕ) (core : State) → origin_of core ≡ origin → core.history ≡ [] → sum calls ≤ core.calls_left → core.calls_left ≤ 8192 → core.cells.draws ≤ 2 ^ 63 → IsKept origin (opening (0 ∷ 0 ∷ []) (Some core ∷ []) (maker_view origin 0 calls))
begins origin calls core same empty enough at_most drawn =
    let v = maker_view origin 0 calls in
    let m : MakerView = record { origin = origin; made = 0; calls = calls } in
    record {
      log = [];
      lock = 0;
      made = 0;
      room = core.calls_left;
      words = refl;
      home = λ _. (core, refl, record { origin_is = same; history = empty; calls = refl; draws = omega (arith, drawn, at_most) });
      free = λ _ j q t. none-some q (only hold_of v j q t).1;
      holds = λ j q t. absurd (none-some q (only hold_of v j q t).1);
      one = λ i j q r t u. absurd (none-some q (only hold_of v i q t).1);
      passes = λ j q t. absurd (none-some q (only pass_of v j q t).1);
      apart = λ i j q r t u _. absurd (none-some q (only pass_of v i q t).1);
      maker = λ j q t. let e = same_Some m q (only maker_of v j q t).1 in (ap (λ (z : MakerView). z.made) (sym e), ap (λ (z : MakerView). z.origin) (sym e));
      lone = λ i j a b t u. (only maker_of v i a t).0 ∙ sym (only maker_of v j b u).0;
      guests = λ j o t. absurd (none-some o (only guest_of v j o t).1);
      met = λ j q t. absurd (none-some q (only met_of v j q t).1);
      unmade = λ n _. refl;
      some = at_most;
      few = omega (arith, enough);
    }

-- who has the core meets a pass
pub meets_it : (origin : Origin) (id : ℕ) (v : View) (h : State) (other : ℕ) (p : PassView) → v.hold ≡ Some h → Joins (IsKept origin) id v other (pass_view p) (meeting v (pass_view p)) blank_view
meets_it origin id v h other p is s k at apart there =
    let w = meeting v (pass_view p) in
    let vs : List View = set s.views id w in
    let old : get_elem? s.views other ≡ opt.some (pass_view p) =
    ⊎_elim (λ (t : (other ≡ id) × (w ≡ pass_view p)). absurd (apart t.0)) (λ (t : (other ≢ id) × (get_elem? s.views other ≡ opt.some (pass_view p))). t.1) (at_set s.views id other w (pass_view p) there) in
    let mine : At hold_of s.views id h = (v, at, is) in
    let holders : (j : ℕ) (q : State) → At hold_of (set vs other blank_view) j q → At hold_of s.views j q =
    λ j q t. same_read hold_of s.views id v w at refl j q (lost_read hold_of vs other blank_view refl j q t).1 in
    let passers : (j : ℕ) (q : PassView) → At pass_of (set vs other blank_view) j q → At pass_of s.views j q =
    λ j q t. same_read pass_of s.views id v w at refl j q (lost_read pass_of vs other blank_view refl j q t).1 in
    let makers : (j : ℕ) (q : MakerView) → At maker_of (set vs other blank_view) j q → At maker_of s.views j q =
    λ j q t. same_read maker_of s.views id v w at refl j q (lost_read maker_of vs other blank_view refl j q t).1 in
    let guests : (j : ℕ) (q : Origin) → At guest_of (set vs other blank_view) j q → At guest_of s.views j q =
    λ j q t. same_read guest_of s.views id v w at refl j q (lost_read guest_of vs other blank_view refl j q t).1 in
    record {
      log = k.log;
      lock = k.lock;
      made = k.made;
      room = k.room;
      words = k.words;
      home = k.home;
      free = λ z j q t. k.free z j q (holders j q t);
      holds = λ j q t. k.holds j q (holders j q t);
      one = λ i j q r t u. k.one i j q r (holders i q t) (holders j r u);
      passes = λ j q t. k.passes j q (passers j q t);
      apart = λ i j q r t u same. k.apart i j q r (passers i q t) (passers j r u) same;
      maker = λ j q t. k.maker j q (makers j q t);
      lone = λ i j a b t u. k.lone i j a b (makers i a t) (makers j b u);
      guests = λ j o t. k.guests j o (guests j o t);
      met = λ j q t.
          ⊎_elim
          (λ u. (subst (Fits origin k.made k.log) (same_Some p q u.1) (k.passes other p (pass_view p, old, refl)), (h, stays j u.0)))
          (λ (u : (j ≢ id) × At met_of s.views j q). let g = k.met j q u.1 in absurd (u.0 (k.one j id g.1.0 h g.1.1 mine)))
          (at_read met_of s.views id j w q (lost_read met_of vs other blank_view refl j q t).1);
      unmade = k.unmade;
      some = k.some;
      few = let a = calls_set s.views id v w at in let b = calls_set vs other (pass_view p) blank_view there in let f = k.few in omega (arith, a, b, f);
    }
  where
    stays : (j : ℕ) → j ≡ id → At hold_of (set (set s.views id (meeting v (pass_view p))) other blank_view) j h
    stays j same = (
      meeting v (pass_view p),
      ap (get_elem? (set (set s.views id (meeting v (pass_view p))) other blank_view)) same
          ∙ set_else (set s.views id (meeting v (pass_view p))) other id blank_view (λ z. apart (sym z))
          ∙ set_here s.views id (meeting v (pass_view p)) (some_within s.views id v at),
      is,
    )

-- and is told of it
pub learns_it : (origin : Origin) (slots id : ℕ) (v : View) (c : List (ℕ × Option State)) (h : State) → v.hold ≡ Some h → Allows (IsKept origin) slots id (v, c) 0 (λ n. n) (LearnsIt (step slots 0 0 0 opt.none) (v, c))
learns_it origin slots id v c h is s k homes at _ =
    let w : View = record v { met = None } in
    let mine : At hold_of s.views id h = (v, at, is) in
    let holders = same_read hold_of s.views id v w at refl in
    let passers = same_read pass_of s.views id v w at refl in
    let makers = same_read maker_of s.views id v w at refl in
    let guests = same_read guest_of s.views id v w at refl in (
      w,
      keeps,
      tt,
      record {
        log = k.log;
        lock = k.lock;
        made = k.made;
        room = k.room;
        words = first_same s.words (length k.log) k.lock k.words;
        home = k.home;
        free = λ z j q t. k.free z j q (holders j q t);
        holds = λ j q t. k.holds j q (holders j q t);
        one = λ i j q r t u. k.one i j q r (holders i q t) (holders j r u);
        passes = λ j q t. k.passes j q (passers j q t);
        apart = λ i j q r t u e. k.apart i j q r (passers i q t) (passers j r u) e;
        maker = λ j q t. k.maker j q (makers j q t);
        lone = λ i j a b t u. k.lone i j a b (makers i a t) (makers j b u);
        guests = λ j o t. k.guests j o (guests j o t);
        met = λ j q t. let u = lost_read met_of s.views id w refl j q t in let g = k.met j q u.1 in absurd (u.0 (k.one j id g.1.0 h g.1.1 mine));
        unmade = k.unmade;
        some = k.some;
        few = let e = calls_set s.views id v w at in let f = k.few in omega (arith, e, f);
      },
      (
        refl,
        if_some (λ g. IfSome v.met (λ p. Begins p.known g.history × (p.own ≡ by_editor p.number g.history))) v.hold
            (λ g e. if_some (λ p. Begins p.known g.history × (p.own ≡ by_editor p.number g.history)) v.met
            (λ p there.
            let f = (k.met id p (v, at, there)).0 in
            let same = (k.holds id g (v, at, e)).history in
            (subst (Begins p.known) (sym same) f.known, f.own ∙ ap (by_editor p.number) (sym same)))),
      ),
    )

pub makes_as : (origin : Origin) (id : ℕ) (i : Origin) (made n : ℕ) (ns : List ℕ) (v : View) → v ≡ maker_view i made (n ∷ ns) → Splits (IsKept origin) id v (maker_after v) (next_pass v)
makes_as origin id i made n ns v is = subst (λ (x : View). Splits (IsKept origin) id x (maker_after x) (next_pass x)) (sym is) (makes_it origin id i made n ns)

pub meets_as : (origin : Origin) (id other : ℕ) (v w : View) (h : State) (p : PassView) → v.hold ≡ Some h → w ≡ pass_view p → Joins (IsKept origin) id v other w (meeting v w) blank_view
meets_as origin id other v w h p is w_is = subst (λ (y : View). Joins (IsKept origin) id v other y (meeting v y) blank_view) (sym w_is) (meets_it origin id v h other p is)

pub learns_as : (origin : Origin) (slots id : ℕ) (me : SeatView) (v : View) (c : List (ℕ × Option State)) (h : State) → me ≡ (v, c) → v.hold ≡ Some h → Allows (IsKept origin) slots id me 0 (λ n. n) (LearnsIt (step slots 0 0 0 opt.none) me)
learns_as origin slots id me v c h is hold = subst (λ (m : SeatView). Allows (IsKept origin) slots id m 0 (λ n. n) (LearnsIt (step slots 0 0 0 opt.none) m)) (sym is) (learns_it origin slots id v c h hold)

pub learned_me : (st : Step (Option State)) (me new : SeatView) (v : View) (c : List (ℕ × Option State)) (h : State) (p : PassView) (found : ℕ) → me ≡ (meeting (held_by v h) (pass_view p), c) → LearnsIt st me found new
    → (new ≡ (record (held_by v h) { met = None }, c)) × Begins p.known h.history × (p.own ≡ by_editor p.number h.history)
learned_me st me new v c h p found is t = let u : (new ≡ (record (held_by v h) { met = None }, c)) × (Begins p.known h.history × (p.own ≡ by_editor p.number h.history)) = subst (λ (m : SeatView). LearnsIt st m found new) is t in (u.0, u.1.0, u.1.1)
