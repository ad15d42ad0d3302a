-- A change of one cell keeps the cells sound.
use Rattle.std.proofs.Common.{◌≡◌, inl, inr, ⊎_elim, Option, IsSome, IsNone, ℕ, List, slice_get, slice_set, Some, None, refl, rules, arith, ap, ◌<◌, ◌≤◌, subst, sym, true, false, ◌+◌, ◌∙◌}
use Rattle.std.specs.Prelude.{option_map}
use Rattle.std.proofs.lemmas.Bool.{false≢true}
use Rattle.std.proofs.lemmas.Option.{same_Some}
use Rattle.lay_cells.specs.Shapes.{Entry, IsShape}
use Rattle.lay_cells.specs.Rows.{Row, Solved, entry_of}
use Rattle.lay_cells.specs.Looks.{AreClean, IsClean}
use Rattle.lay_cells.specs.Steps.{Claims, Finishes, GivesBack, draws_after, Turns, HasClaim, HasKept, IsOpen, IsOpenFor, IsStale}
use Rattle.lay_cells.specs.Sound.{IsSound, IsRow, IsCounted, IsPairOf}
use Rattle.lay_cells.specs.Kept.{IsLowest}
use Rattle.lay_cells.specs.declared.cell.Open.{Open}
use Rattle.lay_cells.specs.declared.answers.Claimed.{Claimed}
use Rattle.lay_cells.specs.declared.answers.Claimed.TheVariants.{Granted, Reused, Taken}
use Rattle.lay_cells.specs.declared.answers.Finished.{Finished}
use Rattle.lay_cells.specs.declared.answers.Finished.TheVariants as finished
use Rattle.lay_cells.specs.declared.answers.Released.{Released}
use Rattle.lay_cells.specs.declared.answers.Released.TheVariants as released
use Rattle.lay_cells.proofs.Lists.{set_cases, set_same, set_keeps_at, map_set_kept}

none_from : {X : Type 0} (o : Option X) → (IsSome o → ⊥) → IsNone o
none_from None h = refl
none_from (Some x) h = absurd (h refl)

some_of : {X Y : Type 0} (f : X → Y) (o : Option X) (y : Y) → option_map f o ≡ Some y → IsSome o
some_of f None y e = grind (rules, e)
some_of f (Some x) y e = refl

pub draws_more : (a : Claimed) (d : ℕ) → d ≤ draws_after a d
draws_more (Taken n) d = omega arith
draws_more Reused d = omega arith
draws_more (Granted n) d = omega arith

module _ {K I V : Type 0} where
  -- the row of a cell that is in order, with its key and dependencies as they were, and clean where it was
  pub record Fits (relates : I → V → Type 0) (rows : List (Row K I V)) (d : ℕ) (r q : Row K I V) : Type 0 where
    pub row : IsRow relates rows d q
    pub entry : entry_of q ≡ entry_of r
    pub fall : r.dirty ≡ false → q.dirty ≡ false

  key_kept : (r q : Row K I V) → entry_of q ≡ entry_of r → q.key ≡ r.key
  key_kept r q e = ap (λ (x : Entry K). x.key) e

  -- what was clean still is
  pub clean_set : (rows : List (Row K I V)) (i : ℕ) (r q : Row K I V) → slice_get rows i ≡ Some r → q.key ≡ r.key → (r.dirty ≡ false → q.dirty ≡ false)
      → (needs : List K) → AreClean rows needs → AreClean (slice_set rows i q) needs
  clean_set rows i r q at key fall needs clean k has = still (clean k has)
    where
      still : IsClean rows k → IsClean (slice_set rows i q) k
      still c = ⊎_elim
          (λ h. let same = h.1 in
          (q, (i, set_same rows i r q at), key ∙ ap (λ (x : Row K I V). x.key) (sym same) ∙ c.2, fall (ap (λ (x : Row K I V). x.dirty) (sym same) ∙ c.3)))
          (λ h. (c.0, (c.1.0, h), c.2, c.3))
          (set_keeps_at rows i r q c.1.0 c.0 at c.1.1)

  row_set : (relates : I → V → Type 0) (rows : List (Row K I V)) (i : ℕ) (r q : Row K I V) → slice_get rows i ≡ Some r → q.key ≡ r.key → (r.dirty ≡ false → q.dirty ≡ false)
      → (d d' : ℕ) → d ≤ d' → (z : Row K I V) → IsRow relates rows d z → IsRow relates (slice_set rows i q) d' z
  row_set relates rows i r q at key fall d d' le z h =
      record {
        pair = h.pair;
        kept = h.kept;
        closed = h.closed;
        clean = λ c. clean_set rows i r q at key fall z.needs (h.clean c);
        fresh = λ f. clean_set rows i r q at key fall z.needs (h.fresh f);
        opened = h.opened;
        first = h.first;
        last = omega (arith, h.last, le);
        laid = omega (arith, h.laid, le);
        turns = omega (arith, h.turns, le);
        counted = h.counted;
      }

  pub set_sound : (relates : I → V → Type 0) (rows : List (Row K I V)) (d d' : ℕ) → IsSound relates record { rows = rows; draws = d } → d ≤ d'
      → (i : ℕ) (r q : Row K I V) → slice_get rows i ≡ Some r → Fits relates rows d' r q → IsSound relates record { rows = slice_set rows i q; draws = d' }
  set_sound relates rows d d' s le i r q at fits =
      let key = key_kept r q fits.entry in
      record {
        each = λ z has.
            ⊎_elim
            (λ h. subst (IsRow relates (slice_set rows i q) d') (sym h.1) (row_set relates rows i r q at key fits.fall d' d' (omega arith) q fits.row))
            (λ h. row_set relates rows i r q at key fits.fall d d' le z (s.each z (has.0, h.1)))
            (set_cases rows i q has.0 z has.1);
        shaped = subst IsShape (sym (map_set_kept entry_of rows i r q at fits.entry)) s.shaped;
      }

  -- the cells before the first dirty one are still clean
  pub set_before : (rows : List (Row K I V)) (n i : ℕ) (r q : Row K I V) → IsLowest rows n → slice_get rows i ≡ Some r → (r.dirty ≡ false → q.dirty ≡ false)
      → (j : ℕ) → j < n → (z : Row K I V) → slice_get (slice_set rows i q) j ≡ Some z → z.dirty ≡ false
  set_before rows n i r q low at fall j lt z got =
      ⊎_elim
      (λ h. ap (λ (x : Row K I V). x.dirty) h.1 ∙ fall (low.before j lt r (ap (slice_get rows) h.0 ∙ at)))
      (λ h. low.before j lt z h.1)
      (set_cases rows i q j z got)

  turns_more : (r : Row K I V) (input : I) (n : ℕ) → Turns r input n → r.turns ≤ n
  turns_more r input n (inl h) = omega (arith, h.1)
  turns_more r input n (inr (inl h)) = omega (arith, h.1)
  turns_more r input n (inr (inr h)) = omega (arith, h.2)

  turns_few : (r : Row K I V) (input : I) (n : ℕ) → Turns r input n → n ≤ r.turns + 1
  turns_few r input n (inl h) = omega (arith, h.1)
  turns_few r input n (inr (inl h)) = omega (arith, h.1)
  turns_few r input n (inr (inr h)) = omega (arith, h.2)

  -- a grant is paid for
  paid : (r : Row K I V) (input : I) (n : ℕ) → IsCounted r → (HasClaim r input → ⊥) → (HasKept r input → ⊥) → Turns r input n → r.laid + 1 ≤ 1 + (n + r.backs)
  paid r input n h no_claim no_kept (inl t) = let z = h.none t.0 in omega (arith, z)
  paid r input n h no_claim no_kept (inr (inl t)) = let z = h.lost (none_from r.claim (λ some. no_claim (some, t.0))) input t.0 no_kept in omega (arith, z, t.1)
  paid r input n h no_claim no_kept (inr (inr t)) = let z = h.most in omega (arith, z, t.2)

  -- a pair is still the cell's after more numbers were drawn for it
  pair_later : (relates : I → V → Type 0) (r q : Row K I V) (p : Solved K I V) → q.key ≡ r.key → q.first ≡ r.first → r.last ≤ q.last → IsPairOf relates r p → IsPairOf relates q p
  pair_later relates r q p key first last h = record { meets = h.meets; key_is = h.key_is ∙ sym key; drawn = omega (arith, h.drawn, first); until = omega (arith, h.until, last) }

  module _ (relates : I → V → Type 0) (rows : List (Row K I V)) (d : ℕ) (r : Row K I V) (ok : IsRow relates rows d r) where
    taken_row : (n : ℕ) (input : I) → AreClean rows r.needs → r.dirty ≡ true → HasClaim r input → IsOpen r n
        → IsRow relates rows d (record r { claim = Some record { number = n; stale = false } })
    taken_row n input clean dirty has number =
        record {
          pair = λ p e. pair_later relates r (record r { claim = Some record { number = n; stale = false } }) p refl refl (omega arith) (ok.pair p e);
          kept = ok.kept;
          closed = λ f. absurd (false≢true (sym f ∙ dirty));
          clean = ok.clean;
          fresh = λ _. clean;
          opened = λ m e. sym (same_Some n m e) ∙ ok.opened n number;
          first = ok.first;
          last = ok.last;
          laid = ok.laid;
          turns = ok.turns;
          counted = record {
            none = ok.counted.none;
            most = ok.counted.most;
            lost = λ none. absurd (false≢true (sym none));
            back = ok.counted.back;
            open_back = λ _. ok.counted.open_back has.0;
            open_given = λ _. ok.counted.open_given has.0;
            kept_paid = ok.counted.kept_paid;
          };
        }

    reused_row : (t : ℕ) (input : I) → AreClean rows r.needs → HasKept r input → Turns r input t
        → IsRow relates rows (d + 1) (record r { claim = None; dirty = false; given = Some input; last = d + 1; turns = t })
    reused_row t input clean has turn =
        let more = turns_more r input t turn in
        let few = turns_few r input t turn in
        record {
          pair = λ p e. pair_later relates r (record r { claim = None; dirty = false; given = Some input; last = d + 1; turns = t }) p refl refl (omega (arith, ok.last)) (ok.pair p e);
          kept = λ _. some_of (λ (p : Solved K I V). p.input) r.kept input has;
          closed = λ _. refl;
          clean = λ _. clean;
          fresh = λ _. clean;
          opened = λ m e. absurd (grind (rules, e));
          first = omega (arith, ok.first, ok.last);
          last = omega arith;
          laid = omega (arith, ok.laid);
          turns = omega (arith, ok.turns, few);
          counted = record {
            none = λ e. absurd (grind (rules, e));
            most = omega (arith, ok.counted.most, more);
            lost = λ _ g given other. absurd (other (has ∙ given));
            back = ok.counted.back;
            open_back = λ some. absurd (false≢true some);
            open_given = λ some. absurd (false≢true some);
            kept_paid = ok.counted.kept_paid;
          };
        }

    granted_row : (t : ℕ) (input : I) → AreClean rows r.needs → r.dirty ≡ true → (HasClaim r input → ⊥) → (HasKept r input → ⊥) → Turns r input t
        → IsRow relates rows (d + 1) (record r { claim = Some record { number = d + 1; stale = false }; given = Some input; last = d + 1; laid = r.laid + 1; turns = t })
    granted_row t input clean dirty no_claim no_kept turn =
        let few = turns_few r input t turn in
        let pay = paid r input t ok.counted no_claim no_kept turn in
        record {
          pair = λ p e. pair_later relates r (record r { claim = Some record { number = d + 1; stale = false }; given = Some input; last = d + 1; laid = r.laid + 1; turns = t }) p refl refl (omega (arith, ok.last)) (ok.pair p e);
          kept = ok.kept;
          closed = λ f. absurd (false≢true (sym f ∙ dirty));
          clean = ok.clean;
          fresh = λ _. clean;
          opened = λ m e. sym (same_Some (d + 1) m e);
          first = omega (arith, ok.first, ok.last);
          last = omega arith;
          laid = omega (arith, ok.laid);
          turns = omega (arith, ok.turns, few);
          counted = record {
            none = λ e. absurd (grind (rules, e));
            most = pay;
            lost = λ none. absurd (false≢true (sym none));
            back = omega (arith, ok.counted.back);
            open_back = λ _. omega (arith, ok.counted.back);
            open_given = λ _. refl;
            kept_paid = λ _. omega arith;
          };
        }

    -- what a claim makes of a cell that is ready is in order
    pub claim_row : (q : Row K I V) (input : I) → AreClean rows r.needs → r.dirty ≡ true → (a : Claimed) → Claims r (d + 1) input a q → Fits relates rows (draws_after a d) r q
    claim_row q input clean dirty (Taken n) c =
        subst (Fits relates rows d r) (sym c.2) record { row = taken_row n input clean dirty c.0 c.1; entry = refl; fall = λ f. f }
    claim_row q input clean dirty Reused c =
        subst (Fits relates rows (d + 1) r) (sym c.3) record { row = reused_row q.turns input clean c.1 c.2; entry = refl; fall = λ _. refl }
    claim_row q input clean dirty (Granted n) c =
        subst (Fits relates rows (d + 1) r) (sym c.4) record { row = granted_row q.turns input clean dirty c.1 c.2 c.3; entry = refl; fall = λ f. f }

    -- a pair that was finished under the open claim
    pair_done : (q : Row K I V) (p : Solved K I V) → relates p.input p.value → p.key ≡ r.key → IsOpen r p.number → q.key ≡ r.key → q.first ≡ r.first → q.last ≡ r.last
        → (e : Solved K I V) → Some p ≡ Some e → IsPairOf relates q e
    pair_done q p meets key number key_q first_q last_q e is =
        subst (IsPairOf relates q) (same_Some p e is)
        (let n = ok.opened p.number number in record { meets = meets; key_is = key ∙ sym key_q; drawn = omega (arith, n, ok.first, first_q); until = omega (arith, n, last_q) })

    stored_row : (p : Solved K I V) → relates p.input p.value → p.key ≡ r.key → IsOpenFor r p → IsRow relates rows d (record r { claim = None; kept = Some p })
    stored_row p meets key is =
        record {
          pair = pair_done (record r { claim = None; kept = Some p }) p meets key is.0 refl refl refl;
          kept = λ _. refl;
          closed = λ _. refl;
          clean = ok.clean;
          fresh = λ f. absurd (grind (rules, f));
          opened = λ m e. absurd (grind (rules, e));
          first = ok.first;
          last = ok.last;
          laid = ok.laid;
          turns = ok.turns;
          counted = record {
            none = ok.counted.none;
            most = ok.counted.most;
            lost = λ _ g given other. absurd (other (sym is.1 ∙ given));
            back = ok.counted.back;
            open_back = λ some. absurd (false≢true some);
            open_given = λ some. absurd (false≢true some);
            kept_paid = λ _. (let paid = ok.counted.open_back (some_of (λ (o : Open). o.number) r.claim p.number is.0) in omega (arith, paid));
          };
        }

    cleaned_row : (p : Solved K I V) → relates p.input p.value → p.key ≡ r.key → IsOpenFor r p → IsStale r false
        → IsRow relates rows d (record r { claim = None; kept = Some p; dirty = false })
    cleaned_row p meets key is fresh =
        record {
          pair = pair_done (record r { claim = None; kept = Some p; dirty = false }) p meets key is.0 refl refl refl;
          kept = λ _. refl;
          closed = λ _. refl;
          clean = λ _. ok.fresh fresh;
          fresh = λ f. absurd (grind (rules, f));
          opened = λ m e. absurd (grind (rules, e));
          first = ok.first;
          last = ok.last;
          laid = ok.laid;
          turns = ok.turns;
          counted = record {
            none = ok.counted.none;
            most = ok.counted.most;
            lost = λ _ g given other. absurd (other (sym is.1 ∙ given));
            back = ok.counted.back;
            open_back = λ some. absurd (false≢true some);
            open_given = λ some. absurd (false≢true some);
            kept_paid = λ _. (let paid = ok.counted.open_back (some_of (λ (o : Open). o.number) r.claim p.number is.0) in omega (arith, paid));
          };
        }

    -- a row is as it was
    same_row : (q : Row K I V) → q ≡ r → Fits relates rows d r q
    same_row q same = subst (Fits relates rows d r) (sym same) record { row = ok; entry = refl; fall = λ f. f }

    pub finish_row : (q : Row K I V) (p : Solved K I V) → relates p.input p.value → p.key ≡ r.key → (a : Finished) → Finishes r p a q → Fits relates rows d r q
    finish_row q p meets key finished.Gone f = same_row q f.1
    finish_row q p meets key (finished.Superseded n) f = same_row q f.3
    finish_row q p meets key finished.Stored f = subst (Fits relates rows d r) (sym f.3) record { row = stored_row p meets key f.1; entry = refl; fall = λ x. x }
    finish_row q p meets key finished.Cleaned f = subst (Fits relates rows d r) (sym f.3) record { row = cleaned_row p meets key f.1 f.2; entry = refl; fall = λ _. refl }

    released_row : (n : ℕ) → IsOpen r n → IsRow relates rows d (record r { claim = None; backs = r.backs + 1 })
    released_row n is =
        let some = some_of (λ (o : Open). o.number) r.claim n is in
        let back = ok.counted.open_back some in
        record {
          pair = λ p e. pair_later relates r (record r { claim = None; backs = r.backs + 1 }) p refl refl (omega arith) (ok.pair p e);
          kept = ok.kept;
          closed = λ _. refl;
          clean = ok.clean;
          fresh = λ f. absurd (grind (rules, f));
          opened = λ m e. absurd (grind (rules, e));
          first = ok.first;
          last = ok.last;
          laid = ok.laid;
          turns = ok.turns;
          counted = record {
            none = ok.counted.none;
            most = omega (arith, ok.counted.most);
            lost = λ _ g _ _. omega (arith, ok.counted.most);
            back = omega (arith, back);
            open_back = λ s. absurd (false≢true s);
            open_given = λ s. absurd (false≢true s);
            kept_paid = ok.counted.kept_paid;
          };
        }

    pub give_back_row : (q : Row K I V) (n : ℕ) (a : Released) → GivesBack r n a q → Fits relates rows d r q
    give_back_row q n released.Gone f = same_row q f.1
    give_back_row q n (released.Superseded m) f = same_row q f.3
    give_back_row q n released.Released f = subst (Fits relates rows d r) (sym f.2) record { row = released_row n f.1; entry = refl; fall = λ x. x }
