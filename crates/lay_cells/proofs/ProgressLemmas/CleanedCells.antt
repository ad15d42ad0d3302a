-- How a cell becomes clean.
use Rattle.std.proofs.Common.{◌≡◌, inl, inr, ℕ, zero, suc, ◌+◌, ◌≤◌, List, [], ◌∷◌, map, slice_get, slice_set, Some, true, false, refl, rules, arith, ap, sym, subst, ◌∙◌}
use Rattle.std.specs.Prelude.{option_map}
use Rattle.std.proofs.lemmas.Bool.{false≢true}
use Rattle.std.proofs.lemmas.Option.{same_Some}
use Rattle.lay_cells.specs.Looks.{IsAt, IsGone}
use Rattle.lay_cells.specs.Rows.{Row, Solved, State, entry_of}
use Rattle.lay_cells.specs.Shapes.{IsShape}
use Rattle.lay_cells.specs.Sound.{IsSound}
use Rattle.lay_cells.specs.Steps.{Claims, ClaimsIn, Finishes, GivesBack, IsOpen, IsStale}
use Rattle.lay_cells.specs.declared.cell.Open.{Open}
use Rattle.lay_cells.specs.declared.answers.Claimed.{Claimed}
use Rattle.lay_cells.specs.declared.answers.Claimed.TheVariants.{Granted, Reused, Taken}
use Rattle.lay_cells.specs.declared.answers.Finished.{Finished}
use Rattle.lay_cells.specs.declared.answers.Finished.TheVariants as finished
use Rattle.lay_cells.specs.declared.answers.Released.{Released as Answer}
use Rattle.lay_cells.specs.declared.answers.Released.TheVariants as released
use Rattle.lay_cells.proofs.Lists.{length-set, map_at, one_at, set_same}
use Rattle.lay_cells.specs.Progress.Settled.{CleansAt, FinishedCellsAreClean, GrantedClaimsAreReleased, ReusedCellsAreClean, claim_number}
use Rattle.lay_cells.proofs.ProgressLemmas.ChangedRows.{claims_keep_rows_lem}

set_other : {X : Type 0} (xs : List X) (i : ℕ) (x : X) (j : ℕ) → (j ≡ i → ⊥) → slice_get (slice_set xs i x) j ≡ slice_get xs j
set_other [] i x j apart = refl
set_other (a ∷ rest) zero x zero apart = absurd (apart refl)
set_other (a ∷ rest) zero x (suc j) apart = refl
set_other (a ∷ rest) (suc i) x zero apart = refl
set_other (a ∷ rest) (suc i) x (suc j) apart = set_other rest i x j (λ e. apart (ap suc e))

module _ {K I V : Type 0} where
  -- there is one place for a key
  one_place : (rows : List (Row K I V)) → IsShape (map entry_of rows) → (i j : ℕ) (r q : Row K I V) → slice_get rows i ≡ Some r → slice_get rows j ≡ Some q
      → r.key ≡ q.key → i ≡ j
  one_place rows shape i j r q at_r at_q key = shape.apart i j (entry_of r) (entry_of q) (map_at entry_of rows i r at_r) (map_at entry_of rows j q at_q) key

  set_cleans : (rows : List (Row K I V)) (i : ℕ) (r q : Row K I V) → slice_get rows i ≡ Some r → q.dirty ≡ false → CleansAt rows i (slice_set rows i q)
  set_cleans rows i r q at clean =
      record {
        same = length-set rows i q;
        clean = λ x at_x. ap (λ (z : Row K I V). z.dirty) (one_at (slice_set rows i q) i x q at_x (set_same rows i r q at)) ∙ clean;
        others = λ j apart. set_other rows i q j apart;
      }

  pub reused_cells_are_clean_lem : ReusedCellsAreClean K I V
  reused_cells_are_clean_lem s t place r input shape at h =
      let e : place ≡ h.0 = one_place s.rows shape place h.0 r h.1 at h.3.0 (sym h.3.1) in
      let clean : h.2.dirty ≡ false = ap (λ (z : Row K I V). z.dirty) h.4.3 in
      subst (λ (x : State K I V). CleansAt s.rows place x.rows) (sym h.5)
      (subst (λ p. CleansAt s.rows p (slice_set s.rows h.0 h.2)) (sym e) (set_cleans s.rows h.0 h.1 h.2 h.3.0 clean))

  -- the claim of this number and input is open, and isn't stale
  record IsOpenNow (q : Row K I V) (number : ℕ) (input : I) : Type 0 where
    number_is : IsOpen q number
    given : q.given ≡ Some input
    fresh : IsStale q false
    first : q.first ≤ number

  open_of : (q : Row K I V) (number : ℕ) → q.claim ≡ Some record { number = number; stale = false } → IsOpen q number × IsStale q false
  open_of q number e = (ap (option_map (λ (o : Open). o.number)) e, ap (option_map (λ (o : Open). o.stale)) e)

  claimed_now : (relates : I → V → Type 0) (s : State K I V) → IsSound relates s → (i : ℕ) (r q : Row K I V) (input : I) (c : Claimed) (number : ℕ)
      → slice_get s.rows i ≡ Some r → Claims r (s.draws + 1) input c q → claim_number c ≡ Some number → IsOpenNow q number input
  claimed_now relates s sound i r q input (Granted n) number at h is =
      let row = sound.each r (i, at) in
      let o = open_of q (s.draws + 1) (ap (λ (z : Row K I V). z.claim) h.4) in
      let e : number ≡ s.draws + 1 = sym (same_Some n number is) ∙ h.0 in
      let f : q.first ≡ r.first = ap (λ (z : Row K I V). z.first) h.4 in
      record {
        number_is = o.0 ∙ ap Some (sym e);
        given = ap (λ (z : Row K I V). z.given) h.4;
        fresh = o.1;
        first = omega (arith, f, e, row.first, row.last);
      }
  claimed_now relates s sound i r q input Reused number at h is = absurd (grind (rules, is))
  claimed_now relates s sound i r q input (Taken n) number at h is =
      let row = sound.each r (i, at) in
      let o = open_of q n (ap (λ (z : Row K I V). z.claim) h.2) in
      let e : number ≡ n = sym (same_Some n number is) in
      let f : q.first ≡ r.first = ap (λ (z : Row K I V). z.first) h.2 in
      let l : n ≡ r.last = row.opened n h.1 in
      record {
        number_is = o.0 ∙ ap Some (sym e);
        given = ap (λ (z : Row K I V). z.given) h.2 ∙ h.0.1;
        fresh = o.1;
        first = omega (arith, f, e, l, row.first);
      }

  finish_now : (r q : Row K I V) (d : Solved K I V) (a : Finished) → IsOpenNow r d.number d.input → Finishes r d a q → (a ≡ finished.Cleaned) × (q.dirty ≡ false)
  finish_now r q d finished.Gone o h = absurd (let f = o.first in let l = h.0 in omega (arith, f, l))
  finish_now r q d (finished.Superseded n) o h = absurd (h.1 (o.number_is, o.given))
  finish_now r q d finished.Stored o h = absurd (false≢true (same_Some false true (sym o.fresh ∙ h.2)))
  finish_now r q d finished.Cleaned o h = (refl, ap (λ (z : Row K I V). z.dirty) h.3)

  give_back_now : (r q : Row K I V) (number : ℕ) (input : I) (a : Answer) → IsOpenNow r number input → GivesBack r number a q → a ≡ released.Released
  give_back_now r q number input released.Gone o h = absurd (let f = o.first in let l = h.0 in omega (arith, f, l))
  give_back_now r q number input (released.Superseded n) o h = absurd (h.1 o.number_is)
  give_back_now r q number input released.Released o h = refl

  module _ (relates : I → V → Type 0) (s : State K I V) (sound : IsSound relates s) where
    module _ (key : K) (input : I) (c : Claimed) (number : ℕ) (t : State K I V) (h : ClaimsIn s key input c t) where
      later_shape : IsShape (map entry_of t.rows)
      later_shape = subst IsShape (sym (claims_keep_rows_lem s t key input c h).0.entries) sound.shaped

      claimed_at : slice_get t.rows h.0 ≡ Some h.2
      claimed_at = ap (λ (x : State K I V). slice_get x.rows h.0) h.5 ∙ set_same s.rows h.0 h.1 h.2 h.3.0

      claimed_key : h.2.key ≡ key
      claimed_key = claims_key h.2 c h.4 ∙ h.3.1
        where
          claims_key : (q : Row K I V) (a : Claimed) → Claims h.1 (s.draws + 1) input a q → q.key ≡ h.1.key
          claims_key q (Granted n) g = ap (λ (z : Row K I V). z.key) g.4
          claims_key q Reused g = ap (λ (z : Row K I V). z.key) g.3
          claims_key q (Taken n) g = ap (λ (z : Row K I V). z.key) g.2

      not_gone : IsGone t.rows key → ⊥
      not_gone gone = gone h.2 (h.0, claimed_at) claimed_key

      -- whoever looks for the key finds this row
      found : (j : ℕ) (r : Row K I V) → IsAt t.rows key j r → (j ≡ h.0) × (r ≡ h.2)
      found j r is =
          let e = one_place t.rows later_shape j h.0 r h.2 is.0 claimed_at (is.1 ∙ sym claimed_key) in
          (e, one_at t.rows h.0 r h.2 (ap (slice_get t.rows) (sym e) ∙ is.0) claimed_at)

  pub finished_cells_are_clean_lem : (relates : I → V → Type 0) → FinishedCellsAreClean K I V relates
  finished_cells_are_clean_lem relates s t u place r input value number c a sound at h is (inl g) = absurd (not_gone relates s sound r.key input c number t h g.0)
  finished_cells_are_clean_lem relates s t u place r input value number c a sound at h is (inr g) =
      let f = found relates s sound r.key input c number t h g.0 g.1 g.3 in
      let now = claimed_now relates s sound h.0 h.1 h.2 input c number h.3.0 h.4 is in
      let done = finish_now g.1 g.2 (record { key = r.key; number = number; input = input; value = value }) a
      (subst (λ (x : Row K I V). IsOpenNow x number input) (sym f.1) now) g.4 in
      let e : place ≡ h.0 = one_place s.rows sound.shaped place h.0 r h.1 at h.3.0 (sym h.3.1) in
      let twice = set_cleans (slice_set s.rows h.0 h.2) h.0 h.2 g.2 (set_same s.rows h.0 h.1 h.2 h.3.0) done.1 in (
        done.0,
        subst (λ (x : State K I V). CleansAt s.rows place x.rows) (sym g.5)
            (subst (λ j. CleansAt s.rows place (slice_set t.rows j g.2)) (sym f.0)
            (subst (λ (x : State K I V). CleansAt s.rows place (slice_set x.rows h.0 g.2)) (sym h.5)
            (subst (λ p. CleansAt s.rows p (slice_set (slice_set s.rows h.0 h.2) h.0 g.2)) (sym e)
            record {
              same = twice.same ∙ length-set s.rows h.0 h.2;
              clean = twice.clean;
              others = λ j apart. twice.others j apart ∙ set_other s.rows h.0 h.2 j apart;
            }))),
      )

  pub granted_claims_are_released_lem : (relates : I → V → Type 0) → GrantedClaimsAreReleased K I V relates
  granted_claims_are_released_lem relates s t u key input number a sound h (inl g) = absurd (not_gone relates s sound key input (Granted number) number t h g.0)
  granted_claims_are_released_lem relates s t u key input number a sound h (inr g) =
      let f = found relates s sound key input (Granted number) number t h g.0 g.1 g.3 in
      let now = claimed_now relates s sound h.0 h.1 h.2 input (Granted number) number h.3.0 h.4 refl in
      give_back_now g.1 g.2 number input a (subst (λ (x : Row K I V). IsOpenNow x number input) (sym f.1) now) g.4
