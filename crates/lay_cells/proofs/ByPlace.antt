-- The cell at a place, by its row.
use Rattle.std.proofs.Common.{◌≡◌, ⊎_elim, ℕ, zero, suc, List, [], ◌∷◌, map, slice_get, Option, Some, None, IfSome, IfNone, length, refl, rules, arith, ap, sym, subst, ◌∙◌, ◌<◌, ◌≤◌}
use Rattle.std.specs.BTreeMap.{BTreeMap, get}
use Rattle.std.specs.declared.cmp.Ordering.{Ordering}
use Rattle.std.proofs.lemmas.Bool.{false≢true, cases_lt}
use Rattle.std.proofs.lemmas.List.{length-map}
use Rattle.std.proofs.lemmas.Option.{same_Some}
use Rattle.lay_cells.specs.Shapes.{IsShape}
use Rattle.lay_cells.specs.Rows.{Held, Row, State, entry_of, row_of}
use Rattle.lay_cells.specs.Looks.{IsAt, Looks}
use Rattle.lay_cells.specs.Kept.{IsLowest, IsWired, wire_of}
use Rattle.lay_cells.specs.Laws.{OneDirtyFrom, OneNeed}
use Rattle.lay_cells.specs.Places.{AreCleanFrom, AtPlace, HasNoNeedAt, IsFirstDirtyFrom, IsNeedAt}
use Rattle.lay_cells.specs.Reuses.{AreNeedsAt}
use Rattle.lay_cells.specs.declared.cell.Cell.{Cell}
use Rattle.lay_cells.specs.Steps.{ClaimsIn}
use Rattle.lay_cells.specs.declared.answers.Claimed.{Claimed}
use Rattle.lay_cells.specs.declared.answers.Look.TheVariants as look
use Rattle.lay_cells.proofs.Lists.{in_bounds, map_at, map_got, one_at}
use Rattle.lay_cells.proofs.Wires.{need_at}
use Rattle.lay_cells.proofs.OneRead.{one_answer}
use Rattle.lay_cells.proofs.Answered.{one_by_key}

pub at_within : {X : Type 0} (xs : List X) (i : ℕ) → i < length xs → (x : X) × (slice_get xs i ≡ Some x)
at_within [] i lt = absurd (omega (arith, lt))
at_within (x ∷ xs) zero lt = (x, refl)
at_within (x ∷ xs) (suc i) lt = at_within xs i (omega (arith, lt))

some_none : {X : Type 0} (x : X) → Some x ≡ None → ⊥
some_none x e = absurd (grind (rules, e))

-- there are as many places of dependencies as dependencies
none_needed : {K : Type 0} (f : K → Option ℕ) (places : List ℕ) (needs : List K) → map Some places ≡ map f needs → (n : ℕ) → None ≡ slice_get places n → slice_get needs n ≡ None
none_needed f [] [] same n is = refl
none_needed f [] (k ∷ needs) same n is = absurd (grind (rules, same))
none_needed f (p ∷ places) [] same n is = absurd (grind (rules, same))
none_needed f (p ∷ places) (k ∷ needs) same zero is = absurd (some_none p (sym is))
none_needed f (p ∷ places) (k ∷ needs) same (suc n) is = none_needed f places needs (grind (rules, same)) n is

module _ {K I V : Type 0} where
  pub within_rows : (s : State K I V) (cells : List (Cell K (Held K I V))) (d : ℕ) → record { rows = map row_of cells; draws = d } ≡ s → (place : ℕ) → place < length s.rows → place < length cells
  within_rows s cells d is place lt =
      let x = at_within s.rows place lt in
      in_bounds row_of cells place x.0 (ap (λ (t : State K I V). slice_get t.rows place) is ∙ x.1)

  -- what is said of each row at a place is said of the one there
  pub at_place : (cells : List (Cell K (Held K I V))) (place : ℕ) → place < length cells → (P : Row K I V → Type 0)
      → ((r : Row K I V) → slice_get (map row_of cells) place ≡ Some r → P r) → AtPlace (map row_of cells) place P
  at_place cells place lt P each =
      let c = at_within cells place lt in
      let at = map_at row_of cells place c.0 c.1 in
      (row_of c.0, at, each (row_of c.0) at)

  -- the place of a dependency
  pub need_some : (cmp : K → K → Ordering) (index : BTreeMap K ℕ) (cells : List (Cell K (Held K I V))) → IsWired cmp index (map wire_of cells)
      → (place : ℕ) (c : Cell K (Held K I V)) → slice_get cells place ≡ Some c → (n : ℕ) (o : Option ℕ) → o ≡ slice_get c.places.items n → IfSome o (IsNeedAt (map row_of cells) place n)
  need_some cmp index cells wired place c at n None is = tt
  need_some cmp index cells wired place c at n (Some p) is =
      let k = need_at (get cmp index) c.places.items c.needs.items (wired.places (wire_of c) (place, map_at wire_of cells place c at)) n p (sym is) in
      let w = wired.found k.0 p k.2 in
      let x = map_got wire_of cells p w.0 w.1 in
      let key : k.0 ≡ x.0.key = sym w.2 ∙ ap (λ z. z.key) x.2 in
      (row_of c, map_at row_of cells place c at, (row_of x.0, map_at row_of cells p x.0 x.1, k.1 ∙ ap Some key))

  pub need_none : (cmp : K → K → Ordering) (index : BTreeMap K ℕ) (cells : List (Cell K (Held K I V))) → IsWired cmp index (map wire_of cells)
      → (place : ℕ) (c : Cell K (Held K I V)) → slice_get cells place ≡ Some c → (n : ℕ) (o : Option ℕ) → o ≡ slice_get c.places.items n → IfNone o (HasNoNeedAt (map row_of cells) place n)
  need_none cmp index cells wired place c at n None is =
      (row_of c, map_at row_of cells place c at, none_needed (get cmp index) c.places.items c.needs.items (wired.places (wire_of c) (place, map_at wire_of cells place c at)) n is)
  need_none cmp index cells wired place c at n (Some p) is = tt

  -- the places of all of them
  pub needs_at : (cmp : K → K → Ordering) (index : BTreeMap K ℕ) (cells : List (Cell K (Held K I V))) → IsWired cmp index (map wire_of cells)
      → (place : ℕ) (c : Cell K (Held K I V)) → slice_get cells place ≡ Some c → (places : List ℕ) → places ≡ c.places.items → AreNeedsAt (map row_of cells) place places
  needs_at cmp index cells wired place c at places is =
      let here = map_at row_of cells place c at in
      record {
        row = row_of c;
        there = here;
        count = ap length is ∙ sym (length-map c.places.items Some) ∙ ap length (wired.places (wire_of c) (place, map_at wire_of cells place c at)) ∙ length-map c.needs.items (get cmp index);
        each = λ j need got.
            let n = need_some cmp index cells wired place c at j (Some need) (sym (ap (λ (ps : List ℕ). slice_get ps j) (sym is) ∙ got)) in
            subst (λ (r : Row K I V). AtPlace (map row_of cells) need (λ q. slice_get r.needs j ≡ Some q.key)) (one_at (map row_of cells) place n.0 (row_of c) n.1 here) n.2;
      }

  -- the first dirty cell of all is the first one behind the cells before it
  pub lowest_from : (rows : List (Row K I V)) (n place : ℕ) → IsLowest rows n → place ≤ n → (r : Row K I V) → slice_get rows n ≡ Some r → IsFirstDirtyFrom rows place n
  lowest_from rows n place low le r at = ((r, at, low.at r at), le, λ j from lt q got. low.before j lt q got)

  -- two dirty cells that are the first ones behind a place
  dirty_twice : (rows : List (Row K I V)) (place i j : ℕ) → IsFirstDirtyFrom rows place i → IsFirstDirtyFrom rows place j → i < j → ⊥
  dirty_twice rows place i j p q lt = false≢true (sym (q.2 i p.1 lt p.0.0 p.0.1) ∙ p.0.2)

  same_dirty : (rows : List (Row K I V)) (place i j : ℕ) → IsFirstDirtyFrom rows place i → IsFirstDirtyFrom rows place j → i ≡ j
  same_dirty rows place i j p q =
      ⊎_elim
      (λ lt. absurd (dirty_twice rows place i j p q lt))
      (λ ge. ⊎_elim (λ lt. absurd (dirty_twice rows place j i q p lt)) (λ le. omega (arith, ge, le)) (cases_lt j i))
      (cases_lt i j)

  pub one_dirty_from_lem : OneDirtyFrom K I V
  one_dirty_from_lem rows place a b p q =
      one_answer (IsFirstDirtyFrom rows place) (AreCleanFrom rows place) (same_dirty rows place) (λ i h clean. false≢true (sym (clean i h.1 h.0.0 h.0.1) ∙ h.0.2)) a b p q

  same_need : (rows : List (Row K I V)) → IsShape (map entry_of rows) → (place n i j : ℕ) → IsNeedAt rows place n i → IsNeedAt rows place n j → i ≡ j
  same_need rows s place n i j p q =
      let row = one_at rows place p.0 q.0 p.1 q.1 in
      let key = same_Some p.2.0.key q.2.0.key (sym p.2.2 ∙ ap (λ (r : Row K I V). slice_get r.needs n) row ∙ q.2.2) in
      (one_by_key rows s i j p.2.0 q.2.0 p.2.1 q.2.1 key).0

  need_apart : (rows : List (Row K I V)) (place n i : ℕ) → IsNeedAt rows place n i → HasNoNeedAt rows place n → ⊥
  need_apart rows place n i p q =
      let row = one_at rows place p.0 q.0 p.1 q.1 in
      some_none p.2.0.key (sym p.2.2 ∙ ap (λ (r : Row K I V). slice_get r.needs n) row ∙ q.2)

  pub one_need_lem : OneNeed K I V
  one_need_lem rows place n a b s p q = one_answer (IsNeedAt rows place n) (HasNoNeedAt rows place n) (same_need rows s place n) (need_apart rows place n) a b p q

  -- the row of a key that is ready is ready at its place
  pub ready_there : (rows : List (Row K I V)) (key : K) (place : ℕ) (r : Row K I V) → IsAt rows key place r → Looks rows key look.Ready → AtPlace rows place (λ q. Looks rows q.key look.Ready)
  ready_there rows key place r at ready = (r, at.0, subst (λ k. Looks rows k look.Ready) (sym at.1) ready)

  -- and what comes of its claim there comes of the key's
  pub claims_there : (s t : State K I V) (key : K) (place : ℕ) (r : Row K I V) → IsAt s.rows key place r → (input : I) (a : Claimed)
      → AtPlace s.rows place (λ q. ClaimsIn s q.key input a t) → ClaimsIn s key input a t
  claims_there s t key place r at input a h = subst (λ k. ClaimsIn s k input a t) (ap (λ (x : Row K I V). x.key) (one_at s.rows place h.0 r h.1 at.0) ∙ at.1) h.2
