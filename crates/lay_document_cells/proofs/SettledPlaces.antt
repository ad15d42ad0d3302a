-- The first dirty cell becomes clean, or memory runs out.
use Rattle.std.proofs.Common.{◌≡◌, ◌⊎◌, inl, inr, ⊎_elim, ℕ, ◌+◌, ◌≤◌, ◌<◌, ◌^◌, [], ◌∷◌, suc, List, map, length, slice_get, slice_set, Some, false, refl, rules, arith, ap, sym, subst, ◌∙◌}
use Rattle.std.proofs.lemmas.Bool.{cases_lt, false≢true}
use Rattle.std.proofs.lemmas.Option.{slice_get_within}
use Rattle.lay_cells.specs.Looks.{IsDirty, Looks}
use Rattle.lay_cells.specs.Places.{AreCleanFrom, AtPlace, IsFirstDirtyFrom}
use Rattle.lay_cells.specs.Reads.{AllClean, IsFirstDirtyKey}
use Rattle.lay_cells.specs.Rows.{entry_of}
use Rattle.lay_cells.specs.Shapes.{IsIn, IsShape}
use Rattle.lay_cells.specs.Sound.{IsSound}
use Rattle.lay_cells.specs.Steps.{Claims, FinishesIn, GivesBackIn}
use Rattle.lay_cells.specs.declared.answers.Claimed.{Claimed}
use Rattle.lay_cells.specs.declared.answers.Claimed.TheVariants.{Granted, Reused, Taken}
use Rattle.lay_cells.specs.declared.answers.Look.{Look}
use Rattle.lay_cells.specs.declared.answers.Look.TheVariants as look
use Rattle.lay_document_cells.proofs.Cited.{map_at, one_at, one_row, set_cases}
use Rattle.lay_cells.specs.Progress.Progress.{ClaimsKeepRows, FinishesKeepRows, GiveBacksKeepRows}
use Rattle.lay_cells.specs.Progress.Settled.{CleansAt, FinishedCellsAreClean, GrantedClaimsAreReleased, ReusedCellsAreClean, claim_number}
use Rattle.lay_shape.specs.declared.cell_key.CellKey.{CellKey}
use Rattle.lay_cell_work.specs.CellInputs.{CellInput}
use Rattle.lay_cell_work.specs.CellLocal.{IsCellLocal}
use Rattle.lay_cell_work.specs.CellValues.{CellValue}
use Rattle.lay_cell_work.specs.CellLaws.SoundCells.{CellRow, CellState}
use Rattle.lay_document_cells.specs.Settling.{AreCleanBefore, FinishesWork, GivesBackWork, GivesUpAt, IsClaimedFor, Settles, SettlesAt, SettlesFirst, CellsSettleTo, CellsStopAt, computed, granted, next, none, reused, taken, unclaimed}
use Rattle.lay_document_cells.specs.State.{State}
use Rattle.lay_document_cells.specs.Steps.{ClaimsTo, CellsFinishTo, CellsGiveBackTo}
use Rattle.lay_cell_work.specs.ClaimLists.Outcomes.{Work}

pub all_before : (rows : List CellRow) (n : ℕ) → n ≡ length rows → AreCleanBefore rows n → AllClean rows
all_before rows n is clean r there = clean there.0 r (let lt = slice_get_within rows there.0 r there.1 in omega (arith, lt, is)) there.1

-- a clean cell is left as it is
pub clean_already : (s : State) (place : ℕ) (r : CellRow) → slice_get s.cells.rows place ≡ Some r → AreCleanBefore s.cells.rows place → r.dirty ≡ false
    → SettlesAt s place s
clean_already s place r at before clean = record { settles = inl refl; clean = next_clean; count = refl; draws = omega arith }
  where
    next_clean : AreCleanBefore s.cells.rows (place + 1)
    next_clean j q lt at_q =
        ⊎_elim
        (λ low. before j q low at_q)
        (λ high. (let e : j ≡ place = omega (arith, lt, high) in
        ap (λ (z : CellRow). z.dirty) (one_at s.cells.rows place q r (ap (slice_get s.cells.rows) (sym e) ∙ at_q) at) ∙ clean))
        (cases_lt j place)

-- a cell behind clean ones is clean or ready
pub seen : (s : CellState) → IsSound IsCellLocal s → (place : ℕ) (r : CellRow) → slice_get s.rows place ≡ Some r → AreCleanBefore s.rows place
    → (l : Look CellKey) → Looks s.rows r.key l → (l ≡ look.Ready) ⊎ (r.dirty ≡ false)
seen s sound place r at before look.Gone h = absurd (h r (place, at) refl)
seen s sound place r at before look.Clean h =
    inr (ap (λ (z : CellRow). z.dirty) (one_row s.rows sound.shaped r.key r h.0 (place, at) refl h.1 h.2) ∙ h.3)
seen s sound place r at before look.Ready h = inl refl
seen s sound place r at before (look.Waiting k) h = absurd (false≢true (sym clean ∙ dirty.3))
  where
    same : r ≡ h.0
    same = one_row s.rows sound.shaped r.key r h.0 (place, at) refl h.1 h.2

    needed : IsIn r.needs k
    needed = (h.4.0, ap (λ (z : CellRow). slice_get z.needs h.4.0) same ∙ h.4.1)

    dirty : IsDirty s.rows k
    dirty = h.4.2

    clean : dirty.0.dirty ≡ false
    clean =
        let b = sound.shaped.earlier place (entry_of r) (map_at entry_of s.rows place r at) k needed in
        let e = sound.shaped.apart dirty.1.0 b.0 (entry_of dirty.0) b.1 (map_at entry_of s.rows dirty.1.0 dirty.0 dirty.1.1) b.3 (dirty.2 ∙ sym b.4) in
        before dirty.1.0 dirty.0 (let lt = b.2 in omega (arith, lt, e)) dirty.1.1

module _ (s : State) (sound : IsSound IsCellLocal s.cells) (place : ℕ) (r : CellRow) (at : slice_get s.cells.rows place ≡ Some r)
    (before : AreCleanBefore s.cells.rows place) where
  -- the cell that is ready is the first dirty one
  is_first : Looks s.cells.rows r.key look.Ready → IsFirstDirtyKey s.cells.rows r.key
  is_first h =
      let same : r ≡ h.0 = one_row s.cells.rows sound.shaped r.key r h.0 (place, at) refl h.1 h.2 in
      (place, r, (at, refl), ap (λ (z : CellRow). z.dirty) same ∙ h.3, λ j lt q at_q. before j q lt at_q)

  clean_next : (t : State) (new : List CellRow) → CleansAt s.cells.rows place new → t.cells.rows ≡ new → AreCleanBefore t.cells.rows (place + 1)
  clean_next t new h is j q lt at_q =
      let there : slice_get new j ≡ Some q = ap (λ xs. slice_get xs j) (sym is) ∙ at_q in
      ⊎_elim
      (λ low. before j q low (sym (h.others j (λ e. omega (arith, e, low))) ∙ there))
      (λ high. (let e : j ≡ place = omega (arith, lt, high) in h.clean q (ap (slice_get new) (sym e) ∙ there)))
      (cases_lt j place)

  -- the claim that is open after this one was claimed has this input
  given_after : (input : CellInput) (a : Claimed) (number drawn : ℕ) (q : CellRow) → claim_number a ≡ Some number → Claims r drawn input a q
      → q.given ≡ Some input
  given_after input (Granted n) number drawn q is h = ap (λ (z : CellRow). z.given) h.4
  given_after input Reused number drawn q is h = grind (rules, is)
  given_after input (Taken n) number drawn q is h = ap (λ (z : CellRow). z.given) h.2 ∙ h.0.1

  pub claimed_for : (t : State) (input : CellInput) (a : Claimed) (number : ℕ) → ClaimsTo s r.key input a t → claim_number a ≡ Some number
      → IsClaimedFor t r.key number input
  claimed_for t input a number c is j other there opened =
      ⊎_elim
      (λ here. ap (λ (z : CellRow). z.given) here.1
      ∙ given_after input a number (s.cells.draws + 1) c.claims.2 is (subst (λ z. Claims z (s.cells.draws + 1) input a c.claims.2) same c.claims.4))
      (λ apart. absurd (apart.0 (sound.shaped.apart j c.claims.0 (entry_of other) (entry_of c.claims.1) (map_at entry_of s.cells.rows j other apart.1)
      (map_at entry_of s.cells.rows c.claims.0 c.claims.1 c.claims.3.0) (there.1 ∙ sym c.claims.3.1))))
      (set_cases s.cells.rows c.claims.0 c.claims.2 j other (ap (λ xs. slice_get xs j) written ∙ there.0))
    where
      written : slice_set s.cells.rows c.claims.0 c.claims.2 ≡ t.cells.rows
      written = sym (ap (λ (x : State). x.cells.rows) c.state ∙ ap (λ (x : CellState). x.rows) c.claims.5)

      same : c.claims.1 ≡ r
      same = one_row s.cells.rows sound.shaped r.key c.claims.1 r (c.claims.0, c.claims.3.0) c.claims.3.1 (place, at) refl

  module _ (claims : ClaimsKeepRows CellKey CellInput CellValue) where
    claimed_draws : (t : State) (input : CellInput) (a : Claimed) → ClaimsTo s r.key input a t → t.cells.draws ≤ s.cells.draws + 1
    claimed_draws t input a c =
        let few = (claims s.cells c.cells r.key input a c.claims).1 in
        let e : t.cells.draws ≡ c.cells.draws = ap (λ (x : State). x.cells.draws) c.state in
        omega (arith, few, e)

    pub reused_at : ReusedCellsAreClean CellKey CellInput CellValue → (t : State) (input : CellInput) → ClaimsTo s r.key input Reused t → SettlesAt s place t
    reused_at law t input c =
        let h = law s.cells c.cells place r input sound.shaped at c.claims in
        let e : t.cells.rows ≡ c.cells.rows = ap (λ (x : State). x.cells.rows) c.state in
        record {
          settles = inr (reused r.key input t record { first = is_first c.ready; claims = c });
          clean = clean_next t c.cells.rows h e;
          count = ap length e ∙ h.same;
          draws = claimed_draws t input Reused c;
        }

    pub computed_at : FinishedCellsAreClean CellKey CellInput CellValue IsCellLocal → FinishesKeepRows CellKey CellInput CellValue
        → (mid t : State) (input : CellInput) (a : Claimed) (number : ℕ) → ClaimsTo s r.key input a mid → claim_number a ≡ Some number
        → FinishesWork mid r.key number input t → SettlesAt s place t
    computed_at law finishes mid t input a number c is f =
        let done : Work = record { key = r.key; number = number; input = input; value = f.value } in
        let cells : mid.cells ≡ c.cells = ap (λ (x : State). x.cells) c.state in
        let h = law s.cells c.cells f.finishes.cells place r input f.value number a f.answer sound at c.claims is
        (subst (λ (x : CellState). FinishesIn x done f.answer f.finishes.cells) cells f.finishes.finishes) in
        let e : t.cells.rows ≡ f.finishes.cells.rows = ap (λ (x : State). x.cells.rows) f.finishes.state in
        let d : t.cells.draws ≡ f.finishes.cells.draws = ap (λ (x : State). x.cells.draws) f.finishes.state in
        let same = (finishes mid.cells f.finishes.cells done f.answer f.finishes.finishes).1 in
        let few = claimed_draws mid input a c in
        record {
          settles = inr (computed r.key input f.value a number mid t record { first = is_first c.ready; claims = c } is
              (subst (λ x. CellsFinishTo mid done x t) h.0 f.finishes));
          clean = clean_next t f.finishes.cells.rows h.1 e;
          count = ap length e ∙ h.1.same;
          draws = omega (arith, d, same, few);
        }

    pub taken_up : (t : State) (input : CellInput) (number : ℕ) → ClaimsTo s r.key input (Taken number) t → GivesUpAt s t
    taken_up t input number c = record {
      gives_up = taken r.key input number t record { first = is_first c.ready; claims = c };
      draws = claimed_draws t input (Taken number) c;
    }

    pub granted_up : GrantedClaimsAreReleased CellKey CellInput CellValue IsCellLocal → GiveBacksKeepRows CellKey CellInput CellValue
        → (mid t : State) (input : CellInput) (number : ℕ) → ClaimsTo s r.key input (Granted number) mid → GivesBackWork mid r.key number t → GivesUpAt s t
    granted_up law backs mid t input number c g =
        let cells : mid.cells ≡ c.cells = ap (λ (x : State). x.cells) c.state in
        let is = law s.cells c.cells g.gives_back.cells r.key input number g.answer sound c.claims
        (subst (λ (x : CellState). GivesBackIn x r.key number g.answer g.gives_back.cells) cells g.gives_back.gives_back) in
        let d : t.cells.draws ≡ g.gives_back.cells.draws = ap (λ (x : State). x.cells.draws) g.gives_back.state in
        let same = (backs mid.cells g.gives_back.cells r.key number g.answer g.gives_back.gives_back).1 in
        let few = claimed_draws mid input (Granted number) c in
        record {
          gives_up = granted r.key input number mid t record { first = is_first c.ready; claims = c } (subst (λ x. CellsGiveBackTo mid r.key number x t) is g.gives_back);
          draws = omega (arith, d, same, few);
        }

pub nothing_claimed : (s : State) → GivesUpAt s s
nothing_claimed s = record { gives_up = unclaimed; draws = omega arith }

-- one more cell is settled
pub settled_more : (s mid t : State) (place : ℕ) → Settles s mid → SettlesAt mid place t → Settles s t
settled_more s mid t place before h = ⊎_elim (λ (e : t ≡ mid). subst (Settles s) (sym e) before) (λ first. next mid t before first) h.settles

-- a cell behind clean ones that isn't ready is clean
pub not_ready : (s : State) → IsSound IsCellLocal s.cells → (place : ℕ) → AreCleanBefore s.cells.rows place → (l : Look CellKey) → (l ≡ look.Ready → ⊥)
    → AtPlace s.cells.rows place (λ r. Looks s.cells.rows r.key l) → SettlesAt s place s
not_ready s sound place before l other h =
    ⊎_elim (λ ready. absurd (other ready)) (λ clean. clean_already s place h.0 h.1 before clean) (seen s.cells sound place h.0 h.1 before l h.2)

pub settled_already : (s : State) → AreCleanFrom s.cells.rows 0 → CellsSettleTo s s
settled_already s clean = record { settles = none; clean = λ r there. clean there.0 (omega arith) r there.1 }

-- all cells are settled
pub settled_all : (s t : State) (n : ℕ) → Settles s t → AreCleanBefore t.cells.rows n → length t.cells.rows ≤ n → CellsSettleTo s t
settled_all s t n settles clean le = record {
  settles = settles;
  clean = λ r there. clean there.0 r (let lt = slice_get_within t.cells.rows there.0 r there.1 in omega (arith, lt, le)) there.1;
}

-- memory ran out at a cell
pub stopped_at : (s mid t : State) → Settles s mid → GivesUpAt mid t → CellsStopAt s t
stopped_at s mid t settles h = record { before = mid; settles = settles; gives_up = h.gives_up }

pub clean_to_first : (rows : List CellRow) (first : ℕ) → IsFirstDirtyFrom rows 0 first → AreCleanBefore rows first
clean_to_first rows first h j r lt at = h.2 j (omega arith) lt r at

pub first_within : (rows : List CellRow) (first : ℕ) → IsFirstDirtyFrom rows 0 first → first < length rows
first_within rows first h = slice_get_within rows first h.0.0 h.0.1

pub length_mapped : (rows : List CellRow) → length (map entry_of rows) ≡ length rows
length_mapped [] = refl
length_mapped (r ∷ rows) = ap suc (length_mapped rows)

pub few_rows : (rows : List CellRow) → IsShape (map entry_of rows) → length rows ≤ 2 ^ 18
few_rows rows shape = let few = shape.few in let same = length_mapped rows in omega (arith, few, same)
