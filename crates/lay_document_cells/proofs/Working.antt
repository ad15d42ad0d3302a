-- Work on cells, step by step.
use Rattle.std.proofs.Common.{◌≡◌, ℕ, ◌+◌, refl, arith, ap, sym, subst, ◌∙◌, map}
use Rattle.lay_cells.specs.Rows.{entry_of}
use Rattle.lay_cells.specs.declared.answers.Claimed.{Claimed}
use Rattle.lay_cells.specs.declared.answers.Finished.{Finished}
use Rattle.lay_cells.specs.declared.answers.Released.{Released}
use Rattle.lay_document_cells.proofs.Cited.{one_at}
use Rattle.lay_cells.specs.Progress.Grants.{ClaimsCount, FinishesCount, GiveBacksCount, grants, laid_of_all}
use Rattle.lay_cells.specs.Progress.Progress.{ClaimsKeepRows, FinishesKeepRows, GiveBacksKeepRows, GivesNoneBack, KeepingIsTransitive, KeepsRows}
use Rattle.lay_shape.specs.declared.cell_key.CellKey.{CellKey}
use Rattle.lay_cell_work.specs.CellInputs.{CellInput}
use Rattle.lay_cell_work.specs.CellValues.{CellValue}
use Rattle.lay_cell_work.specs.CellLaws.SoundCells.{CellRow, CellState}
use Rattle.lay_document_cells.specs.Laws.{KeepsCells, SettlingGivesNothingBack, SettlingWorks, StoppingWorks, WorkKeepsCells}
use Rattle.lay_document_cells.specs.Settling.{ClaimsFirst, GivesUp, Settles, SettlesFirst, CellsStopAt, computed, granted, next, none as no_cell, reused, taken, unclaimed}
use Rattle.lay_document_cells.specs.State.{State}
use Rattle.lay_document_cells.specs.Steps.{ClaimsTo, CellsFinishTo, CellsGiveBackTo, Step, Works, claim, finish, give_back, none, step}
use Rattle.lay_cell_work.specs.ClaimLists.Outcomes.{Work}

nothing_changes : (s : CellState) → KeepsRows s s
nothing_changes s = record {
  entries = refl;
  made = refl;
  clean = λ i r q at_r at_q was. ap (λ (z : CellRow). z.dirty) (one_at s.rows i q r at_q at_r) ∙ was;
  draws = omega arith;
}

module _ (claims : ClaimsKeepRows CellKey CellInput CellValue) (finishes : FinishesKeepRows CellKey CellInput CellValue)
    (backs : GiveBacksKeepRows CellKey CellInput CellValue) (both : KeepingIsTransitive CellKey CellInput CellValue)
    (claims_count : ClaimsCount CellKey CellInput CellValue) (finishes_count : FinishesCount CellKey CellInput CellValue)
    (backs_count : GiveBacksCount CellKey CellInput CellValue) where
  claimed : (s t : State) (key : CellKey) (input : CellInput) (a : Claimed) → ClaimsTo s key input a t → KeepsCells s t
  claimed s t key input a c =
      let count = claims_count s.cells c.cells key input a c.claims in
      subst (KeepsCells s) (sym c.state) record {
        document = refl;
        face = refl;
        cells = (claims s.cells c.cells key input a c.claims).0;
        laid = omega arith;
        granted = omega (arith, count);
      }

  finished : (s t : State) (d : Work) (a : Finished) → CellsFinishTo s d a t → KeepsCells s t
  finished s t d a f =
      let count = finishes_count s.cells f.cells d a f.finishes in
      subst (KeepsCells s) (sym f.state) record {
        document = refl;
        face = refl;
        cells = (finishes s.cells f.cells d a f.finishes).0;
        laid = omega arith;
        granted = omega (arith, count);
      }

  given_back : (s t : State) (key : CellKey) (number : ℕ) (a : Released) → CellsGiveBackTo s key number a t → KeepsCells s t
  given_back s t key number a g =
      let count = backs_count s.cells g.cells key number a g.gives_back in
      subst (KeepsCells s) (sym g.state) record {
        document = refl;
        face = refl;
        cells = (backs s.cells g.cells key number a g.gives_back).0;
        laid = omega arith;
        granted = omega (arith, count);
      }

  stepped : (s t : State) → Step s t → KeepsCells s t
  stepped s t (claim key input a _ c) = claimed s t key input a c
  stepped s t (finish d a _ f) = finished s t d a f
  stepped s t (give_back key number a _ g) = given_back s t key number a g

  after_both : (s t u : State) → KeepsCells s t → KeepsCells t u → KeepsCells s u
  after_both s t u a b = record {
    document = b.document ∙ a.document;
    face = b.face ∙ a.face;
    cells = both s.cells t.cells u.cells a.cells b.cells;
    laid = omega (arith, a.laid, b.laid);
    granted = omega (arith, a.granted, b.granted);
  }

  pub work_keeps_cells_lem : WorkKeepsCells
  work_keeps_cells_lem s _ none = record { document = refl; face = refl; cells = nothing_changes s.cells; laid = omega arith; granted = refl }
  work_keeps_cells_lem s t (step mid _ before last) = after_both s mid t (work_keeps_cells_lem s mid before) (stepped mid t last)

module _ (claims : ClaimsKeepRows CellKey CellInput CellValue) (finishes : FinishesKeepRows CellKey CellInput CellValue) where
  claimed_backs : (s t : State) (key : CellKey) (input : CellInput) (a : Claimed) → ClaimsTo s key input a t → GivesNoneBack s.cells t.cells
  claimed_backs s t key input a c =
      ap (λ (x : State). map (λ (r : CellRow). r.backs) x.cells.rows) c.state ∙ (claims s.cells c.cells key input a c.claims).2

  first_backs : (s t : State) → SettlesFirst s t → GivesNoneBack s.cells t.cells
  first_backs s t (reused key input _ c) = claimed_backs s t key input _ c.claims
  first_backs s t (computed key input value answer number mid _ c is f) =
      ap (λ (x : State). map (λ (r : CellRow). r.backs) x.cells.rows) f.state
      ∙ (finishes mid.cells f.cells _ _ f.finishes).2
      ∙ claimed_backs s mid key input answer c.claims

  pub settling_gives_nothing_back_lem : SettlingGivesNothingBack
  settling_gives_nothing_back_lem s _ no_cell = refl
  settling_gives_nothing_back_lem s t (next mid _ before last) = first_backs mid t last ∙ settling_gives_nothing_back_lem s mid before

one_more : (s mid t : State) → Works s mid → SettlesFirst mid t → Works s t
one_more s mid t before (reused key input _ c) = step mid t before (claim key input _ t c.claims)
one_more s mid t before (computed key input value answer number claimed _ c is f) =
    step claimed t (step mid claimed before (claim key input answer claimed c.claims)) (finish _ _ t f)

pub settling_works_lem : SettlingWorks
settling_works_lem s _ no_cell = none
settling_works_lem s t (next mid _ before last) = one_more s mid t (settling_works_lem s mid before) last

stops : (s mid t : State) → Works s mid → GivesUp mid t → Works s t
stops s mid _ before unclaimed = before
stops s mid t before (taken key input number _ c) = step mid t before (claim key input _ t c.claims)
stops s mid t before (granted key input number claimed _ c g) =
    step claimed t (step mid claimed before (claim key input _ claimed c.claims)) (give_back key number _ t g)

pub stopping_works_lem : StoppingWorks
stopping_works_lem s t h = stops s h.before t (settling_works_lem s h.before h.settles) h.gives_up
