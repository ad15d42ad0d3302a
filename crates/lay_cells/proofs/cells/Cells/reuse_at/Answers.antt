use Rattle.std.proofs.Common.{◌≡◌, ◌<◌, ℕ, List, map, slice_get, Some, false, ap, subst, sym, refl, ◌+◌, arith}
use Rattle.lay_cells.specs.Rows.{Row, State, row_of}
use Rattle.lay_cells.specs.Looks.{Looks}
use Rattle.lay_cells.specs.Kept.{IsLowest}
use Rattle.lay_cells.specs.Places.{AtPlace}
use Rattle.lay_cells.specs.Reuses.{CanReuse, ReusesIn}
use Rattle.lay_cells.specs.Steps.{Claims}
use Rattle.lay_cells.specs.declared.answers.Claimed.TheVariants.{Reused}
use Rattle.lay_cells.specs.declared.answers.Look.TheVariants as look
use Rattle.lay_cells.proofs.Answered.{before_after, claim_fits, kept_after}
use Rattle.lay_cells.proofs.ReusedRows.{reuses_as, reuses_in}
use Rattle.lay_cells.proofs.cells.Cells.reuse_at.Goals as goal

pub reuse_in-requires-clause-can : goal.reuse_in-requires-clause-can
reuse_in-requires-clause-can g c _ _ = subst (λ (s : State _ _ _). AtPlace s.rows c.args.place CanReuse) (sym c.self.view_is) c.requires.can

pub reuse_in-requires-clause-turns : goal.reuse_in-requires-clause-turns
reuse_in-requires-clause-turns g c _ _ r at =
    let few = ap (λ (s : State _ _ _). s.draws) c.self.view_is in
    let h = c.self.invariant.sound.each r (c.args.place, at) in
    omega (arith, h.turns, few, c.requires.draws)

pub next_dirty-self-inside-requires-after_bounds : goal.next_dirty-self-inside-requires-after_bounds
next_dirty-self-inside-requires-after_bounds g c _ _ =
    let cells = c.self.inside.cells.items in
    let new = c.reuse_in.new.cells.items in
    let ready = subst (λ (s : State _ _ _). AtPlace s.rows c.args.place (λ (r : Row _ _ _). Looks s.rows r.key look.Ready)) (sym c.self.view_is) c.requires.ready in
    let number = c.self.inside.draws + 1 in
    let input = c.reuse_in.ensures.3.input in
    subst (λ (xs : List _). (j : ℕ) → j < c.self.inside.lowest → (r : Row _ _ _) → slice_get (map row_of xs) j ≡ Some r → r.dirty ≡ false) (sym c.as_slice.ensures.value)
    (before_after g.W.Work.relates cells new c.self.inside.lowest number c.self.invariant.first_dirty c.args.place
    (λ r q. Claims r number input Reused q) (reuses_as cells new c.args.place number c.reuse_in.ensures)
    (claim_fits g.W.Work.relates (map row_of cells) c.self.inside.draws c.self.invariant.sound ready.0.key ready.2 c.args.place ready.0 (ready.1, refl) input Reused))

pub invariant_of-self : goal.invariant_of-self
invariant_of-self g c =
    let cells = c.self.inside.cells.items in
    let new = c.reuse_in.new.cells.items in
    let ready = subst (λ (s : State _ _ _). AtPlace s.rows c.args.place (λ (r : Row _ _ _). Looks s.rows r.key look.Ready)) (sym c.self.view_is) c.requires.ready in
    let low = subst (λ (xs : List _). IsLowest (map row_of xs) c.next_dirty-self-inside.result) c.as_slice.ensures.value c.next_dirty-self-inside.ensures in
    let number = c.self.inside.draws + 1 in
    let input = c.reuse_in.ensures.3.input in
    kept_after g.W.Work.relates g.W.Key.Ord.cmp cells new c.self.inside.index c.self.inside.lowest c.next_dirty-self-inside.result c.self.inside.draws number
    c.self.invariant (omega arith) c.args.place (λ r q. Claims r number input Reused q) (reuses_as cells new c.args.place number c.reuse_in.ensures)
    (claim_fits g.W.Work.relates (map row_of cells) c.self.inside.draws c.self.invariant.sound ready.0.key ready.2 c.args.place ready.0 (ready.1, refl) input Reused) low

pub returns : goal.returns
returns g c =
    let cells = c.self.inside.cells.items in
    let new = c.reuse_in.new.cells.items in
    let number = c.self.inside.draws + 1 in
    let before : State _ _ _ = record { rows = map row_of cells; draws = c.self.inside.draws } in
    let after : State _ _ _ = record { rows = map row_of new; draws = number } in
    let ready = subst (λ (s : State _ _ _). AtPlace s.rows c.args.place (λ (r : Row _ _ _). Looks s.rows r.key look.Ready)) (sym c.self.view_is) c.requires.ready in
    subst (λ (s : State _ _ _). AtPlace s.rows c.args.place (λ (r : Row _ _ _). ReusesIn s r.key after)) c.self.view_is
    (ready.0, ready.1, reuses_in before cells new c.self.inside.draws number refl ready.0.key c.args.place ready.0 (ready.1, refl) refl c.reuse_in.ensures)
