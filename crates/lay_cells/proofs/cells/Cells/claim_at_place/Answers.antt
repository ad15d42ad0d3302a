use Rattle.std.proofs.Common.{◌≡◌, ◌<◌, ℕ, List, map, slice_get, Some, false, ap, subst, sym, refl, ◌+◌, arith}
use Rattle.std.specs.Arc.{arc_value}
use Rattle.lay_cells.specs.Rows.{Row, State, row_of}
use Rattle.lay_cells.specs.Looks.{Looks}
use Rattle.lay_cells.specs.Kept.{IsKept, IsLowest}
use Rattle.lay_cells.specs.Places.{AtPlace}
use Rattle.lay_cells.specs.Steps.{Claims, ClaimsIn, draws_after}
use Rattle.lay_cells.specs.declared.answers.Look.TheVariants as look
use Rattle.lay_cells.proofs.Lists.{in_bounds}
use Rattle.lay_cells.proofs.Answered.{before_after, claim_fits, claims_in, kept_after}
use Rattle.lay_cells.proofs.Keeps.{draws_more}
use Rattle.lay_cells.proofs.cells.Cells.claim_at_place.Goals as goal

pub claim_at-answer-requires-clause-within : goal.claim_at-answer-requires-clause-within
claim_at-answer-requires-clause-within g c _ _ =
    let ready = subst (λ (s : State _ _ _). AtPlace s.rows c.args.place (λ (r : Row _ _ _). Looks s.rows r.key look.Ready)) (sym c.self.view_is) c.requires.ready in
    in_bounds row_of c.self.inside.cells.items c.args.place ready.0 ready.1

pub claim_at-answer-requires-clause-small : goal.claim_at-answer-requires-clause-small
claim_at-answer-requires-clause-small g c _ _ r at =
    let few = ap (λ (s : State _ _ _). s.draws) c.self.view_is in
    let h = c.self.invariant.sound.each r (c.args.place, at) in
    (omega (arith, h.laid, few, c.requires.draws), omega (arith, h.turns, few, c.requires.draws))

pub next_dirty-self-inside-requires-after_bounds : goal.next_dirty-self-inside-requires-after_bounds
next_dirty-self-inside-requires-after_bounds g c _ _ =
    let cells = c.self.inside.cells.items in
    let ready = subst (λ (s : State _ _ _). AtPlace s.rows c.args.place (λ (r : Row _ _ _). Looks s.rows r.key look.Ready)) (sym c.self.view_is) c.requires.ready in
    let input = arc_value c.args.input in
    let answer = c.claim_at-answer.result in
    let number = c.self.inside.draws + 1 in
    subst (λ (xs : List _). (j : ℕ) → j < c.self.inside.lowest → (r : Row _ _ _) → slice_get (map row_of xs) j ≡ Some r → r.dirty ≡ false) (sym c.as_slice.ensures.value)
    (before_after g.W.Work.relates cells c.claim_at-answer.new.cells.items c.self.inside.lowest (draws_after answer c.self.inside.draws) c.self.invariant.first_dirty c.args.place
    (λ r q. Claims r number input answer q) c.claim_at-answer.ensures
    (claim_fits g.W.Work.relates (map row_of cells) c.self.inside.draws c.self.invariant.sound ready.0.key ready.2 c.args.place ready.0 (ready.1, refl) input answer))

pub invariant_of-self : goal.invariant_of-self
invariant_of-self g c =
    let cells = c.self.inside.cells.items in
    let ready = subst (λ (s : State _ _ _). AtPlace s.rows c.args.place (λ (r : Row _ _ _). Looks s.rows r.key look.Ready)) (sym c.self.view_is) c.requires.ready in
    let low = subst (λ (xs : List _). IsLowest (map row_of xs) c.next_dirty-self-inside.result) c.as_slice.ensures.value c.next_dirty-self-inside.ensures in
    let input = arc_value c.args.input in
    let answer = c.claim_at-answer.result in
    let new = c.claim_at-answer.new.cells.items in
    let number = c.self.inside.draws + 1 in
    subst (IsKept g.W.Work.relates g.W.Key.Ord.cmp new c.self.inside.index c.next_dirty-self-inside.result) (sym c.drawn-self-inside.ensures)
    (kept_after g.W.Work.relates g.W.Key.Ord.cmp cells new c.self.inside.index c.self.inside.lowest c.next_dirty-self-inside.result c.self.inside.draws (draws_after answer c.self.inside.draws)
    c.self.invariant (draws_more answer c.self.inside.draws) c.args.place (λ r q. Claims r number input answer q) c.claim_at-answer.ensures
    (claim_fits g.W.Work.relates (map row_of cells) c.self.inside.draws c.self.invariant.sound ready.0.key ready.2 c.args.place ready.0 (ready.1, refl) input answer) low)

pub returns : goal.returns
returns g c =
    let cells = c.self.inside.cells.items in
    let new = c.claim_at-answer.new.cells.items in
    let before : State _ _ _ = record { rows = map row_of cells; draws = c.self.inside.draws } in
    let after : State _ _ _ = record { rows = map row_of new; draws = c.drawn-self-inside.result } in
    let input = arc_value c.args.input in
    let answer = c.claim_at-answer.result in
    let ready = subst (λ (s : State _ _ _). AtPlace s.rows c.args.place (λ (r : Row _ _ _). Looks s.rows r.key look.Ready)) (sym c.self.view_is) c.requires.ready in
    subst (λ (s : State _ _ _). AtPlace s.rows c.args.place (λ (r : Row _ _ _). ClaimsIn s r.key input answer after)) c.self.view_is (
      ready.0,
      ready.1,
      claims_in before cells new c.self.inside.draws c.drawn-self-inside.result refl ready.0.key c.args.place ready.0 (ready.1, refl) input answer c.drawn-self-inside.ensures c.claim_at-answer.ensures,
    )
