use Rattle.std.proofs.Common.{◌≡◌, ◌<◌, ℕ, List, map, slice_get, Some, false, subst, sym, refl, inl, arith, ap, ◌∙◌}
use Rattle.lay_cells.specs.Rows.{Row, State, Solved, row_of}
use Rattle.lay_cells.specs.Looks.{IsAt, IsGone}
use Rattle.lay_cells.specs.Kept.{IsLowest}
use Rattle.lay_cells.specs.Steps.{Finishes}
use Rattle.lay_cells.proofs.Lists.{one_at}
use Rattle.lay_cells.proofs.Answered.{before_after, finish_fits, finishes_in, kept_after}
use Rattle.lay_cells.proofs.cells.Cells.finish_known.Goals as goal

pub returns-in_default : goal.returns-in_default
returns-in_default g c =
    let gone =
    subst (λ (s : State _ _ _). IsGone s.rows c.args.done.key) c.self.view_is
    (subst (λ k. IsGone (map row_of c.self.inside.cells.items) k) c.key.ensures
    (subst (λ (cells : List _). IsGone (map row_of cells) c.key.result) c.as_slice.ensures.value c.in_default.ensures.gone)) in
    inl (gone, refl, refl)

pub next_dirty-self-inside-requires-after_bounds : goal.next_dirty-self-inside-requires-after_bounds
next_dirty-self-inside-requires-after_bounds g c _ _ =
    let cells = c.self.inside.cells.items in
    let found =
    subst (λ k. (r : Row _ _ _) × IsAt (map row_of cells) k c.in-Some.place r) c.key.ensures
    (subst (λ (xs : List _). (r : Row _ _ _) × IsAt (map row_of xs) c.key.result c.in-Some.place r) c.as_slice.ensures.value c.in-Some.ensures.found) in
    let meets = subst (λ (p : Solved _ _ _). g.W.Work.relates p.input p.value) c.done.view_is c.done.invariant in
    let answer = c.finish_known_at-answer.result in
    subst (λ (xs : List _). (j : ℕ) → j < c.self.inside.lowest → (r : Row _ _ _) → slice_get (map row_of xs) j ≡ Some r → r.dirty ≡ false) (sym c.as_slice-2.ensures.value)
    (before_after g.W.Work.relates cells c.finish_known_at-answer.new.cells.items c.self.inside.lowest c.self.inside.draws c.self.invariant.first_dirty c.in-Some.place
    (λ r q. Finishes r c.args.done answer q) c.finish_known_at-answer.ensures
    (finish_fits g.W.Work.relates (map row_of cells) c.self.inside.draws c.self.invariant.sound c.args.done meets c.in-Some.place found.0 found.1 answer))

pub invariant_of-self : goal.invariant_of-self
invariant_of-self g c =
    let cells = c.self.inside.cells.items in
    let found =
    subst (λ k. (r : Row _ _ _) × IsAt (map row_of cells) k c.in-Some.place r) c.key.ensures
    (subst (λ (xs : List _). (r : Row _ _ _) × IsAt (map row_of xs) c.key.result c.in-Some.place r) c.as_slice.ensures.value c.in-Some.ensures.found) in
    let meets = subst (λ (p : Solved _ _ _). g.W.Work.relates p.input p.value) c.done.view_is c.done.invariant in
    let low = subst (λ (xs : List _). IsLowest (map row_of xs) c.next_dirty-self-inside.result) c.as_slice-2.ensures.value c.next_dirty-self-inside.ensures in
    let answer = c.finish_known_at-answer.result in
    kept_after g.W.Work.relates g.W.Key.Ord.cmp cells c.finish_known_at-answer.new.cells.items c.self.inside.index c.self.inside.lowest c.next_dirty-self-inside.result c.self.inside.draws c.self.inside.draws
    c.self.invariant (omega arith) c.in-Some.place (λ r q. Finishes r c.args.done answer q) c.finish_known_at-answer.ensures
    (finish_fits g.W.Work.relates (map row_of cells) c.self.inside.draws c.self.invariant.sound c.args.done meets c.in-Some.place found.0 found.1 answer) low

pub returns : goal.returns
returns g c =
    let cells = c.self.inside.cells.items in
    let found =
    subst (λ k. (r : Row _ _ _) × IsAt (map row_of cells) k c.in-Some.place r) c.key.ensures
    (subst (λ (xs : List _). (r : Row _ _ _) × IsAt (map row_of xs) c.key.result c.in-Some.place r) c.as_slice.ensures.value c.in-Some.ensures.found) in
    finishes_in c.args.self.now cells c.finish_known_at-answer.new.cells.items c.self.inside.draws c.self.view_is c.args.done c.in-Some.place found.0 found.1 c.finish_known_at-answer.result c.finish_known_at-answer.ensures

pub finish_known_at-answer-requires-clause-known : goal.finish_known_at-answer-requires-clause-known
finish_known_at-answer-requires-clause-known g c _ _ r at =
    let cells = c.self.inside.cells.items in
    let found =
    subst (λ k. (r : Row _ _ _) × IsAt (map row_of cells) k c.in-Some.place r) c.key.ensures
    (subst (λ (xs : List _). (r : Row _ _ _) × IsAt (map row_of xs) c.key.result c.in-Some.place r) c.as_slice.ensures.value c.in-Some.ensures.found) in
    let same = one_at (map row_of cells) c.in-Some.place found.0 r found.1.0 at in
    c.requires.known c.in-Some.place r
    (subst (λ (s : State _ _ _). IsAt s.rows c.args.done.key c.in-Some.place r) c.self.view_is (at, ap (λ (z : Row _ _ _). z.key) (sym same) ∙ found.1.1))
