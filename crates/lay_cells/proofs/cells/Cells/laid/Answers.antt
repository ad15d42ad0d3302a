use Rattle.std.proofs.Common.{map, subst, List, IfSome, IfNone, arith}
use Rattle.std.proofs.lemmas.Option.{IfSome_then}
use Rattle.lay_cells.specs.Rows.{State, row_of}
use Rattle.lay_cells.specs.Reads.{IsLaid, IsPaid}
use Rattle.lay_cells.specs.Looks.{IsGone}
use Rattle.lay_cells.proofs.cells.Cells.laid.Goals as goal

pub returns-clause-some : goal.returns-clause-some
returns-clause-some g c =
    subst (λ (s : State _ _ _). IfSome c.laid_in.result (IsLaid s.rows c.args.key)) c.self.view_is
    (subst (λ (cells : List _). IfSome c.laid_in.result (IsLaid (map row_of cells) c.args.key)) c.as_slice.ensures.value c.laid_in.ensures.some)

pub returns-clause-paid : goal.returns-clause-paid
returns-clause-paid g c =
    subst (λ (s : State _ _ _). IfSome c.laid_in.result (IsPaid s.rows c.args.key)) c.self.view_is
    (IfSome_then c.laid_in.result (subst (λ (cells : List _). IfSome c.laid_in.result (IsLaid (map row_of cells) c.args.key)) c.as_slice.ensures.value c.laid_in.ensures.some)
    (λ n h. let most = (c.self.invariant.sound.each h.1 (h.0, h.2.0)).counted.most in (h.0, h.1, h.2, omega (arith, most, h.3))))

pub returns-clause-none : goal.returns-clause-none
returns-clause-none g c =
    subst (λ (s : State _ _ _). IfNone c.laid_in.result (IsGone s.rows c.args.key)) c.self.view_is
    (subst (λ (cells : List _). IfNone c.laid_in.result (IsGone (map row_of cells) c.args.key)) c.as_slice.ensures.value c.laid_in.ensures.none)
