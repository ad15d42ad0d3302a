-- A container has one list of lines, as callers see it.
use Rattle.std.proofs.Common.{◌≡◌, ◌∙◌, map, sym, ap}
use Rattle.lay_lines.specs.Lines.{LinesValue, first_position}
use Rattle.lay_lines.specs.Rows.{Laid, ended_of}
use Rattle.lay_lines.specs.Laws.{OneListOfRows, OneLines}

same_values : (a b : LinesValue) → a.rows ≡ b.rows → a.places ≡ b.places → a.end.0 ≡ b.end.0 → a.floats ≡ b.floats → a ≡ b
same_values a b r p e f = λ i. record { rows = r i; places = p i; end = record { 0 = e i }; floats = f i }

pub one_lines_lem : OneListOfRows → OneLines
one_lines_lem one c left right top floats a b p q =
    let e = one (first_position c left right top floats) p.laid q.laid p.are q.are in
    same_values a b (sym p.rows ∙ ap (λ (l : Laid). map ended_of l.rows) e ∙ q.rows) (sym p.places ∙ ap (λ (l : Laid). l.position.state.places) e ∙ q.places)
    (sym p.end ∙ ap (λ (l : Laid). l.position.from) e ∙ q.end) (sym p.floats ∙ ap (λ (l : Laid). l.position.state.floats) e ∙ q.floats)
