use Rattle.std.proofs.Common.{rules, ◌≡◌, true, false, get_or, ◌+◌, slice_range, ap, ◌∙◌, pos}
use Rattle.std.specs.Int.{int_max}
use Rattle.lay_units.specs.declared.length.Unit.{Unit as Length}
use Rattle.lay_units.specs.Lengths.{no_length}
use Rattle.lay_measure.specs.LineWidths.{ends_line, line_width}
use Rattle.lay_measure.specs.WidestLine.{widest_with}
use Rattle.lay_measure.specs.declared.line_parts.LinePart.{LinePart}
use Rattle.lay_measure.specs.declared.line_parts.LinePart.TheVariants as part
use Rattle.lay_measure.proofs.WidestLines.{goes_on, ends_here}
use Rattle.lay_measure.proofs.inline_widths.Lines.past.Goals as goal

abbrev none : LinePart
none = part.Space (record { 0 = pos 0 })

pub returns-then-not-ends_line-clause-total : goal.returns-then-not-ends_line-clause-total
returns-then-not-ends_line-clause-total c =
    let no : ends_line c.args.how (get_or c.args.parts.now c.args.k none) ≡ false = search rules in
    goes_on c.args.how c.args.tab.0 c.args.parts.now c.args.self c.args.k none c.requires.begun c.requires.inside no

pub returns-clause-total : goal.returns-clause-total
returns-clause-total c =
    let how = c.args.how in
    let parts = c.args.parts.now in
    let k = c.args.k in
    let yes : ends_line how (get_or parts k none) ≡ true = search rules in
    let width : c.in_ok-width.width ≡ record { 0 = line_width how c.args.tab.0 c.args.self.start (slice_range parts c.args.self.from k) } = search rules in
    let greater : c.greater.result ≡ record { 0 = int_max c.args.self.widest.0 c.in_ok-width.width.0 } = search rules in
    let now : c.greater.result ≡ record { 0 = int_max c.args.self.widest.0 (line_width how c.args.tab.0 c.args.self.start (slice_range parts c.args.self.from k)) } =
    greater ∙ ap (λ (w : Length). record { 0 = int_max c.args.self.widest.0 w.0 }) width in
    ap (λ (w : Length). widest_with how c.args.tab.0 parts (record { from = k + 1; start = no_length; widest = w }) (k + 1)) now
    ∙ ends_here how c.args.tab.0 parts c.args.self k none c.requires.inside yes
