use Rattle.std.proofs.Common.{rules, ◌≡◌, false, sym, ◌∙◌}
use Rattle.std.specs.List.{list_any}
use Rattle.lay_inherit.specs.Within.{is_within}
use Rattle.lay_inherit.proofs.Undeclared.{no_border_widths}
use Rattle.lay_inherit.proofs.style.border_widths.Goals as goal

pub returns-then-not-declares : goal.returns-then-not-declares
returns-then-not-declares c =
    let own = c.args.own.now in
    let none : list_any (is_within 23 26) own.decls.now ≡ false = search rules in
    c.widths_of_styles.ensures ∙ sym (no_border_widths own.font own.decls.now c.args.style.now c.args.parent.now c.args.initial.now none)
