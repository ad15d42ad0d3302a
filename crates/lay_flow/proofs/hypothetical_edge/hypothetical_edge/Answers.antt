use Rattle.std.proofs.Common.{sym, ◌∙◌, ap, ℤ, ◌+ℤ◌}
use Rattle.lay_margins.specs.Collapse.{collapse}
use Rattle.lay_flow.proofs.hypothetical_edge.hypothetical_edge.Goals as goal

pub returns-clause-edge : goal.returns-clause-edge
returns-clause-edge c w is later holds start tops =
    let read = c.strut_ahead.ensures.reads_all w is (record { later = later; strut_holds = holds; tops = tops }) in
    c.run_end.ensures.value read.all read.strut_holds ∙ ap (λ (v : ℤ). v +ℤ collapse read.all) start ∙ sym read.mark
