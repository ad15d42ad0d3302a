use Rattle.std.proofs.Common.{◌∙◌, ◌++◌, [], ap, append-nil, sym}
use Rattle.lay_space.specs.Breaks.{flushed}
use Rattle.lay_space.specs.Segments.{cut}
use Rattle.lay_space.proofs.settling.Settler.end.Goals as goal

pub returns : goal.returns
returns c =
    c.new.ensures ∙ c.in_ok-end.ensures ∙ sym (c.in_ok-flush.ensures.put [])
    ∙ ap (λ es. c.args.self.cutter.done.items ++ cut c.args.items.now c.args.self.cutter.current.items c.args.self.cutter.held.items es)
    (append-nil (flushed c.args.self.at c.args.self.waiting.items))
