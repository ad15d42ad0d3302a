use Rattle.std.proofs.Common.{◌∙◌, ap}
use Rattle.lay_cascade.specs.NodeNames.{fits}
use Rattle.lay_cascade.proofs.Climbing.{fits_read}
use Rattle.lay_cascade.proofs.fitting.fitting_at.Goals as goal

pub returns-then-as_slice-gt-BITS : goal.returns-then-as_slice-gt-BITS
returns-then-as_slice-gt-BITS c = λ j s h e.
    c.by_steps.ensures j s h e ∙ ap (λ z. fits z s.simple) c.names_at-names.ensures ∙ fits_read c.args.names.now c.args.place c.names_at-names.result.now s.simple c.requires.place

pub returns : goal.returns
returns c = λ j s h e.
    c.by_names.ensures j s h e ∙ ap (λ z. fits z s.simple) c.names_at-names.ensures ∙ fits_read c.args.names.now c.args.place c.names_at-names.result.now s.simple c.requires.place
