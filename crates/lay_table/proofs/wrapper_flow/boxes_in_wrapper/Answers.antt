use Rattle.std.proofs.lemmas.List.Elements.{All-push}
use Rattle.lay_flow.specs.Blocks.FlowBoxes.{KindFits}
use Rattle.lay_table.proofs.wrapper_flow.boxes_in_wrapper.Goals as goal

pub push_captions-requires-2-clause-fit : goal.push_captions-requires-2-clause-fit
push_captions-requires-2-clause-fit c =
    let pushed = (c.in_ok-push-2.ensures {u = tt}).items in
    rw pushed (All-push (λ b. KindFits b.kind) _ c.box_inside.result (c.in_ok-push_captions.ensures {u = tt}).fit c.box_inside.ensures.fits)
