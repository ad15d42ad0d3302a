use Rattle.std.proofs.lemmas.List.Elements.{All-push}
use Rattle.lay_flow.specs.Blocks.FlowBoxes.{KindFits}
use Rattle.lay_table.proofs.WrapperBoxes.{captions_more}
use Rattle.lay_table.proofs.wrapper_flow.push_captions.Goals as goal

pub loop-n-preserved : goal.loop-n-preserved
loop-n-preserved c =
    let pushed = (c.in_ok-push.ensures {u = tt}).items in
    let inv = c.loop-n.invariant in
    rw pushed (record {
      are = captions_more c.args.input.now c.args.places.now c.loop-n.n c.args.boxes.now.items c.loop-n.boxes.items c.caption_inside.result c.loop-n-test.true inv.are c.caption_inside.ensures.value;
      fit = All-push (λ b. KindFits b.kind) c.loop-n.boxes.items c.caption_inside.result inv.fit c.caption_inside.ensures.fits;
    })
