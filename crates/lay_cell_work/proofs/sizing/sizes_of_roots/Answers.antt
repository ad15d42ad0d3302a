use Rattle.std.proofs.Common.{◌∙◌, ◌<◌, ◌∷◌, [], List, ap, length, length-append, slice_index_or, subst, sym, arith}
use Rattle.std.proofs.lemmas.Option.{slice_get_within}
use Rattle.lay_context.specs.Local.{IsLocal}
use Rattle.lay_context.specs.declared.value.Value.TheVariants as value
use Rattle.lay_cell_work.specs.CellInputs.{RootInput}
use Rattle.lay_cell_work.specs.CellLocal.{whole_input}
use Rattle.lay_cell_work.specs.CellValues.{Sizes}
use Rattle.lay_cell_work.proofs.RootSteps.{IsRightAt, one_more_sizes, root_is, root_there, spot_sized}
use Rattle.lay_cell_work.proofs.sizing.sizes_of_roots.Goals as goal

pub sizes_of_root-requires-clause-spot : goal.sizes_of_root-requires-clause-spot
sizes_of_root-requires-clause-spot c = λ spot e.
    let i = c.args.input.now in
    let x = c.index-roots-r.result in
    let r = c.loop-r.r in
    let roots = c.roots-roots.ensures.roots in
    let total = ap length roots in
    let lt : r < length i.roots = omega (arith, total, c.loop-r-test.true) in
    let is = c.index-roots-r.is ∙ ap (λ (xs : List RootInput). slice_index_or xs r x) roots in
    rw (roots, c.as_slice.ensures.value)
    (spot_sized i c.roots-roots.ensures.fits r lt c.loop-r.sizes.items c.loop-r.invariant.count c.loop-r.invariant.right x (root_there i.roots r x is lt) spot e)

pub loop-r-preserved : goal.loop-r-preserved
loop-r-preserved c =
    let i = c.args.input.now in
    let zs = c.loop-r.sizes.items in
    let z = c.in_ok-own.own in
    let r = c.loop-r.r in
    let roots = c.roots-roots.ensures.roots in
    let total = ap length roots in
    let lt : r < length i.roots = omega (arith, total, c.loop-r-test.true) in
    let is = c.index-roots-r.is ∙ ap (λ (xs : List RootInput). slice_index_or xs r c.index-roots-r.result) roots in
    let own = rw (roots, c.as_slice.ensures.value) at (c.in_ok-own.ensures {u = tt}) in
    let local : IsRightAt i.roots (Sizes zs) r (value.Size z) = λ y there.
    subst (λ (x : RootInput). IsLocal (whole_input i.roots (Sizes zs) x) (value.Size z)) (root_is i.roots r c.index-roots-r.result y is there) own in
    let pushed = (c.in_ok-push.ensures {u = tt}).items in
    let more = length-append zs (z ∷ []) in
    let count = c.loop-r.invariant.count in
    rw pushed (record {
      count = omega (arith, more, count);
      right = one_more_sizes i c.roots-roots.ensures.fits r lt zs count c.loop-r.invariant.right z local;
    })

pub returns : goal.returns
returns c =
    let i = c.args.input.now in
    let total = ap length c.roots-roots.ensures.roots in
    let count = c.loop-r.invariant.count in
    let until = c.loop-r.auto.r-end in
    let past = c.loop-r-test.false in
    record {
      phase = sym c.requires;
      count = omega (arith, total, count, until, past);
      each = λ s x there. c.loop-r.invariant.right s x there (let low = slice_get_within i.roots s x there in omega (arith, low, total, past));
    }
