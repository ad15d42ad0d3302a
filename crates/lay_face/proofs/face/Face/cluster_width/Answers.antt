use Rattle.std.proofs.Common.{arith, to_z, of_z, ap, sym, subst, ◌∙◌}
use Rattle.std.proofs.lemmas.Int.{ints}
use Rattle.lay_face.proofs.ClusterSums.{summed_first, summed_more, summed_all}
use mir.Syntax.{w128}
use Rattle.std.specs.Str.Iter.{chars_rest}
use Rattle.lay_units.specs.Units.{IsPosition}
use Rattle.lay_face.proofs.face.Face.cluster_width.Goals as goal

pub loop-c-preserved : goal.loop-c-preserved
loop-c-preserved c = (
  tt,
  tt,
  summed_more _ _ _ _ _ _ _ _ _ c.loop-c.invariant.2 c.in-Some.ensures.steps.0 c.char_width.ensures.value c.char_width.ensures.low
      c.char_width.ensures.high (omega (arith, ints)),
)

pub loop-c-init : goal.loop-c-init
loop-c-init c =
    let left = ap chars_rest c.into_iter-c-iterator.ensures.into_iter_gives ∙ c.chars-c-items.ensures.rest in
    let total = to_z w128 (of_z w128 c.spacing_after-total.result) in
    let value = c.spacing_after-total.ensures.value in
    let fits = c.spacing_after-total.ensures.fits in
    (tt, tt, rw left (summed_first c.args.self.now c.args.setting c.args.cluster.now total c.utf8.cluster (omega (arith, ints, value, fits.0, fits.1)) (omega (arith, ints, fits.0, fits.1), omega (arith, ints, fits.0, fits.1))))

pub narrowed-requires : goal.narrowed-requires
narrowed-requires c =
    subst IsPosition (sym (summed_all _ _ _ _ _ c.in-None.ensures.steps.0.0 c.loop-c.invariant.2)) c.requires.width

pub returns : goal.returns
returns c = c.narrowed.ensures ∙ summed_all _ _ _ _ _ c.in-None.ensures.steps.0.0 c.loop-c.invariant.2
