use Rattle.std.proofs.Common.{◌≡◌, ℤ, ◌+ℤ◌, ◌-ℤ◌, to_z, of_z, w64, refl, ap, arith}
use Rattle.std.specs.Int.{int_max}
use Rattle.std.proofs.lemmas.Int.{ints, clamps}
use Rattle.lay_units.specs.declared.length.Unit.{Unit as Length}
use Rattle.lay_table.proofs.row_needs.content_edge.Goals as goal

pub returns : goal.returns
returns c =
    let m = c.max.ensures.value in let f = c.border_height-given.ensures in let g = c.given_height.ensures.value in
    let u = c.given_height.ensures.size.0 in let v = c.given_height.ensures.size.1 in
    let n = c.requires.natural.0 in let o = c.requires.natural.1 in
    let s = c.requires.sizes.top.0 in let t = c.requires.sizes.top.1 in let a = c.requires.sizes.bottom.0 in let b = c.requires.sizes.bottom.1 in
    let e : c.border_height-given.result.0 ≡ ((c.given_height.result.0 +ℤ c.args.sizes.edges.top.0) +ℤ c.args.sizes.edges.bottom.0) = ap (λ (w : Length). w.0) f in
    let same : to_z w64 (of_z w64 (to_z w64 (of_z w64 c.max.result) -ℤ to_z w64 (of_z w64 c.args.sizes.edges.bottom.0)))
    ≡ (int_max c.args.natural.0 c.border_height-given.result.0 -ℤ c.args.sizes.edges.bottom.0) = omega (arith, ints, clamps, m, e, u, v, n, o, s, t, a, b) in
    rw (same, f, g) refl
