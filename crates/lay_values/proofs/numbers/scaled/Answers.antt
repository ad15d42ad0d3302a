use Rattle.std.proofs.Common.{arith, ◌+◌, ◌≤◌, ◌^◌, lit<}
use Rattle.std.proofs.Math.Nat.{one-le-pow, pow-le-pow_right, mul-pos}
use Rattle.std.proofs.lemmas.Nat.{mul-le}
use Rattle.lay_values.proofs.numbers.scaled.Goals as goal

pub signed_product-product-requires-clause-mantissa : goal.signed_product-product-requires-clause-mantissa
signed_product-product-requires-clause-mantissa c =
    let power : 10 ^ (9 + c.args.number.places) ≤ 10 ^ 27 = pow-le-pow_right (lit< tt) {i = 9 + c.args.number.places} {j = 27} (omega (arith, c.requires.short.few)) in
    omega (arith, power, c.requires.short.small)

pub floor-requires-2-clause-positive : goal.floor-requires-2-clause-positive
floor-requires-2-clause-positive c =
    rw c.pow.ensures (mul-pos c.requires.positive (one-le-pow c.args.number.places 10 (lit< tt)))

pub floor-requires-2-clause-small : goal.floor-requires-2-clause-small
floor-requires-2-clause-small c =
    let power : 10 ^ c.args.number.places ≤ 10 ^ 18 = pow-le-pow_right (lit< tt) {i = c.args.number.places} {j = 18} c.requires.short.few in
    rw c.pow.ensures (omega (arith, mul-le c.args.denominator (10 ^ c.args.number.places) (10 ^ 3) (10 ^ 18) c.requires.denominator power))
