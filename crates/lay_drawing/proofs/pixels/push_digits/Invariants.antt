use Rattle.std.proofs.Common.{◌≡◌, ℕ, ◌+◌, ◌<◌, ◌++◌, string_bytes}
use Rattle.lay_drawing.specs.Pixels.{fraction_digits}
use Rattle.lay_drawing.proofs.pixels.push_digits.Given as goal

abbrev pub invariant-loop : goal.invariant-loop
invariant-loop l = record {
  low : l.left < 64;
  digits : (most : ℕ) × (most + l.counter ≡ 6) × (string_bytes l.text ++ fraction_digits most l.left ≡ string_bytes l.fn.text ++ fraction_digits 6 l.rest);
}
