use Rattle.std.specs.Int.{w128, int_max}
use Rattle.std.proofs.Common.{◌≡◌, ℤ, to_z, of_z, ap, ◌∙◌, arith}
use Rattle.std.proofs.lemmas.Int.{ints}
use Rattle.lay_table_sizes.proofs.used_width.auto_width.Goals as goal

pub returns-clause-width : goal.returns-clause-width
returns-clause-width c =
    let wide : to_z w128 (of_z w128 c.widest.result) ≡ c.widest.result = omega (arith, ints) in
    let content : to_z w128 (of_z w128 c.captions_content-captions.result) ≡ c.captions_content-captions.result = omega (arith, ints) in
    let widest : c.widest.result ≡ int_max c.solve_float-out.result.width.0 (int_max c.args.least.0 (to_z w128 (of_z w128 c.captions_content-captions.result))) = c.widest.ensures in
    record {
      out = c.solve_float-out.result;
      is_used = c.solve_float-out.ensures;
      width_is = c.in_ok-width.ensures.value
          ∙ (wide ∙ (widest ∙ ap (λ (z : ℤ). int_max c.solve_float-out.result.width.0 (int_max c.args.least.0 z)) (content ∙ c.captions_content-captions.ensures)));
    }
