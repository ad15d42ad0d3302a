use Rattle.std.proofs.Common.{◌≡◌, ◌∙◌, ◌++◌, [], refl, sym, true, false, rules, arith}
use Rattle.std.proofs.lemmas.Grind.{common_steps}
use Rattle.lay_sheet.specs.Declarations.{declaration_of_part}
use Rattle.lay_sheet.specs.Pieces.{block_to}
use Rattle.lay_sheet.specs.Lists.{with_found}
use Rattle.lay_sheet.proofs.Grammar.{next_part, block_ends}
use Rattle.lay_sheet.proofs.declaration.declarations_of.Goals as goal

pub loop-open-preserved : goal.loop-open-preserved
loop-open-preserved c =
    let opened : c.loop-open.open ≡ true = first_of (search rules, grind (arith, common_steps)) in
    let pushed : c.push_part.new.decls.items ≡ c.loop-open.decls.items ++ with_found (declaration_of_part c.split_part-part.result.text.now) [] = first_of (search rules, grind (arith, common_steps)) in
    let so_far = c.loop-open.invariant.going opened in
    let part = c.split_part-part.result in
    record {
      going = λ still. let last : part.is_last ≡ false = first_of (search rules, grind (arith, common_steps)) in
          next_part (block_to 0 c.args.text.now) c.loop-open.decls.items (block_to 0 c.loop-open.rest.now) so_far ((c.split_part-part.ensures.more last).2) part.text.now (block_to 0 part.rest.now)
          (declaration_of_part part.text.now) c.push_part.new.decls.items c.split_part-part.ensures.part (sym (c.split_part-part.ensures.more last).0) refl pushed;
      going_rest = λ still. let last : part.is_last ≡ false = first_of (search rules, grind (arith, common_steps)) in
          c.loop-open.invariant.going_rest opened ∙ (c.split_part-part.ensures.more last).1;
      done = λ ended. let last : part.is_last ≡ true = first_of (search rules, grind (arith, common_steps)) in
          block_ends (block_to 0 c.args.text.now) c.loop-open.decls.items (block_to 0 c.loop-open.rest.now) so_far part.text.now c.push_part.new.decls.items c.split_part-part.ensures.part (c.split_part-part.ensures.last last).0 pushed;
      shorter = first_of (search rules, grind (arith, common_steps));
      done_rest = λ ended. let last : part.is_last ≡ true = first_of (search rules, grind (arith, common_steps)) in
          (c.split_part-part.ensures.last last).1 ∙ sym (c.loop-open.invariant.going_rest opened);
    }
