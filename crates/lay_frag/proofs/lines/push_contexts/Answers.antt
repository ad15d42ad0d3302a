use Rattle.std.proofs.Common.{◌≡◌, ◌∙◌, ◌++◌, ℕ, List, Some, ap, append_assoc, slice_get, sym, take}
use Rattle.std.proofs.lemmas.Option.{slice_get-get_or}
use Rattle.lay_frag.specs.Lines.{context_text, tree_text}
use Rattle.lay_frag.proofs.NumberSteps.{lines_ascii, lines_more}
use Rattle.lay_frag.proofs.lines.push_contexts.Goals as goal

pub loop-placed-preserved : goal.loop-placed-preserved
loop-placed-preserved c =
    let contexts = c.args.contexts.now in
    let k = c.loop-placed.placed-index in
    let old = c.args.bytes.now.items in
    let here = c.placed-item.result in
    let is : slice_get contexts k ≡ Some here = slice_get-get_or contexts k here c.loop-placed-test.true ∙ ap Some (sym c.placed-item.is) in
    let before = tree_text (take k contexts) in
    record {
      added = c.in_ok-push_context.ensures.added
          ∙ (ap (λ (bs : List ℕ). bs ++ context_text here) c.loop-placed.invariant.added
          ∙ (append_assoc old before (context_text here) ∙ ap (λ (bs : List ℕ). old ++ bs) (sym (lines_more context_text contexts k here is))));
      ascii = lines_ascii context_text contexts k here is c.loop-placed.invariant.ascii c.in_ok-push_context.ensures.ascii;
    }
