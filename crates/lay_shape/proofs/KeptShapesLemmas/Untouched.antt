-- A context is untouched where its boxes are kept and it is measured as before: it has the number that it had.
use Rattle.std.proofs.Common.{◌≡◌, ℕ, ◌<◌, Bool, false, List, length, sym, subst, ◌∙◌, arith}
use Rattle.lay_flow.specs.Blocks.Children.{flag_at}
use Rattle.lay_contexts.specs.Contexts.{Context, boxes_in}
use Rattle.lay_contexts.specs.FormattingContexts.{FormattingContext}
use Rattle.lay_shape.specs.Touched.ContextFlags.{AreContextFlags}
use Rattle.lay_shape.specs.Touched.TouchedContexts.{IsUntouched, IsUntouchedFrom}
use Rattle.lay_after_edits.specs.Contexts.Links.{is_made}
use Rattle.lay_shape.specs.KeptShapes.KeptBoxes.{KeepBoxes}
use Rattle.lay_shape.specs.Keys.{AreOfOwnNodes, node_of}

module _ (contexts later : List Context) (all rest : List FormattingContext) (made measured others : List Bool) (are : KeepBoxes contexts later made)
    (apart : AreOfOwnNodes contexts) (flags : AreContextFlags contexts all measured) (later_flags : AreContextFlags later rest others) (j : ℕ) (lt : j < length later) where
  before : j < length contexts
  before = omega (arith, lt, are.nodes.count)

  same-node : node_of later j ≡ node_of contexts j
  same-node = are.nodes.each j before

  -- it is from where it was
  by-itself : IsUntouched contexts later all rest j → IsUntouchedFrom contexts later all rest j j
  by-itself u =
      let e = apart u.0 j u.1.within before (u.1.node ∙ same-node) in
      subst (λ (i : ℕ). IsUntouchedFrom contexts later all rest i j) e u.1

  pub same-measured : IsUntouched contexts later all rest j → flag_at measured j ≡ flag_at others j
  same-measured u = flags.each j before ∙ ((by-itself u).measured ∙ sym (later_flags.each j lt))

  pub same-boxes : IsUntouched contexts later all rest j → boxes_in contexts j ≡ boxes_in later j
  same-boxes u = (by-itself u).boxes

  pub untouched : flag_at measured j ≡ flag_at others j → boxes_in contexts j ≡ boxes_in later j → IsUntouched contexts later all rest j
  untouched e boxes = (
    j,
    record {
      within = before;
      node = sym same-node;
      boxes = boxes;
      measured = sym (flags.each j before) ∙ (e ∙ later_flags.each j lt);
    },
  )

  pub kept-untouched : flag_at measured j ≡ flag_at others j → is_made made j ≡ false → IsUntouched contexts later all rest j
  kept-untouched e flag = untouched e (sym (are.kept j before flag))
