use Rattle.std.proofs.Common.{◌+◌, ◌<◌, ◌≤◌, ℕ, List, length, take, sym, subst, arith, rules}
use Rattle.std.specs.Prelude.{bit_or}
use Rattle.std.specs.List.{list_any}
use Rattle.std.proofs.lemmas.Grind.{common_steps}
use Rattle.std.proofs.lemmas.List.{take_all}
use Rattle.lay_sheet.specs.declared.selector.Step.{Step}
use Rattle.lay_cascade.specs.declared.windows.Place.TheVariants.{Classes}
use Rattle.lay_cascade.specs.Windows.{IsMask, asks_name, mask_of}
use Rattle.lay_cascade.proofs.ClassSets.{more_classes}
use Rattle.lay_cascade.proofs.Masks.{class_more}
use Rattle.lay_cascade.proofs.fitting.class_word.Goals as goal

pub loop-i-preserved : goal.loop-i-preserved
loop-i-preserved c =
    let window = c.args.window.now in
    let classes = c.args.classes.now in
    let i = c.loop-i.i in
    let class = c.bytes_at.result.now in
    let here : i < length classes = first_of (search rules, grind (arith, common_steps)) in
    let more = class_more window.steps.now window.from window.count window.classes (take i classes) class c.loop-i.word c.requires.classes c.loop-i.invariant in
    subst (λ (z : ℕ). IsMask window.steps.now window.from window.count (λ (s : Step). list_any (λ d. asks_name Classes d s) (take (i + 1) classes)) (bit_or c.loop-i.word z)) (sym c.of-word.ensures)
    (subst (λ (z : List (List ℕ)). IsMask window.steps.now window.from window.count (λ (s : Step). list_any (λ d. asks_name Classes d s) z) (bit_or c.loop-i.word (mask_of window.classes class)))
    (more_classes classes i class here c.bytes_at.ensures) more)

pub returns : goal.returns
returns c =
    let window = c.args.window.now in
    let classes = c.args.classes.now in
    let all : length classes ≤ c.loop-i.i = first_of (omega (arith, c.loop-i-test.false, c.loop-i.auto.i-end), search rules, grind (arith, common_steps)) in
    subst (λ (z : List (List ℕ)). IsMask window.steps.now window.from window.count (λ (s : Step). list_any (λ d. asks_name Classes d s) z) c.loop-i.word) (take_all c.loop-i.i classes all) c.loop-i.invariant
