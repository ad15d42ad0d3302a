use Rattle.std.proofs.Common.{◌≡◌, ◌∙◌, ◌+◌, ◌<◌, ℕ, Some, None, sym, ap, subst, arith, rules}
use Rattle.std.specs.Prelude.{option_map}
use Rattle.std.proofs.lemmas.Grind.{common_steps}
use Rattle.lay_cascade.specs.Windows.{IsMask, asks_name, mask_of, name_in}
use Rattle.lay_cascade.proofs.Masks.{names_with, names_without}
use Rattle.lay_cascade.proofs.windows.names_of.Goals as goal
use Rattle.lay_cascade.proofs.windows.names_of.Goals.{in-Some+in_ok-add-in-Some, in-None}

pub loop-j-preserved : goal.loop-j-preserved
loop-j-preserved c =
    let steps = c.args.steps.now in
    let from = c.args.from in
    let j = c.loop-j.j in
    let step = c.step_at.result.now in
    let few : j < 64 = first_of (search rules, grind (arith, common_steps)) in
    elim c.match-name_in.branch [
      | in-Some+in_ok-add-in-Some w ↦
          let name = w.in-Some.name.now in
          let is : name_in c.args.place step.simple ≡ Some name = sym c.name_in.ensures ∙ ap (option_map (λ n. n.now)) w.in-Some.is in
          rw w.masks-is (names_with steps from j c.args.place c.loop-j.masks w.add.new.self step name c.step_at.ensures few is w.in_ok-add-in-Some.ensures c.loop-j.invariant)
      | in-None w ↦
          let is : name_in c.args.place step.simple ≡ None = sym c.name_in.ensures ∙ ap (option_map (λ n. n.now)) w.in-None.is in
          rw w.masks-is (names_without steps from j c.args.place c.loop-j.masks step c.step_at.ensures is c.loop-j.invariant)
    ]

pub returns : goal.returns
returns c = λ q.
    let all : c.loop-j.j ≡ c.args.count = first_of (omega (arith, c.loop-j-test.false, c.loop-j.auto.j-end), search rules, grind (arith, common_steps)) in
    subst (λ (z : ℕ). IsMask c.args.steps.now c.args.from z (asks_name c.args.place q) (mask_of c.loop-j.masks q)) all (c.loop-j.invariant q).told
