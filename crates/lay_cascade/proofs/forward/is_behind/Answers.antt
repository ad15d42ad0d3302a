use Rattle.std.proofs.Common.{◌≡◌, ◌∙◌, ◌↔◌, ℕ, false, Some, None, sym, subst, rules, arith}
use Rattle.std.specs.Prelude.{slice_index_or, Option}
use Rattle.lay_cascade.specs.Matching.{Stands}
use Rattle.lay_cascade.specs.Columns.{IsReached}
use Rattle.lay_cascade.proofs.Columns.{says_false, says_of, reached_one, reached_none}
use Rattle.lay_cascade.proofs.forward.is_behind.Goals as goal

pub returns-in-Some : goal.returns-in-Some
returns-in-Some c =
    let nodes = c.args.named.nodes.now in
    let m = c.in-Some.m in
    let one : (n : ℕ) → (Some m ≡ Some n) ↔ Stands nodes c.args.joint n c.args.k = subst (λ (z : Option ℕ). (n : ℕ) → (z ≡ Some n) ↔ Stands nodes c.args.joint n c.args.k) c.in-Some.is c.before-2.ensures in
    says_of c.is_set.result (slice_index_or c.args.ends.now m false) (IsReached nodes c.args.ends.now c.args.joint c.args.k) c.is_set.ensures
    (reached_one nodes c.args.ends.now c.args.joint c.args.k m one)

pub returns-in-None : goal.returns-in-None
returns-in-None c =
    let nodes = c.args.named.nodes.now in
    let none : (n : ℕ) → (None ≡ Some n) ↔ Stands nodes c.args.joint n c.args.k = subst (λ (z : Option ℕ). (n : ℕ) → (z ≡ Some n) ↔ Stands nodes c.args.joint n c.args.k) c.in-None.is c.before-2.ensures in
    says_false (IsReached nodes c.args.ends.now c.args.joint c.args.k) (reached_none nodes c.args.ends.now c.args.joint c.args.k none)
