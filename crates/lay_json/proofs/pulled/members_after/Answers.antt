use Rattle.std.proofs.Common.{◌≡◌, false, true, subst, arith, rules}
use Rattle.serde_json.specs.View.{view}
use Rattle.lay_json.specs.Pulled.{AreMembers}
use Rattle.lay_json.proofs.pulled.members_after.Goals as goal

pub returns : goal.returns
returns c =
    let old = c.args.cursor.now in
    let new = c.members_before.new.cursor in
    let m = view c.in_ok-members.members in
    let none : c.in_ok-members.more_nodes ≡ false = first_of (search rules, grind arith) in
    let last : c.is_at_end.result ≡ true = first_of (search rules, grind arith) in
    let later : c.is_after.result ≡ true = first_of (search rules, grind arith) in (
      subst (λ ts. AreMembers old m false ts) (c.is_at_end.ensures last) (subst (λ b. AreMembers old m b new) none c.in_ok-members.ensures),
      c.is_after.ensures later,
    )
