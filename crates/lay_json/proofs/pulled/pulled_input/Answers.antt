use Rattle.std.proofs.Common.{◌≡◌, ◌∷◌, [], true, Ok, refl, sym, subst, arith, rules}
use Rattle.json.specs.Token.{begin_object}
use Rattle.json.specs.Lex.{tokens}
use Rattle.serde_json.specs.View.{view}
use Rattle.lay_run.specs.Runs.{IsListed}
use Rattle.lay_json.specs.RunDocument.{viewport_sides}
use Rattle.lay_json.specs.Pulled.{AreMembers, IsTaken}
use Rattle.lay_json.proofs.Listed.{document_listed}
use Rattle.lay_json.proofs.Pulling.{say}
use Rattle.lay_json.proofs.pulled.pulled_input.Goals as goal

pub read_with-requires : goal.read_with-requires
read_with-requires c =
    let it = c.in_ok-taken.ensures in
    let taken = c.in_ok-taken.taken in
    subst (IsListed taken.doc) (sym it.5.1) (document_listed it.1 it.2 c.in_ok-viewport.viewport taken.doc it.5.0)

pub returns : goal.returns
returns c =
    let bytes = c.args.bytes.now in
    let t1 = c.begin_object.new.self in
    let t2 = c.members_before.new.cursor in
    let before = view c.in_ok-before.before in
    let viewport = c.in_ok-viewport.viewport in
    let taken = c.in_ok-taken.taken in
    let it = c.in_ok-taken.ensures in
    let behind = c.in_ok-after.ensures in
    let opened : tokens bytes ≡ begin_object ∷ t1 = first_of (search rules, grind arith) in
    let yes : c.in_ok-before.is_nodes ≡ true = first_of (search rules, grind arith) in
    let sized : viewport_sides before ≡ Ok viewport = first_of (search rules, grind arith) in
    let a : AreMembers t1 before true t2 = subst (λ b. AreMembers t1 before b t2) yes c.in_ok-before.ensures in
    let was = subst (λ n. IsTaken viewport n it.1 it.2 taken) c.has_sheet-named.ensures it.5 in
    say bytes t1 t2 it.0 c.taken_of.new.cursor [] before (view c.in_ok-after.after) it.1 it.2 viewport taken c.in_ok-read_with.field-0 c.in-Ok.ensures.cases.1 opened a
    it.3 it.4 behind.0 refl behind.1 sized was c.in_ok-read_with.ensures
