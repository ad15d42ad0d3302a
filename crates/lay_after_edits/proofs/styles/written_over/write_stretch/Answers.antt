use Rattle.std.proofs.Common.{◌≡◌, ◌<◌, arith, length, refl, subst}
use Rattle.lay_doc.specs.Document.{declarations_of, parents_of}
use Rattle.lay_after_edits.proofs.Cited.{length-parents}
use Rattle.lay_after_edits.proofs.StylesLemmas.WrittenStyles.{WrittenTo, all_written, none_written, one_written, same_outside}
use Rattle.lay_after_edits.proofs.styles.written_over.write_stretch.Goals as goal

pub loop-k-init : goal.loop-k-init
loop-k-init c = none_written (parents_of c.args.nodes.now) (declarations_of c.args.nodes.now) c.args.styles.now.items c.requires.tree c.args.stretch.from

pub write_style-requires-clause-within : goal.write_style-requires-clause-within
write_style-requires-clause-within c =
    omega (arith, c.loop-k-test.true, c.requires.kept.within, c.requires.stays, length-parents c.args.nodes.now)

pub write_style-requires-clause-there : goal.write_style-requires-clause-there
write_style-requires-clause-there c =
    let known = c.loop-k.invariant in
    omega (arith, c.loop-k-test.true, c.requires.kept.within, c.requires.kept.count, c.requires.stays, known.count)

pub loop-k-preserved : goal.loop-k-preserved
loop-k-preserved c =
    let parents = parents_of c.args.nodes.now in
    let decls = declarations_of c.args.nodes.now in
    let was = c.args.styles.now.items in
    let within : c.loop-k.k < length parents = omega (arith, c.loop-k-test.true, c.requires.kept.within, c.requires.stays) in
    let count : length parents ≡ length was = omega (arith, c.requires.kept.count, c.requires.stays) in
    let from = c.loop-k.auto.k in
    rw c.write_style.ensures
    (one_written parents decls was c.requires.tree c.args.stretch.from c.loop-k.k c.loop-k.styles.items _ c.loop-k.invariant from within count refl)

pub returns-clause-styles : goal.returns-clause-styles
returns-clause-styles c =
    let parents = parents_of c.args.nodes.now in
    let decls = declarations_of c.args.nodes.now in
    let was = c.args.styles.now.items in
    let all : c.loop-k.k ≡ c.args.stretch.until = omega (arith, c.loop-k-test.false, c.loop-k.auto.k-end, c.requires.kept.starts) in
    all_written parents decls was c.requires.tree c.args.stretch c.requires.kept c.requires.stays c.loop-k.styles.items
    (subst (WrittenTo parents decls was c.args.stretch.from c.loop-k.styles.items) all c.loop-k.invariant)

pub returns-clause-same : goal.returns-clause-same
returns-clause-same c =
    let parents = parents_of c.args.nodes.now in
    let decls = declarations_of c.args.nodes.now in
    let was = c.args.styles.now.items in
    let all : c.loop-k.k ≡ c.args.stretch.until = omega (arith, c.loop-k-test.false, c.loop-k.auto.k-end, c.requires.kept.starts) in
    same_outside parents decls was c.requires.tree c.args.stretch c.requires.kept c.requires.stays c.loop-k.styles.items
    (subst (WrittenTo parents decls was c.args.stretch.from c.loop-k.styles.items) all c.loop-k.invariant)
