use Rattle.std.proofs.Common.{refl, arith}
use Rattle.lay_audit.specs.Readings.{basis_of}
use Rattle.lay_audit.proofs.ReadSteps.{none_read}
use Rattle.lay_audit.proofs.Taking.{first_played}
use Rattle.lay_audit.proofs.reading.Reading.new.Goals as goal

pub returns-clause-read : goal.returns-clause-read
returns-clause-read c = λ face.
    none_read (basis_of c.args.doc.now face c.args.scripts.now) c.args.report.now _ refl refl
    (first_played (basis_of c.args.doc.now face c.args.scripts.now) c.in_ok-present.present c.none-tree.result ((c.in_ok-present.ensures {u = tt}).is face))

pub returns-clause-steady : goal.returns-clause-steady
returns-clause-steady c =
    let few = c.report_fits.ensures in let none = (c.in_ok-present.ensures {u = tt}).count in
    record { lists = c.lists_fit.ensures; room = omega (arith, few); few = omega (arith, none); editors = (c.in_ok-present.ensures {u = tt}).editors }
